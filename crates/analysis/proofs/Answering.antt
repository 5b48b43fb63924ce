-- The solver's answer: its questions, and the list that it leaves in the buffer.
use Rattle.std.specs.Prelude.{Result, Err, Ok}
use Rattle.std.proofs.Common.{◌≡◌, ℕ, zero, suc, ◌+◌, ◌*◌, ◌/◌, ◌≤◌, min, Bool, false, List, [], ◌∷◌, ◌++◌, length, get_or, take, sym, refl, ap, ◌∙◌, subst, append_assoc, append-nil, mul-le-mul_left, mul-zero, mul-suc, arith, take-append-drop, length-take-le, take-add}
use mathlib.Core.List.{foldl, flatten}
use native.Mathlib.Nat.{mul-div-le}
use Rattle.signs.specs.Lists.{tabulate}
use Rattle.program.specs.Asking.{ask, then_ask, Validity}
use Rattle.program.specs.Drawing.{over}
use Rattle.program.specs.File.{sizes}
use Rattle.program.specs.Graph.{Graph, graph}
use Rattle.program.specs.Parts.Prepared.{Coded, name_count_place}
use Rattle.program.specs.Questions.{validity}
use Rattle.program.specs.declared.Construction.{Construction}
use Rattle.program.specs.declared.Refusal.{Refusal}
use Rattle.program.proofs.Lists.{length_tabulate}
use Rattle.analysis.specs.Parts.Membership.{Indexed}
use Rattle.analysis.specs.Records.{initial_width, record_width, record_at, records_of, whole_records, initial_whole, initial_formed, wrong_byte}
use Rattle.analysis.specs.Solver.{Found, offer, descend, solution, room_of, finished_or, solved_with, buffer_with, initial_validity, solution_in, solved, solved_buffer, solved_numbers, solver_row}
use Rattle.analysis.specs.Parts.Solving.{found_in, Growing, Extended, Answered}
use Rattle.analysis.specs.declared.RecordList.TheVariants.{Initial}
use Rattle.analysis.specs.declared.Solved.{Solved}
use Rattle.analysis.specs.declared.Unreadable.{Unreadable}
use Rattle.analysis.specs.declared.Unreadable.TheVariants.{Refused as Refuses, Malformed}
use Rattle.analysis.specs.declared.solver.Progress.{Progress}

-- ---- The list

-- before the first record, in the buffer's whole records, at most 4,096; and from there on
pub growing_none : {names : ℕ} (buffer : List ℕ) → names ≤ 32 → (index : List ℕ) → ((width : ℕ) (bytes : List ℕ) → Indexed width bytes 0 index)
    → Growing (2 + names) buffer index (record { count = 0; room = min 4096 (length buffer / (2 + names)); full = false })
growing_none {names} buffer few index none =
    let room = min 4096 (length buffer / (2 + names)) in
    record {
      wide = omega arith;
      most = omega arith;
      fits = omega (arith, mul-le-mul_left {m = room} {n = length buffer / (2 + names)} (2 + names) (omega arith), mul-div-le (length buffer) (2 + names));
      few = omega arith;
      indexed = none (2 + names) buffer;
    }

pub solution_found : (ns : List ℕ) (g : Graph) (initial : List ℕ) (room width : ℕ) (buffer : List ℕ) (none : Progress) → none.count ≡ 0 → none.full ≡ false → {f f' : Found}
    → f ≡ foldl (offer ns room 0) (found_in width buffer none) (records_of (initial_width ns) initial) → f' ≡ descend room ns g room 0 f → f' ≡ solution ns g initial room
unfolding solution found_in tabulate
solution_found ns g initial room width buffer none c d {f} {f'} p q =
    q
    ∙ ap (descend room ns g room 0)
    (p ∙ rw (c, d))

pub room_of_lem : {ns code : List ℕ} → Coded ns code → (buffer : List ℕ) {names : ℕ} → names ≡ get_or code name_count_place 0 → min 4096 (length buffer / (2 + names)) ≡ room_of ns (length buffer)
unfolding room_of record_width
room_of_lem x buffer e = ap (λ (n : ℕ). min 4096 (length buffer / (2 + n))) (e ∙ x.count)

-- the records that begin a buffer are its front
flatten_more : (rs : List (List ℕ)) (r : List ℕ) → flatten (rs ++ (r ∷ [])) ≡ flatten rs ++ r
unfolding flatten
flatten_more [] r = append-nil r
flatten_more (x ∷ xs) r = rw (flatten_more xs r) (sym (append_assoc x (flatten xs) r))

flatten_found : (width n : ℕ) (buffer : List ℕ) → flatten (tabulate n (record_at width buffer)) ≡ take (width * n) buffer
unfolding flatten tabulate record_at
flatten_found width zero buffer = rw mul-zero
flatten_found width (suc n) buffer = flatten_more (tabulate n (record_at width buffer)) (record_at width buffer n) ∙ rw (flatten_found width n buffer, mul-suc) (sym (take-add (width * n) width buffer))

-- ---- The answer

module _ {f : Found} {before : List ℕ} where
  pub answered_found : (width : ℕ) (buffer : List ℕ) (p : Progress) {q : Progress} {index : List ℕ} → Extended width before q buffer index p → found_in width buffer p ≡ f
      → {r : Solved} → r ≡ record { solving = finished_or p.full; count = p.count } → Answered (Ok tt) (Ok tt) f before buffer (Ok r)
  unfolding solved_with buffer_with found_in over
  answered_found width buffer p x e {r} same =
      record {
        reply = ap Ok (same ∙ ap (λ (n : ℕ). record { solving = finished_or p.full; count = n }) (sym (length_tabulate p.count (record_at width buffer)))) ∙ ap (solved_with (Ok tt) (Ok tt)) e;
        buffer = laid ∙ ap (λ (v : Found). buffer_with (Ok tt) (Ok tt) v before) e;
      }
    where
      long : length (take (width * p.count) buffer) ≡ width * p.count
      long = length-take-le (width * p.count) buffer (omega (arith, x.growing.fits, mul-le-mul_left {m = p.count} {n = p.room} width x.growing.few))

      laid : buffer ≡ over (flatten (tabulate p.count (record_at width buffer))) before
      laid = rw (flatten_found width p.count buffer, long, ← x.past) (sym (take-append-drop (width * p.count) buffer))

  -- by the answer to each question
  pub answered_formed : {asked formed : Validity} {buffer : List ℕ} {r : Result Solved Unreadable} → formed ≡ Ok tt → Answered asked (Ok tt) f before buffer r → Answered asked formed f before buffer r
  answered_formed {asked} {formed} {buffer} {r} e a = subst (λ (v : Validity). Answered asked v f before buffer r) (sym e) a

  pub answered_asked : {asked then formed : Validity} {buffer : List ℕ} {r : Result Solved Unreadable} → asked ≡ then → Answered then formed f before buffer r → Answered asked formed f before buffer r
  answered_asked {asked} {then} {formed} {buffer} {r} e a = subst (λ (v : Validity). Answered v formed f before buffer r) (sym e) a

  pub answered_malformed : {formed : Validity} (x : Refusal) {r : Result Solved Unreadable} → formed ≡ Err x → r ≡ Err (Malformed (wrong_byte Initial x)) → Answered (Ok tt) formed f before before r
  unfolding solved_with buffer_with
  answered_malformed x {r} e p = subst (λ (v : Validity). Answered (Ok tt) v f before before r) (sym e) (record { reply = p; buffer = refl })

  pub answered_refused : {asked formed : Validity} (x : Refusal) {r : Result Solved Unreadable} → asked ≡ Err x → r ≡ Err (Refuses x) → Answered asked formed f before before r
  unfolding solved_with buffer_with
  answered_refused {asked} {formed} x {r} e p = subst (λ (v : Validity). Answered v formed f before before r) (sym e) (record { reply = p; buffer = refl })

-- question 16 as code asks it, after the file's questions
pub whole_asked : {ns code : List ℕ} → Coded ns code → (initial : List ℕ) {names : ℕ} {b : Bool} {v : Validity} → names ≡ get_or code name_count_place 0 → b ≡ whole_records names initial → v ≡ ask b 16 0
    → initial_whole ns initial ≡ v
unfolding initial_whole initial_width
whole_asked x initial e p q = sym (q ∙ ap (λ (b : Bool). ask b 16 0) p ∙ ap (λ (n : ℕ). ask (whole_records n initial) 16 0) (e ∙ x.count))

pub validity_fit : (s initial : List ℕ) → validity s ≡ Ok tt → initial_validity s initial ≡ initial_whole (sizes s) initial
unfolding initial_validity then_ask
validity_fit s initial e = rw e

pub validity_refused : (s initial : List ℕ) (x : Refusal) → validity s ≡ Err x → initial_validity s initial ≡ Err x
unfolding initial_validity then_ask
validity_refused s initial x e = rw e

-- the clauses of the contract
pub answered_all : (κ : Construction) (s initial buffer : List ℕ) {buffer' : List ℕ} {r : Result Solved Unreadable}
    → Answered (initial_validity s initial) (initial_formed (sizes s) initial) (solution (sizes s) (graph κ s) initial (room_of (sizes s) (length buffer))) buffer buffer' r
    → record { value : (r ≡ solved κ s initial buffer) × (buffer' ≡ solved_buffer κ s initial buffer); numbers : solved_numbers r ≡ solver_row κ s initial buffer }
unfolding solver_row solved solved_buffer solution_in
answered_all κ s initial buffer a = record { value = (a.reply, a.buffer); numbers = ap solved_numbers a.reply }
