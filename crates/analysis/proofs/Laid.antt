-- How records lie in their lists.
use Rattle.std.specs.Prelude.{Ok}
use Rattle.std.proofs.Common.{◌≡◌, ℕ, zero, suc, ◌+◌, ◌-◌, ◌*◌, ◌/◌, ◌<◌, ◌≤◌, Bool, true, false, cond, not, ◌&&◌, ◌||◌, eqb, leb, List, [], ◌∷◌, ◌++◌, length, get_or, take, drop, set, replicate, sym, refl, ap, ◌∙◌, append_assoc, le_refl, add-zero, add_assoc, suc-add, mul-le-mul_left, zero-add, mul-suc, arith, length-append, length-drop, length-set, length-take, length-take-le, get_or-drop, get_or-take, take-take, drop-drop, take_at, ext_get_or, drop_at, ltb-true, ne_eqb}
use mathlib.Core.Bool.{false≢true}
use native.Mathlib.Decide.{ℕ_discrete, dec_lt}
use native.Mathlib.Nat.{mul-div-le}
use lib.ListN.{length-replicate, get_or-append, get_or-eq_default}
use Rattle.std.proofs.lemmas.List.{get_or-append_right}
use Rattle.program.proofs.Lists.{get_or_same}
use lib.Seq.{take-nil, set_out}
use Rattle.program.specs.Asking.{ask, ask_each, is_refused, Validity}
use Rattle.program.specs.Drawing.{over}
use Rattle.program.specs.Parts.DrawingParts.{over_at}
use Rattle.program.specs.File.{byte_at, word_at}
use Rattle.program.specs.Graph.{Graph, word_bytes}
use Rattle.program.specs.Parts.Prepared.{Coded, size_in, name_count_place}
use Rattle.program.proofs.Asking.{then_first, then_second}
use Rattle.signs.proofs.Lists.{or_false}
use Rattle.program.proofs.Laws.{ask_fit, each_fit, each_goes_on, each_same}
use Rattle.analysis.specs.Abstraction.{well_formed}
use Rattle.analysis.specs.Parts.Changing.{Alike}
use Rattle.analysis.specs.Parts.Judging.{ReadInto}
use Rattle.analysis.specs.Parts.Membership.{Front, changed}
use Rattle.analysis.specs.Parts.RecordParts.{padded, SizesIn, record_formed}
use Rattle.analysis.specs.Records.{initial_width, record_width, record_count, record_at, node_of, memory_of, record_for, memory_formed, initial_formed, solution_formed}
use Rattle.analysis.specs.declared.Change.{Change}
use Rattle.analysis.proofs.Hashes.{part_at, padded_at, padded_past, padded_length}

-- a record that is counted is inside its list
pub record_inside : (n width k : ℕ) → k < n / width → width * k + width ≤ n
record_inside n width k h = omega (arith, mul-le-mul_left {m = suc k} width h, mul-suc width k, mul-div-le n width)

or_known : (a b : Bool) → (a ≡ true → b ≡ true) → (a || b) ≡ b
or_known true b k = sym (k refl)
or_known false b k = refl

-- question 17 of the byte of name i, by the sizes in the code
abbrev pub byte_asked : List ℕ → List ℕ → ℕ → ℕ → Validity
byte_asked code bytes at i = ask (well_formed (size_in code i) (byte_at bytes (at + i))) 17 (at + i)

-- by tests of which none is left out; and with one byte more
pub formed_by_tests : (size b : ℕ) → ((eqb b 1 || eqb b 2 || eqb b 4) || (not (eqb size 0) && (leb 1 b && leb b 7))) ≡ well_formed size b
unfolding well_formed
formed_by_tests size b = by (eqb size 0) one_known
  where
    one_known : (eqb b 1 || eqb b 2 || eqb b 4) ≡ true → (leb 1 b && leb b 7) ≡ true
    one_known p =
        elim (ℕ_discrete b 1) [
          | yes e ↦ rw e
          | no n1 ↦
              elim (ℕ_discrete b 2) [
                | yes e ↦ rw e
                | no n2 ↦
                    elim (ℕ_discrete b 4) [
                      | yes e ↦ rw e
                      | no n4 ↦ absurd (false≢true (sym (rw (ne_eqb b 1 n1, ne_eqb b 2 n2, ne_eqb b 4 n4)) ∙ p))
                    ]
              ]
        ]

    by : (z : Bool) → ((eqb b 1 || eqb b 2 || eqb b 4) ≡ true → (leb 1 b && leb b 7) ≡ true)
        → ((eqb b 1 || eqb b 2 || eqb b 4) || (not z && (leb 1 b && leb b 7))) ≡ cond z (eqb b 1 || eqb b 2 || eqb b 4) (leb 1 b && leb b 7)
    by true k = or_false (eqb b 1 || eqb b 2 || eqb b 4)
    by false k = or_known (eqb b 1 || eqb b 2 || eqb b 4) (leb 1 b && leb b 7) k

pub byte_passed : (code bytes : List ℕ) (at i : ℕ) → ask_each i (byte_asked code bytes at) ≡ Ok tt → well_formed (size_in code i) (byte_at bytes (at + i)) ≡ true
    → ask_each (suc i) (byte_asked code bytes at) ≡ Ok tt
unfolding ask is_refused
byte_passed code bytes at i e p = each_goes_on (byte_asked code bytes at) i _ _ e refl refl (rw p)

-- of a memory, of a start list and of a solution
module _ {ns code : List ℕ} {names : ℕ} (y : SizesIn ns code names) (bytes : List ℕ) where
  pub memory_asked : (at : ℕ) → ask_each names (byte_asked code bytes at) ≡ memory_formed ns bytes at
  unfolding memory_formed
  memory_asked at =
      each_same names _ _ (λ k h. ap (λ (size : ℕ). ask (well_formed size (byte_at bytes (at + k))) 17 (at + k)) (sym (y.size k h)))
      ∙ ap (λ (n : ℕ). ask_each n (λ i. ask (well_formed (get_or ns i 0) (byte_at bytes (at + i))) 17 (at + i))) (sym y.count)

  pub initial_asked : ask_each (length bytes / names) (λ k. memory_formed ns bytes (names * k)) ≡ initial_formed ns bytes
  unfolding initial_formed record_count initial_width
  initial_asked = ap (λ (n : ℕ). ask_each (length bytes / n) (λ k. memory_formed ns bytes (n * k))) (sym y.count)

  pub solution_asked : (g : Graph) {nodes : ℕ} → g.nodes ≡ nodes → ask_each (length bytes / (2 + names)) (λ k. record_formed ns nodes bytes ((2 + names) * k)) ≡ solution_formed ns g bytes
  unfolding solution_formed record_count record_width record_formed
  solution_asked g {nodes} e =
      ap (λ (n : ℕ). ask_each (length bytes / (2 + n)) (λ k. record_formed ns nodes bytes ((2 + n) * k))) (sym y.count)
      ∙ ap (λ (n : ℕ). ask_each (length bytes / (2 + length ns)) (λ k. record_formed ns n bytes ((2 + length ns) * k))) (sym e)

-- ---- Records as they are read

-- a part of a list from a place on
part_taken : {A : Type 0} (n m : ℕ) (l : List A) → drop n (take (n + m) l) ≡ take m (drop n l)
part_taken zero m l = ap (λ (k : ℕ). take k l) (zero-add m)
part_taken (suc n) m [] = rw (take-nil (suc n + m), take-nil m)
part_taken (suc n) m (x ∷ l) = rw suc-add (part_taken n m l)

-- it reads like the array that its bytes are read into
part_padded : (bytes : List ℕ) (at names : ℕ) → names ≤ 32 → (x : ℕ) → get_or (take names (drop at bytes)) x 0 ≡ get_or (padded bytes at names) x 0
part_padded bytes at names few x =
    elim (dec_lt x names) [
      | yes h ↦ part_at bytes at names x h ∙ sym (padded_at bytes at names x few h)
      | no h ↦ get_or-eq_default (take names (drop at bytes)) 0 (omega (arith, length-take names (drop at bytes))) ∙ sym (padded_past bytes at names x (omega arith))
    ]

part_length : (bytes : List ℕ) (at names : ℕ) → at + names ≤ length bytes → length (take names (drop at bytes)) ≡ names
part_length bytes at names h = length-take-le names (drop at bytes) (omega (arith, length-drop at bytes))

-- copied over an array of zeros, it is that array
pub copied : (bytes : List ℕ) (at names : ℕ) → names ≤ 32 → at + names ≤ length bytes → take names (drop at bytes) ++ drop names (replicate 32 0) ≡ padded bytes at names
copied bytes at names few h = ext_get_or 0 _ _ (omega (arith, sized, padded_length bytes at names)) (λ x l. each x)
  where
    rest : List ℕ
    rest = drop names (replicate 32 0)

    front : length (take names (drop at bytes)) ≡ names
    front = part_length bytes at names h

    sized : length (take names (drop at bytes) ++ rest) ≡ 32
    sized = simp (length-append, length-drop) (omega (arith, front, length-replicate {A = ℕ} 32 0))

    each : (x : ℕ) → get_or (take names (drop at bytes) ++ rest) x 0 ≡ get_or (padded bytes at names) x 0
    each x =
        elim (dec_lt x names) [
          | yes l ↦ get_or-append _ rest 0 x (omega (arith, front)) ∙ part_padded bytes at names few x
          | no l ↦
              get_or-append_right _ rest names x 0 front (omega arith) ∙ get_or-drop names (replicate 32 0) (x - names) 0 ∙ get_or_same 32 0 (names + (x - names))
              ∙ sym (padded_past bytes at names x (omega arith))
        ]

-- so record k of a start list of so many names, and the memory and the node of record k of a solution, are read into an array
module _ (bytes : List ℕ) (k names : ℕ) where
  pub start_reads : names ≤ 32 → names * k + names ≤ length bytes → (rho : List ℕ) → rho ≡ padded bytes (names * k) names → ReadInto (record_at names bytes k) rho names
  unfolding record_at Alike
  start_reads few h rho p = record { sized = part_length bytes (names * k) names h; alike = λ x. part_padded bytes (names * k) names few x ∙ ap (λ (l : List ℕ). get_or l x 0) (sym p) }

  pub memory_taken : (ns : List ℕ) → length ns ≡ names → memory_of ns (record_at (2 + names) bytes k) ≡ take names (drop ((2 + names) * k + 2) bytes)
  unfolding memory_of record_at
  memory_taken ns e =
      rw (e, part_taken 2 names (drop ((2 + names) * k) bytes), drop-drop, take-take names names (drop ((2 + names) * k + 2) bytes) (le_refl _))

  pub memory_reads : (ns : List ℕ) → length ns ≡ names → names ≤ 32 → (2 + names) * k + (2 + names) ≤ length bytes → (rho : List ℕ) → rho ≡ padded bytes ((2 + names) * k + 2) names
      → ReadInto (memory_of ns (record_at (2 + names) bytes k)) rho names
  unfolding Alike
  memory_reads ns e few h rho p =
      let at = (2 + names) * k + 2 in
      rw (memory_taken ns e)
      (record { sized = part_length bytes at names (omega arith); alike = λ x. part_padded bytes at names few x ∙ ap (λ (l : List ℕ). get_or l x 0) (sym p) })

  pub node_reads : node_of (record_at (2 + names) bytes k) ≡ word_at bytes ((2 + names) * k)
  unfolding node_of record_at word_at byte_at
  node_reads = let at = (2 + names) * k in rw (part_at bytes at (2 + names) 0 (omega arith), part_at bytes at (2 + names) 1 (omega arith), add-zero)

-- ---- Records as they are written

set_past : {A : Type 0} (xs ys : List A) (i : ℕ) (a : A) → set (xs ++ ys) (length xs + i) a ≡ xs ++ set ys i a
set_past [] ys i a = rw zero-add
set_past (x ∷ xs) ys i a = rw (suc-add (length xs) i) (ap (λ l. x ∷ l) (set_past xs ys i a))

set_front : {A : Type 0} (xs ys : List A) (i : ℕ) (a : A) → i < length xs → set (xs ++ ys) i a ≡ set xs i a ++ ys
set_front [] ys i a h = absurd (omega arith)
set_front (x ∷ xs) ys zero a h = refl
set_front (x ∷ xs) ys (suc i) a h = ap (λ l. x ∷ l) (set_front xs ys i a (omega arith))

-- an abstract memory is the front of the array that it was read into, so its record, changed, is the one that the code looks for and writes
pub changed_record : {ρ rho : List ℕ} {names : ℕ} → ReadInto ρ rho names → Front names rho → (c : Change) → changed names rho c ≡ record_for c.node (set ρ c.name c.set)
unfolding changed Alike
changed_record {ρ} {rho} {names} y f c =
    let sized = length-take-le names rho (omega (arith, f.few, f.long)) in
    ap (λ (σ : List ℕ). record_for c.node (set σ c.name c.set))
    (ext_get_or 0 (take names rho) ρ (sized ∙ sym y.sized) (λ x l. get_or-take names rho x 0 (omega (arith, sized)) ∙ sym (y.alike x)))

pub changed_sized : {names : ℕ} {rho : List ℕ} → Front names rho → (c : Change) → length (changed names rho c) ≡ 2 + names
unfolding changed record_for word_bytes
changed_sized {names} {rho} f c = omega (arith, length-set (take names rho) c.name c.set, length-take-le names rho (omega (arith, f.few, f.long)))

-- two rows, one after the other, are one; and another byte of a row
over_then : (at : ℕ) (xs ys buffer : List ℕ) → at + length xs ≤ length buffer → over_at (at + length xs) ys (over_at at xs buffer) ≡ over_at at (xs ++ ys) buffer
unfolding over over_at
over_then at xs ys buffer h =
    let front = take at buffer ++ xs in
    let rest = drop (at + length xs) buffer in
    let long : length front ≡ at + length xs = length-append (take at buffer) xs ∙ ap (λ n. n + length xs) (length-take-le at buffer (omega arith)) in
    let whole : take at buffer ++ (xs ++ drop (length xs) (drop at buffer)) ≡ front ++ rest = rw (drop-drop (length xs) at buffer) (sym (append_assoc (take at buffer) xs rest)) in
    let past : drop (length ys) (drop (at + length xs) (front ++ rest)) ≡ drop (length (xs ++ ys)) (drop at buffer) =
    ap (drop (length ys)) (drop_at front rest (at + length xs) long) ∙ drop-drop (length ys) (at + length xs) buffer
    ∙ ap (λ (n : ℕ). drop n buffer) (add_assoc at (length xs) (length ys) ∙ ap (λ (n : ℕ). at + n) (sym (length-append xs ys))) ∙ sym (drop-drop (length (xs ++ ys)) at buffer) in
    rw (whole, take_at front rest (at + length xs) long, past)
    (append_assoc (take at buffer) xs (ys ++ drop (length (xs ++ ys)) (drop at buffer)) ∙ ap (λ (r : List ℕ). take at buffer ++ r) (sym (append_assoc xs ys (drop (length (xs ++ ys)) (drop at buffer)))))

over_set : (at : ℕ) (row buffer : List ℕ) (i b : ℕ) → i < length row → at ≤ length buffer → set (over_at at row buffer) (at + i) b ≡ over_at at (set row i b) buffer
unfolding over over_at
over_set at row buffer i b h l =
    ap (λ (n : ℕ). set (take at buffer ++ (row ++ drop (length row) (drop at buffer))) (n + i) b) (sym (length-take-le at buffer l))
    ∙ set_past (take at buffer) (row ++ drop (length row) (drop at buffer)) i b
    ∙ ap (λ (r : List ℕ). take at buffer ++ r) (set_front row (drop (length row) (drop at buffer)) i b h ∙ ap (λ (n : ℕ). set row i b ++ drop n (drop at buffer)) (sym (length-set row i b)))

-- a changed record over a buffer: its node, the memory, and the changed byte, where there is such a name
module _ (at names : ℕ) (rho : List ℕ) (c : Change) (f : Front names rho) (buffer : List ℕ) (room : at + (2 + names) ≤ length buffer) (b1 b2 : List ℕ)
    (node : b1 ≡ over_at at (word_bytes c.node) buffer) (memory : b2 ≡ over_at (at + 2) (take names rho) b1) where
  both_over : b2 ≡ over_at at (word_bytes c.node ++ take names rho) buffer
  unfolding word_bytes
  both_over = rw (memory, node) (over_then at (word_bytes c.node) (take names rho) buffer (omega arith))

  sized : length (take names rho) ≡ names
  sized = length-take-le names rho (omega (arith, f.few, f.long))

  pub wrote_changed : c.name < names → set b2 (at + 2 + c.name) c.set ≡ over_at at (changed names rho c) buffer
  unfolding word_bytes changed record_for
  wrote_changed h =
      ap (λ (i : ℕ). set b2 i c.set) (add_assoc at 2 c.name) ∙ ap (λ (b : List ℕ). set b (at + (2 + c.name)) c.set) both_over
      ∙ over_set at (word_bytes c.node ++ take names rho) buffer (2 + c.name) c.set (omega (arith, sized)) (omega arith)
      ∙ ap (λ (r : List ℕ). over_at at r buffer) (set_past (word_bytes c.node) (take names rho) c.name c.set)

  pub wrote_kept : names ≤ c.name → b2 ≡ over_at at (changed names rho c) buffer
  unfolding changed record_for
  wrote_kept h = both_over ∙ ap (λ (m : List ℕ). over_at at (word_bytes c.node ++ m) buffer) (sym (set_out (take names rho) c.name c.set (omega (arith, sized))))

-- ---- What question 17 says of a list where it is answered yes

module _ (ns : List ℕ) (g : Graph) (bytes : List ℕ) (fit : solution_formed ns g bytes ≡ Ok tt) (k : ℕ) (h : k < record_count (record_width ns) bytes) where
  record_fit : record_formed ns g.nodes bytes (record_width ns * k) ≡ Ok tt
  unfolding solution_formed record_formed
  record_fit = each_fit _ _ fit k h

  -- each node is one of the graph's, and each memory is well formed
  pub node_formed : word_at bytes (record_width ns * k) < g.nodes
  unfolding record_formed
  node_formed = ltb-true _ _ (ask_fit _ 17 _ (then_first _ _ record_fit))

  pub memory_formed_lem : memory_formed ns bytes (record_width ns * k + 2) ≡ Ok tt
  unfolding record_formed
  memory_formed_lem = then_second _ _ record_fit

-- each byte of a memory is right for its name
pub byte_formed : (ns bytes : List ℕ) (at : ℕ) → memory_formed ns bytes at ≡ Ok tt → (i : ℕ) → i < length ns → well_formed (get_or ns i 0) (byte_at bytes (at + i)) ≡ true
unfolding memory_formed
byte_formed ns bytes at fit i h = ask_fit _ 17 _ (each_fit _ _ fit i h)

-- the sizes in a program's code
pub sizes_in : {ns code : List ℕ} → Coded ns code → (names : ℕ) → names ≡ get_or code name_count_place 0 → SizesIn ns code names
sizes_in x names e = record { count = sym (e ∙ x.count); size = λ i h. sym (x.size i (omega (arith, e, x.count))) }
