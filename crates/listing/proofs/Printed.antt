-- The text for an input, by the answers to the questions: what the solver, the drawing and the index mark reply gives the lines.
use Rattle.std.specs.Prelude.{Err, Ok, Result}
use mathlib.Core.Path.{◌≡◌, refl, sym, ap, ◌∙◌}
use mathlib.Core.Bool.{Bool, true, false, not}
use mathlib.Core.List.{List, append-nil, flat_map, flatten}
use Prim.Native.Nat.{ℕ, ◌*◌, ◌/◌, ◌%◌, ◌+◌, ◌≤◌}
use native.Mathlib.Omega.{arith}
use borrow.Author.Tests.{le-leb, eq-eqb}
use lib.ListN.{length, take}
use Rattle.program.specs.Asking.{ask, ask_plain, then_ask, in_turn, ask_each, is_refused, Validity}
use Rattle.program.specs.Drawing.{over, drawn, drawn_by, draw_validity}
use Rattle.program.specs.File.{name_count, sizes}
use Rattle.program.specs.Graph.{graph, edges, edge_count, node_count}
use Rattle.program.specs.Questions.{validity, input_validity, program_part, initial_part}
use Rattle.program.specs.declared.Construction.TheVariants.{Nondeterministic}
use Rattle.program.specs.declared.Drawn.{Drawn}
use Rattle.program.specs.declared.Refusal.{Refusal}
use Rattle.program.proofs.Asking.{refused_unfit}
use Rattle.program.proofs.Laws.{sizes_length, first_found, not_refused, turn_fit, counts, few_nodes, few_edges, program_fit, initial_whole_lem, initial_few}
use Rattle.program.proofs.Never.{never}
use Rattle.analysis.specs.Records.{initial_width, record_count, whole_records, initial_whole, memory_formed, initial_formed, wrong_byte}
use Rattle.analysis.specs.Sheet.{counts_line, refusal_line, sheet_of, listing, print_validity, lines_by, printed_lines}
use Rattle.analysis.specs.Solver.{Found, room_of, finished_or, solved_with, buffer_with, initial_validity, solution_in, solved, solved_buffer}
use Rattle.analysis.specs.Verdict.{index_mark, marking}
use Rattle.analysis.specs.declared.Mark.{Mark}
use Rattle.analysis.specs.declared.Unreadable.{Unreadable}
use Rattle.analysis.specs.declared.Unreadable.TheVariants.{Refused as Refuses, Malformed}
use Rattle.analysis.specs.declared.RecordList.TheVariants.{Initial}
use Rattle.analysis.specs.declared.Solved.{Solved}
use Rattle.analysis.specs.declared.Solving.{Solving}
use Rattle.analysis.specs.declared.Solving.TheVariants.{Finished, Full}
use Rattle.analysis.specs.declared.WrongByte.{WrongByte}
use Rattle.analysis.proofs.Laws.{solution_list, solution_marked}
use Rattle.analysis.proofs.Formed.{FormedList}
use Rattle.listing.specs.Parts.Writing.{counts_of, listing_text, WellMarked}
use Rattle.listing.specs.Text.{line_text, printed_text}
use Rattle.listing.proofs.Lengths.{listing_short, refusal_short}
use Rattle.listing.proofs.Listings.{front_is, listing_read}

-- ---- Counts and index line

-- the counts as the drawing replies them
module _ (s buffer : List ℕ) (count : ℕ) (fit : validity s ≡ Ok tt) (long : length buffer ≡ 1785) where
  drawn_all : drawn Nondeterministic s buffer ≡ Ok (record { nodes = node_count Nondeterministic s; edges = edge_count Nondeterministic s })
  unfolding drawn drawn_by draw_validity then_ask ask edge_count edges
  drawn_all = rw (fit, le-leb (7 * length (graph Nondeterministic s).edges) (length buffer) (omega (arith, few_edges s fit Nondeterministic)))

  pub drawn_counts : {d : Drawn} → Ok d ≡ drawn Nondeterministic s buffer → counts_line d.nodes d.edges count ≡ counts_of s count
  unfolding counts_of node_count edge_count edges
  drawn_counts {d} e = ap (λ (d : Drawn). counts_line d.nodes d.edges count) (by d (e ∙ drawn_all))
    where
      by : (d : Drawn) {all : Drawn} → ◌≡◌ {A = Result Drawn Refusal} (Ok d) (Ok all) → d ≡ all
      by d e = cc

  pub never_undrawn : {A : Type 0} {x : Refusal} → Err x ≡ drawn Nondeterministic s buffer → A
  never_undrawn e = by (e ∙ drawn_all)
    where
      by : {A : Type 0} {x : Refusal} {d : Drawn} → ◌≡◌ {A = Result Drawn Refusal} (Err x) (Ok d) → A
      by e = never (cc)

-- the mark that comes back
pub mark_told_lem : (s bytes : List ℕ) {m : Result Mark Unreadable} {mark : Mark} → WellMarked s bytes → m ≡ marking s bytes → m ≡ Ok mark → mark ≡ index_mark (sizes s) (graph Nondeterministic s) bytes
mark_told_lem s bytes well e told = cc

pub never_unreadable : {A : Type 0} (s bytes : List ℕ) {m : Result Mark Unreadable} {x : Unreadable} → WellMarked s bytes → m ≡ marking s bytes → m ≡ Err x → A
never_unreadable s bytes well e told = never (cc)

-- ---- Which lines there are

module _ (input : List ℕ) where
  pub refused_printed : (x : Refusal) → print_validity input (sheet_of input) ≡ Err x → printed_text input ≡ line_text (refusal_line x)
  unfolding printed_text printed_lines lines_by flat_map
  refused_printed x e = rw e (append-nil (line_text (refusal_line x)))

  pub listing_printed : print_validity input (sheet_of input) ≡ Ok tt → printed_text input ≡ flat_map line_text (listing (program_part input) (sheet_of input).records)
  unfolding printed_text printed_lines lines_by
  listing_printed e = rw e

  -- a refusal by the file's questions
  first_refused : (x : Refusal) → input_validity input ≡ Err x → print_validity input (sheet_of input) ≡ Err x
  unfolding print_validity in_turn then_ask
  first_refused x e = rw e

  pub input_refused : (x : Refusal) → input_validity input ≡ Err x → printed_text input ≡ line_text (refusal_line x)
  input_refused x e = refused_printed x (first_refused x e)

  -- after those: 17 and 18
  later : input_validity input ≡ Ok tt → {formed : Validity} {full : Bool} → initial_formed (sizes (program_part input)) (initial_part input) ≡ formed → (sheet_of input).full ≡ full
      → print_validity input (sheet_of input) ≡ then_ask formed (then_ask (ask_plain (not full) 18) (Ok tt))
  unfolding print_validity in_turn then_ask
  later fit e f = rw (fit, e, f)

-- ---- The solver's reply

-- where the file's questions and 16 were answered yes, it has come to its end, or to 18, or to 17
-- what a list that it answers with is
ended : (formed : Validity) (f : Found) {r : Solved} → solved_with (Ok tt) formed f ≡ Ok r → (formed ≡ Ok tt) × (r ≡ record { solving = finished_or f.full; count = length f.records })
unfolding solved_with
ended (Ok _) f {r} e = (refl, let same : r ≡ record { solving = finished_or f.full; count = length f.records } = cc in same)
ended (Err x) f e = never (cc)

finished : (b : Bool) → finished_or b ≡ Finished → b ≡ false
unfolding finished_or
finished true e = never (cc)
finished false e = refl

full_up : (b : Bool) → finished_or b ≡ Full → b ≡ true
unfolding finished_or
full_up true e = refl
full_up false e = never (cc)

malformed : (formed : Validity) (f : Found) (w : WrongByte) → solved_with (Ok tt) formed f ≡ Err (Malformed w) → (x : Refusal) × (formed ≡ Err x) × (x.offset ≡ w.offset)
unfolding solved_with wrong_byte
malformed (Ok tt) f w e = never (cc)
malformed (Err x) f w e = (x, refl, offsets)
  where
    offsets : x.offset ≡ w.offset
    offsets = let same : record { list = Initial; offset = x.offset } ≡ w = cc in ap (λ (y : WrongByte). y.offset) same

unrefused : {A : Type 0} (formed : Validity) (f : Found) (x : Refusal) → solved_with (Ok tt) formed f ≡ Err (Refuses x) → A
unfolding solved_with
unrefused (Ok tt) f x e = never (cc)
unrefused (Err y) f x e = never (cc)

-- the number of a refusal: of one question, of each of a loop, and so of 17
numbered_ask : (yes? : Bool) (n at : ℕ) (x : Refusal) → ask yes? n at ≡ Err x → x.number ≡ n
unfolding ask
numbered_ask true n at x e = refused_unfit x (sym e)
numbered_ask false n at x e = let same : record { number = n; offset = at } ≡ x = cc in ap (λ (y : Refusal). y.number) (sym same)

numbered_each : (number n : ℕ) (q : ℕ → Validity) → ((k : ℕ) (x : Refusal) → q k ≡ Err x → x.number ≡ number) → (x : Refusal) → ask_each n q ≡ Err x → x.number ≡ number
unfolding is_refused ask_each
numbered_each number n q p x e =
    let found = first_found is_refused (Ok tt) refl (λ v i. not_refused v (is_refused v) refl i) n q (ap is_refused e) in
    p found.at x (sym found.answer ∙ e)

seventeen : (ns bytes : List ℕ) (x : Refusal) → initial_formed ns bytes ≡ Err x → x.number ≡ 17
unfolding initial_formed memory_formed
seventeen ns bytes = numbered_each 17 _ _ (λ k. numbered_each 17 _ _ (λ i. numbered_ask _ 17 _))

-- the sheet program's list
few : (input : List ℕ) → room_of (sizes (program_part input)) 65536 ≤ 4096
unfolding room_of
few input = omega arith

sheet_list : (input : List ℕ) → input_validity input ≡ Ok tt → initial_formed (sizes (program_part input)) (initial_part input) ≡ Ok tt
    → FormedList (sizes (program_part input)) (graph Nondeterministic (program_part input)).nodes (room_of (sizes (program_part input)) 65536) (sheet_of input).records
unfolding sheet_of
sheet_list input fit formed = solution_list Nondeterministic (program_part input) (initial_part input) (program_fit input fit) formed _

-- the reply to an input that passes its own questions, over a buffer of 65,536 bytes
module _ (input : List ℕ) (fit : input_validity input ≡ Ok tt) where
  start_whole : initial_validity (program_part input) (initial_part input) ≡ Ok tt
  unfolding initial_validity then_ask initial_whole whole_records initial_width record_count ask
  start_whole =
      rw (
        program_fit input fit,
        sizes_length (program_part input),
        eq-eqb (length (initial_part input) % name_count (program_part input)) 0 (initial_whole_lem input fit),
        le-leb (length (initial_part input) / name_count (program_part input)) 4096 (omega (arith, initial_few input fit)),
      )

  -- the parts as they are handed to the solver
  module _ {program initial : List ℕ} (p : program ≡ program_part input) (q : initial ≡ initial_part input) (buffer : List ℕ) (long : length buffer ≡ 65536)
      {r : Result Solved Unreadable} (e : r ≡ solved Nondeterministic program initial buffer) where
    reply_is : r ≡ solved_with (Ok tt) (initial_formed (sizes (program_part input)) (initial_part input)) (sheet_of input)
    unfolding solved solution_in sheet_of
    reply_is = e ∙ rw (p, q, long, start_whole)

    -- 17, and no other question
    module _ {x : Unreadable} (is : r ≡ Err x) where
      pub malformed_told : (w : WrongByte) → x ≡ Malformed w → printed_text input ≡ line_text (refusal_line (record { number = 17; offset = w.offset }))
      unfolding then_ask
      malformed_told w told =
          let f = malformed _ _ w (sym reply_is ∙ is ∙ ap Err told) in
          let same : f.0 ≡ record { number = 17; offset = w.offset } = λ i. record { number = seventeen _ _ f.0 f.1 i; offset = f.2 i } in
          rw (← same) (refused_printed input f.0 (later input fit f.1 refl))

      pub never_refused : {A : Type 0} (y : Refusal) → x ≡ Refuses y → A
      never_refused y told = unrefused _ _ y (sym reply_is ∙ is ∙ ap Err told)

    module _ {list : Solved} (is : r ≡ Ok list) where
      list_is : (initial_formed (sizes (program_part input)) (initial_part input) ≡ Ok tt) × (list ≡ record { solving = finished_or (sheet_of input).full; count = length (sheet_of input).records })
      list_is = ended _ _ (sym reply_is ∙ is)

      ending_is : {v : Solving} → list.solving ≡ v → finished_or (sheet_of input).full ≡ v
      ending_is told = ap (λ (x : Solved). x.solving) (sym list_is.1) ∙ told

      pub full_told : list.solving ≡ Full → printed_text input ≡ line_text (refusal_line (record { number = 18; offset = 0 }))
      unfolding then_ask ask
      full_told told = refused_printed input (record { number = 18; offset = 0 }) (later input fit list_is.0 (full_up _ (ending_is told)))

    -- the listing that is to be put
    module _ {list : Solved} (is : r ≡ Ok list) (told : list.solving ≡ Finished) where
      answers : (initial_formed (sizes (program_part input)) (initial_part input) ≡ Ok tt) × ((sheet_of input).full ≡ false)
      answers = ((list_is is).0, finished _ (ending_is is told))

      count_is : list.count ≡ length (sheet_of input).records
      count_is = ap (λ (x : Solved). x.count) (list_is is).1

      after_is : solved_buffer Nondeterministic program initial buffer ≡ over (flatten (sheet_of input).records) buffer
      unfolding solved_buffer solution_in sheet_of buffer_with
      after_is = rw (p, q, long, start_whole, answers.0)

      printed : print_validity input (sheet_of input) ≡ Ok tt
      unfolding then_ask ask
      printed = later input fit answers.0 answers.1

      pub finished_told : {after : List ℕ} → after ≡ solved_buffer Nondeterministic program initial buffer → listing_text program after list.count ≡ printed_text input
      finished_told same =
          rw (same, after_is, p, count_is, listing_printed input printed)
          (listing_read (program_part input) (sheet_of input).records (few input) (sheet_list input fit answers.0) buffer)

      pub finished_marked : {after : List ℕ} → after ≡ solved_buffer Nondeterministic program initial buffer → WellMarked program (take ((2 + name_count program) * list.count) after)
      unfolding sheet_of
      finished_marked same =
          rw (same, after_is, p, count_is, front_is (program_part input) (sheet_of input).records (few input) (sheet_list input fit answers.0) buffer)
          (solution_marked Nondeterministic (program_part input) (initial_part input) (program_fit input fit) answers.0 _ (few input))

-- ---- The room that any text needs

module _ (input : List ℕ) (e : print_validity input (sheet_of input) ≡ Ok tt) where
  passed_input : input_validity input ≡ Ok tt
  unfolding print_validity
  passed_input = turn_fit _ 0 e

  passed_start : initial_formed (sizes (program_part input)) (initial_part input) ≡ Ok tt
  unfolding print_validity
  passed_start = turn_fit _ 1 e

  sheet_short : length (flat_map line_text (listing (program_part input) (sheet_of input).records)) ≤ 300000
  unfolding node_count
  sheet_short =
      let s = program_part input in
      let fit = program_fit input passed_input in
      listing_short s (sheet_of input).records (sheet_list input passed_input passed_start) (omega (arith, few_nodes s fit Nondeterministic)) (few input)
      (omega (arith, sizes_length s, (counts s fit).names))

pub text_short : (input : List ℕ) → length (printed_text input) ≤ 300000
text_short input = by (print_validity input (sheet_of input)) refl
  where
    by : (v : Validity) → print_validity input (sheet_of input) ≡ v → length (printed_text input) ≤ 300000
    by (Ok _) e = rw (listing_printed input e) (sheet_short input e)
    by (Err x) e = rw (refused_printed input x e) (refusal_short x)
