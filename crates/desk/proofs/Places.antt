-- Every answer of the engine has a number, where it is a refusal, and a place that 32 bits hold.
use Rattle.std.specs.Prelude.{Err, Ok, None, Option, Some, Result}
use mathlib.Core.Path.{◌≡◌, refl, sym, ◌∙◌, ap}
use mathlib.Core.Bool.{Bool, true, false, cond}
use mathlib.Core.List.{List}
use Prim.Native.Nat.{ℕ, zero, suc, ◌+◌, ◌*◌, ◌/◌, ◌%◌, ◌≤◌, ◌<◌}
use native.Mathlib.Nat.{mul-suc, mul-div-le, mul-le-mul, mul-le-mul_left, div-add-mod'}
use native.Mathlib.Omega.{arith}
use lib.Dec.{eqb, leb}
use lib.IntN.{ℤ}
use lib.ListN.{length}
use borrow.Author.Tests.{leb-true, eqb-true}
use Rattle.program.specs.Asking.{in_turn, Validity}
use Rattle.program.specs.Drawing.{draw_validity, drawn_by, drawn}
use Rattle.program.specs.File.{sizes}
use Rattle.program.specs.Graph.{Graph, graph}
use Rattle.program.specs.Questions.{validity, input_validity}
use Rattle.program.specs.declared.Construction.{Construction}
use Rattle.program.specs.declared.Construction.TheVariants.{Nondeterministic}
use Rattle.program.specs.declared.Drawn.{Drawn}
use Rattle.program.specs.declared.Refusal.{Refusal}
use Rattle.program.proofs.Laws.{counts, sizes_length, ask_fit, then_first, then_second, placed_fit, placed_ask, placed_then, placed_each, validity_placed, input_placed}
use Rattle.program.proofs.Places.{Told, Placed}
use Rattle.program.proofs.Tests.{two}
use Rattle.figures.proofs.Laws.{list_placed, join_placed}
use Rattle.figures.specs.Figures.{list_figures, join_figures}
use Rattle.figures.specs.declared.Figures.{Figures}
use Rattle.figures.specs.declared.Totals.{Totals}
use Rattle.semantics.specs.Budget.{Finish, ends, lowest_defined, goes_on, run_from, ends_unless_refused, budgeted, program_budgeted, budget_reply}
use Rattle.semantics.specs.Step.{Configuration, begun, along, memory_validity, step_validity, outcome_by, outcome_unless_refused, outcome, program_outcome, step_reply}
use Rattle.semantics.specs.declared.Effect.{Effect}
use Rattle.semantics.specs.declared.Effect.TheVariants.{Undefined as Fails, Unchanged, Stored}
use Rattle.semantics.specs.declared.Ended.{Ended}
use Rattle.semantics.specs.declared.Ending.{Ending}
use Rattle.semantics.specs.declared.Ending.TheVariants.{Arrived, Spent, Refused as Halts}
use Rattle.semantics.specs.declared.Outcome.{Outcome}
use Rattle.semantics.specs.declared.Outcome.TheVariants.{Refused as Refuses}
use Rattle.semantics.specs.declared.Stepped.{Stepped}
use Rattle.analysis.specs.Records.{initial_width, record_width, record_count, whole_records, initial_whole, both_whole, memory_formed, initial_formed, solution_formed, wrong_byte}
use Rattle.analysis.specs.Solver.{Found, solved_with, initial_validity, solved}
use Rattle.analysis.specs.Splitter.{split_by, split}
use Rattle.analysis.specs.Verdict.{verdict_unless_refused, unless_malformed, verdict_by, verdict_over, verdict, solution_validity, marking_by, marking}
use Rattle.analysis.specs.declared.Mark.{Mark}
use Rattle.analysis.specs.declared.Unreadable.{Unreadable}
use Rattle.analysis.specs.declared.Unreadable.TheVariants.{Refused as Unasked, Malformed as Unfit}
use Rattle.analysis.specs.declared.RecordList.{RecordList}
use Rattle.analysis.specs.declared.RecordList.TheVariants.{Initial, Solution}
use Rattle.analysis.specs.declared.Solved.{Solved}
use Rattle.analysis.specs.declared.Split.{Split}
use Rattle.analysis.specs.declared.Spot.{Spot}
use Rattle.analysis.specs.declared.Verdict.{Verdict}
use Rattle.analysis.specs.declared.WrongByte.{WrongByte}
use Rattle.desk.specs.Reply.{Narrow}
use Rattle.program.proofs.Never.{never}

-- ---- Drawing

pub drawn_placed : (κ : Construction) (s buffer : List ℕ) → Placed 7244 (draw_validity κ s buffer)
unfolding draw_validity
drawn_placed κ s buffer = placed_then _ _ (validity_placed s) (λ _. placed_ask _ 13 0 tt (omega arith))

-- ---- Steps and runs

abbrev OutcomeTold : Outcome → Type 0
OutcomeTold o = (x : Refusal) → o ≡ Refuses x → Told 7244 x

outcome_unless : (v : Validity) (o : Outcome) → Placed 7244 v → OutcomeTold o → OutcomeTold (outcome_unless_refused v o)
unfolding outcome_unless_refused
outcome_unless (Ok _) o p q = q
outcome_unless (Err y) o p q = λ x e. let same : y ≡ x = cc in p x (ap Err same)

effect_outcome : (x : Effect) → OutcomeTold (outcome_by x)
unfolding outcome_by
effect_outcome (Fails f) x e = never (cc)
effect_outcome Unchanged x e = never (cc)
effect_outcome (Stored c z) x e = never (cc)

step_placed : (ns : List ℕ) (g : Graph) (node : ℕ) (m : List ℤ) (e : ℕ) → Placed 7244 (step_validity ns g node m e)
unfolding step_validity memory_validity in_turn
step_placed ns g node m e =
    placed_then _ _ (placed_ask _ 12 0 tt (omega arith))
    (λ _. placed_then _ _ (placed_ask _ 14 0 tt (omega arith)) (λ _. placed_then _ _ (placed_ask _ 15 0 tt (omega arith)) (λ _. placed_fit)))

pub step_told : (κ : Construction) (s : List ℕ) (c : Configuration) (e : ℕ) → OutcomeTold (step_reply κ s c e).outcome
unfolding step_reply program_outcome outcome
step_told κ s c e = outcome_unless _ _ (validity_placed s) (outcome_unless _ _ (step_placed _ _ _ _ _) (effect_outcome _))

abbrev EndingTold : Ending → Type 0
EndingTold e = (x : Refusal) → e ≡ Halts x → Told 7244 x

arrived_or : (b : Bool) (c : Configuration) (r : Finish) → EndingTold r.ending → EndingTold (cond b (ends Arrived c) r).ending
arrived_or true c r p = λ x e. never (cc)
arrived_or false c r p = p

goes_told : (further : ℕ → Finish) (c : Configuration) (f : Option ℕ) → ((e : ℕ) → EndingTold (further e).ending) → EndingTold (goes_on further c f).ending
unfolding goes_on
goes_told further c (Some e) p = p e
goes_told further c None p = λ x e. never (cc)

run_told : (budget : ℕ) (ns : List ℕ) (g : Graph) (c : Configuration) → EndingTold (run_from budget ns g c).ending
unfolding run_from
run_told zero ns g c = arrived_or (eqb c.run.node 1) c (ends Spent c) (λ x e. never (cc))
run_told (suc budget) ns g c =
    let on : ℕ → Finish = λ e. run_from budget ns g (along ns g c e) in
    let lowest = lowest_defined ns g c.run.node c.memory in
    arrived_or (eqb c.run.node 1) c (goes_on on c lowest) (goes_told on c lowest (λ e. run_told budget ns g (along ns g c e)))

ends_told : (v : Validity) (m : List ℤ) (r : Finish) → Placed 7244 v → EndingTold r.ending → EndingTold (ends_unless_refused v m r).ending
unfolding ends_unless_refused
ends_told (Ok _) m r p q = q
ends_told (Err y) m r p q = λ x e. let same : y ≡ x = cc in p x (ap Err same)

pub budget_told : (κ : Construction) (s : List ℕ) (budget : ℕ) (m : List ℤ) → EndingTold (budget_reply κ s budget m).ending
unfolding budget_reply program_budgeted budgeted memory_validity
budget_told κ s budget m =
    ends_told _ m _ (validity_placed s) (ends_told _ m _ (placed_ask _ 12 0 tt (omega arith)) (run_told budget (sizes s) (graph κ s) (begun m)))

-- ---- Lists of records

further : {a b : ℕ} {v : Validity} → a ≤ b → Placed a v → Placed b v
further l p x e = let told = p x e in record { numbered = told.numbered; asked = told.asked; near = omega (arith, told.near) }

-- record k of a list lies inside it
pub record_inside : (width n k : ℕ) → k < n / width → width * k + width ≤ n
record_inside width n k h = omega (arith, mul-suc width k, mul-div-le n width, mul-le-mul_left width h)

memory_placed : {most : ℕ} (ns bytes : List ℕ) (at : ℕ) → at + length ns ≤ most → Placed most (memory_formed ns bytes at)
unfolding memory_formed
memory_placed ns bytes at l = placed_each _ _ (λ i h. placed_ask _ 17 (at + i) tt (omega arith))

initial_placed : (ns bytes : List ℕ) → Placed (length bytes) (initial_formed ns bytes)
unfolding initial_formed initial_width record_count
initial_placed ns bytes = placed_each _ _ (λ k h. memory_placed ns bytes (length ns * k) (record_inside (length ns) (length bytes) k h))

solution_placed : (ns : List ℕ) (g : Graph) (bytes : List ℕ) → Placed (length bytes) (solution_formed ns g bytes)
unfolding solution_formed record_width record_count
solution_placed ns g bytes =
    placed_each _ _
    (λ k h.
    let inside : (2 + length ns) * k + (2 + length ns) ≤ length bytes = record_inside (2 + length ns) (length bytes) k h in
    placed_then _ _ (placed_ask _ 17 _ tt (omega arith)) (λ _. memory_placed ns bytes ((2 + length ns) * k + 2) (omega arith)))

-- 4,096 records of at most 34 bytes
whole_short : (width : ℕ) (bytes : List ℕ) → whole_records width bytes ≡ true → width ≤ 34 → length bytes ≤ 139264
unfolding whole_records record_count
whole_short width bytes e l =
    let known = two (eqb (length bytes % width) 0) (leb (length bytes / width) 4096) e in
    let whole : length bytes % width ≡ 0 = eqb-true _ _ known.0 in
    let few : length bytes / width ≤ 4096 = leb-true _ _ known.1 in
    omega (arith, div-add-mod' (length bytes) width, mul-le-mul few l)

few_names : (s : List ℕ) → validity s ≡ Ok tt → length (sizes s) ≤ 32
few_names s fit = omega (arith, sizes_length s, (counts s fit).names)

-- ---- Verdicts

pub record VerdictTold (v : Result Verdict Unreadable) : Type 0 where
  pub refused : (x : Refusal) → v ≡ Err (Unasked x) → Told 7244 x
  pub wrong : (w : WrongByte) → v ≡ Err (Unfit w) → w.offset ≤ 139264

verdict_unless : (v : Validity) (d : Result Verdict Unreadable) → Placed 7244 v → (v ≡ Ok tt → VerdictTold d) → VerdictTold (verdict_unless_refused v d)
unfolding verdict_unless_refused
verdict_unless (Ok _) d p q = q refl
verdict_unless (Err y) d p q =
    record {
      refused = λ x e. let same : y ≡ x = cc in p x (ap Err same);
      wrong = λ w e. never (cc);
    }

verdict_formed : (list : RecordList) (v : Validity) (d : Result Verdict Unreadable) → Placed 139264 v → VerdictTold d → VerdictTold (unless_malformed list v d)
unfolding unless_malformed wrong_byte
verdict_formed list (Ok _) d p q = q
verdict_formed list (Err y) d p q =
    record {
      refused = λ x e. never (cc);
      wrong = λ w e. let same : wrong_byte list y ≡ w = cc in rw (← same) (p y refl).near;
    }

verdict_found : (f : Option ℕ) (spot : Option Spot) (mark : Mark) → VerdictTold (Ok (verdict_by f spot mark))
verdict_found f spot mark = record { refused = λ x e. never (cc); wrong = λ w e. never (cc) }

both_short : (ns initial solution : List ℕ) → length ns ≤ 32 → both_whole ns initial solution ≡ Ok tt → (length initial ≤ 139264) × (length solution ≤ 139264)
unfolding both_whole initial_width record_width
both_short ns initial solution l e =
    let known = two (whole_records (length ns) initial) (whole_records (2 + length ns) solution) (ask_fit _ 16 0 e) in
    (whole_short (length ns) initial known.0 (omega arith), whole_short (2 + length ns) solution known.1 (omega arith))

over_told : (ns : List ℕ) (g : Graph) (initial solution : List ℕ) → length ns ≤ 32 → VerdictTold (verdict_over ns g initial solution)
unfolding verdict_over both_whole
over_told ns g initial solution l =
    verdict_unless _ _ (placed_ask _ 16 0 tt (omega arith))
    (λ whole.
    let short = both_short ns initial solution l whole in
    verdict_formed Initial _ _ (further short.0 (initial_placed ns initial))
    (verdict_formed Solution _ _ (further short.1 (solution_placed ns g solution)) (verdict_found _ _ _)))

pub verdict_told_lem : (κ : Construction) (s initial solution : List ℕ) → VerdictTold (verdict κ s initial solution)
unfolding verdict
verdict_told_lem κ s initial solution =
    verdict_unless _ _ (validity_placed s) (λ fit. over_told (sizes s) (graph κ s) initial solution (few_names s fit))

-- ---- The index mark by itself

pub record MarkingTold (m : Result Mark Unreadable) : Type 0 where
  pub refused : (x : Refusal) → m ≡ Err (Unasked x) → Told 7244 x
  pub wrong : (w : WrongByte) → m ≡ Err (Unfit w) → w.offset ≤ 139264

marking_by_lem : (v f : Validity) (mark : Mark) → Placed 7244 v → (v ≡ Ok tt → Placed 139264 f) → MarkingTold (marking_by v f mark)
unfolding marking_by wrong_byte
marking_by_lem (Ok _) (Ok _) mark p q = record { refused = λ x e. never (cc); wrong = λ w e. never (cc) }
marking_by_lem (Ok _) (Err y) mark p q =
    record {
      refused = λ x e. never (cc);
      wrong = λ w e. let same : wrong_byte Solution y ≡ w = cc in rw (← same) (q refl y refl).near;
    }
marking_by_lem (Err y) f mark p q =
    record {
      refused = λ x e. let same : y ≡ x = cc in p x (ap Err same);
      wrong = λ w e. never (cc);
    }

pub marking_told : (s solution : List ℕ) → MarkingTold (marking s solution)
unfolding marking solution_validity record_width
marking_told s solution =
    marking_by_lem _ _ _ (placed_then _ _ (validity_placed s) (λ _. placed_ask _ 16 0 tt (omega arith)))
    (λ e.
    let few = few_names s (then_first _ _ e) in
    further (whole_short (2 + length (sizes s)) solution (ask_fit _ 16 0 (then_second _ _ e)) (omega arith)) (solution_placed (sizes s) (graph Nondeterministic s) solution))

-- ---- The solver

pub record SolvedTold (r : Result Solved Unreadable) : Type 0 where
  pub refused : (x : Refusal) → r ≡ Err (Unasked x) → Told 7244 x
  pub wrong : (w : WrongByte) → r ≡ Err (Unfit w) → w.offset ≤ 139264

solved_with_lem : (v f : Validity) (found : Found) → Placed 7244 v → (v ≡ Ok tt → Placed 139264 f) → SolvedTold (solved_with v f found)
unfolding solved_with wrong_byte
solved_with_lem (Ok _) (Ok _) found p q = record { refused = λ x e. never (cc); wrong = λ w e. never (cc) }
solved_with_lem (Ok _) (Err y) found p q =
    record {
      refused = λ x e. never (cc);
      wrong = λ w e. let same : wrong_byte Initial y ≡ w = cc in rw (← same) (q refl y refl).near;
    }
solved_with_lem (Err y) f found p q =
    record {
      refused = λ x e. let same : y ≡ x = cc in p x (ap Err same);
      wrong = λ w e. never (cc);
    }

pub solved_told : (κ : Construction) (s initial buffer : List ℕ) → SolvedTold (solved κ s initial buffer)
unfolding solved initial_validity initial_whole initial_width
solved_told κ s initial buffer =
    solved_with_lem _ _ _ (placed_then _ _ (validity_placed s) (λ _. placed_ask _ 16 0 tt (omega arith)))
    (λ e.
    let few = few_names s (then_first _ _ e) in
    further (whole_short (length (sizes s)) initial (ask_fit _ 16 0 (then_second _ _ e)) (omega arith)) (initial_placed (sizes s) initial))

-- ---- So every place fits in a reply

validity_narrow : {most : ℕ} {v w : Validity} → most < 4294967296 → Placed most w → v ≡ w → (x : Refusal) → v ≡ Err x → Narrow x.offset
validity_narrow l p same x e = omega (arith, (p x (sym same ∙ e)).near)

pub program_narrow : (s : List ℕ) {v : Validity} → v ≡ validity s → (x : Refusal) → v ≡ Err x → Narrow x.offset
program_narrow s = validity_narrow (omega arith) (validity_placed s)

pub input_narrow : (s : List ℕ) {v : Validity} → v ≡ input_validity s → (x : Refusal) → v ≡ Err x → Narrow x.offset
input_narrow s = validity_narrow (omega arith) (input_placed s)

pub drawn_narrow : (κ : Construction) (s buffer : List ℕ) {d : Result Drawn Refusal} → d ≡ drawn κ s buffer → (x : Refusal) → d ≡ Err x → Narrow x.offset
unfolding drawn drawn_by
drawn_narrow κ s buffer same x e = by (draw_validity κ s buffer) (drawn_placed κ s buffer) (sym same ∙ e)
  where
    by : (v : Validity) → Placed 7244 v → drawn_by κ s v ≡ Err x → Narrow x.offset
    by (Ok _) p e = never (cc)
    by (Err y) p e = omega (arith, (p y refl).near, ap (λ (z : Refusal). z.offset) (let same : y ≡ x = cc in same))

pub split_narrow : (s : List ℕ) (place : ℕ) {r : Result Split Refusal} → r ≡ split s place → (x : Refusal) → r ≡ Err x → Narrow x.offset
unfolding split split_by
split_narrow s place same x e = by (validity s) (validity_placed s) (sym same ∙ e)
  where
    by : (v : Validity) → Placed 7244 v → split_by v (record_width (sizes s)) place ≡ Err x → Narrow x.offset
    by (Ok _) p e = never (cc)
    by (Err y) p e = omega (arith, (p y refl).near, ap (λ (z : Refusal). z.offset) (let same : y ≡ x = cc in same))

pub stepped_narrow : (κ : Construction) (s : List ℕ) (c : Configuration) (e : ℕ) {r : Stepped} → r ≡ step_reply κ s c e → (x : Refusal) → r.outcome ≡ Refuses x → Narrow x.offset
stepped_narrow κ s c e same x p = omega (arith, (step_told κ s c e x (ap (λ (r : Stepped). r.outcome) (sym same) ∙ p)).near)

pub ended_narrow : (κ : Construction) (s : List ℕ) (budget : ℕ) (m : List ℤ) {r : Ended} → r ≡ budget_reply κ s budget m → (x : Refusal) → r.ending ≡ Halts x → Narrow x.offset
ended_narrow κ s budget m same x p = omega (arith, (budget_told κ s budget m x (ap (λ (r : Ended). r.ending) (sym same) ∙ p)).near)

pub verdict_narrow : (κ : Construction) (s initial solution : List ℕ) {v : Result Verdict Unreadable} → v ≡ verdict κ s initial solution
    → record { refused : ((x : Refusal) → v ≡ Err (Unasked x) → Narrow x.offset); malformed : ((w : WrongByte) → v ≡ Err (Unfit w) → Narrow w.offset) }
verdict_narrow κ s initial solution same =
    let told = verdict_told_lem κ s initial solution in
    record { refused = λ x e. omega (arith, (told.refused x (sym same ∙ e)).near); malformed = λ w e. omega (arith, told.wrong w (sym same ∙ e)) }

pub marking_narrow : (s solution : List ℕ) {m : Result Mark Unreadable} → m ≡ marking s solution
    → record { refused : ((x : Refusal) → m ≡ Err (Unasked x) → Narrow x.offset); malformed : ((w : WrongByte) → m ≡ Err (Unfit w) → Narrow w.offset) }
marking_narrow s solution same =
    let told = marking_told s solution in
    record { refused = λ x e. omega (arith, (told.refused x (sym same ∙ e)).near); malformed = λ w e. omega (arith, told.wrong w (sym same ∙ e)) }

pub solved_narrow : (κ : Construction) (s initial buffer : List ℕ) {r : Result Solved Unreadable} → r ≡ solved κ s initial buffer
    → record { refused : ((x : Refusal) → r ≡ Err (Unasked x) → Narrow x.offset); malformed : ((w : WrongByte) → r ≡ Err (Unfit w) → Narrow w.offset) }
solved_narrow κ s initial buffer same =
    let told = solved_told κ s initial buffer in
    record { refused = λ x e. omega (arith, (told.refused x (sym same ∙ e)).near); malformed = λ w e. omega (arith, told.wrong w (sym same ∙ e)) }

pub list_narrow : (marks : List ℤ) {f : Result Figures Refusal} → f ≡ list_figures marks → (x : Refusal) → f ≡ Err x → Narrow x.offset
list_narrow marks same x e = omega (arith, (list_placed marks x (sym same ∙ e)).near)

pub join_narrow : (a b : Totals) {f : Result Figures Refusal} → f ≡ join_figures a b → (x : Refusal) → f ≡ Err x → Narrow x.offset
join_narrow a b same x e = omega (arith, (join_placed a b x (sym same ∙ e)).near)
