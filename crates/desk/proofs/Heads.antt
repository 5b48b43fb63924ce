-- What a call tells, by how it went: the row of an operation's numbers has the head of its answer, and its other numbers behind.
use Rattle.std.specs.Prelude.{Result, Err, Ok}
use mathlib.Core.Path.{◌≡◌, refl}
use mathlib.Core.List.{List, [], ◌∷◌, ◌++◌, map}
use Prim.Native.Nat.{ℕ, ◌+◌}
use native.Mathlib.Omega.{arith}
use borrow.Author.Tests.{ne_eqb}
use lib.IntN.{pos}
use lib.ListN.{length}
use Rattle.program.specs.Asking.{validity_numbers, Validity}
use Rattle.program.specs.Drawing.{drawn_numbers}
use Rattle.program.specs.declared.Drawn.{Drawn}
use Rattle.program.specs.declared.Refusal.{Refusal}
use Rattle.semantics.specs.Budget.{ending_numbers, ended_numbers}
use Rattle.semantics.specs.Expression.{fault_number}
use Rattle.semantics.specs.Step.{outcome_numbers, stepped_numbers}
use Rattle.semantics.specs.declared.Ended.{Ended}
use Rattle.semantics.specs.declared.Ending.{Ending}
use Rattle.semantics.specs.declared.Ending.TheVariants.{Arrived, Spent, Stuck, Refused as Halts}
use Rattle.semantics.specs.declared.Outcome.{Outcome}
use Rattle.semantics.specs.declared.Outcome.TheVariants.{Taken, Undefined, Refused as Refuses}
use Rattle.semantics.specs.declared.Stepped.{Stepped}
use Rattle.analysis.specs.Records.{wrong_byte_numbers, unreadable_numbers}
use Rattle.analysis.specs.Solver.{solving_numbers, solved_numbers}
use Rattle.analysis.specs.Splitter.{split_numbers}
use Rattle.analysis.specs.Verdict.{mark_numbers, verdict_numbers, marking_numbers}
use Rattle.analysis.specs.declared.Mark.{Mark}
use Rattle.analysis.specs.declared.Mark.TheVariants.{Clean, Unclean}
use Rattle.analysis.specs.declared.Unreadable.{Unreadable}
use Rattle.analysis.specs.declared.Unreadable.TheVariants.{Refused as Unasked, Malformed as Unfit}
use Rattle.analysis.specs.declared.Solved.{Solved}
use Rattle.analysis.specs.declared.Solving.{Solving}
use Rattle.analysis.specs.declared.Solving.TheVariants.{Finished, Full}
use Rattle.analysis.specs.declared.Split.{Split}
use Rattle.analysis.specs.declared.Verdict.{Verdict}
use Rattle.analysis.specs.declared.Verdict.TheVariants.{InitialMissing, ResultMissing, Accepted}
use Rattle.figures.specs.Figures.{fraction_numbers, totals_numbers, class_numbers, no_figures, figures_numbers}
use Rattle.figures.specs.declared.Figures.{Figures}
use Rattle.desk.specs.Parts.Heads.{unreadable_head, validity_head, outcome_head, ending_head, verdict_head, mark_head, marking_head, solving_head, verdict_behind, mark_behind}
use Rattle.desk.specs.Reply.{tell}
use Rattle.desk.specs.Rows.{validation_told, parts_told, two_told, marking, verdict_told, mark_told, solver_told, figures_told}
use Rattle.desk.specs.declared.Head.TheVariants.{Answered, Refused as Declined}
use Rattle.desk.proofs.Places.{VerdictTold, MarkingTold}

pub validation_head : (v : Validity) → validation_told (validity_numbers v) ≡ tell (validity_head v) []
unfolding validity_numbers validation_told validity_head tell
validation_head (Ok _) = refl
validation_head (Err x) = refl

pub parts_fit_head : (program initial : List ℕ)
    → parts_told program initial (validity_numbers (Ok tt)) ≡ tell (Answered 0) (map pos (length program ∷ (length program + 3) ∷ length initial ∷ []))
unfolding validity_numbers parts_told tell
parts_fit_head program initial = refl

pub parts_head : (program initial : List ℕ) (x : Refusal) → parts_told program initial (validity_numbers (Err x)) ≡ tell (Declined x.number x.offset) (map pos (0 ∷ 0 ∷ 0 ∷ []))
unfolding validity_numbers parts_told tell
parts_head program initial x = refl

-- two numbers behind
pub drawn_head : (d : Drawn) → two_told (drawn_numbers (Ok d)) ≡ tell (Answered 0) (map pos (d.nodes ∷ d.edges ∷ []))
unfolding drawn_numbers two_told tell
drawn_head d = refl

pub undrawn_head : (x : Refusal) → two_told (drawn_numbers (Err x)) ≡ tell (Declined x.number x.offset) (map pos (0 ∷ 0 ∷ []))
unfolding drawn_numbers two_told tell
undrawn_head x = refl

pub split_head : (s : Split) → two_told (split_numbers (Ok s)) ≡ tell (Answered 0) (map pos (s.record ∷ s.column ∷ []))
unfolding split_numbers two_told tell
split_head s = refl

pub unsplit_head : (x : Refusal) → two_told (split_numbers (Err x)) ≡ tell (Declined x.number x.offset) (map pos (0 ∷ 0 ∷ []))
unfolding split_numbers two_told tell
unsplit_head x = refl

outcome_two : (o : Outcome) (a b : ℕ) → two_told (outcome_numbers o ++ (a ∷ b ∷ [])) ≡ tell (outcome_head o) (map pos (a ∷ b ∷ []))
unfolding outcome_numbers fault_number two_told outcome_head tell
outcome_two Taken a b = refl
outcome_two (Undefined f) a b = refl
outcome_two (Refuses x) a b = refl

pub stepped_head : (s : Stepped) → two_told (stepped_numbers s) ≡ tell (outcome_head s.outcome) (map pos (s.run.node ∷ s.run.count ∷ []))
unfolding stepped_numbers
stepped_head s = outcome_two s.outcome s.run.node s.run.count

ending_two : (e : Ending) (a b : ℕ) → two_told (ending_numbers e ++ (a ∷ b ∷ [])) ≡ tell (ending_head e) (map pos (a ∷ b ∷ []))
unfolding ending_numbers two_told ending_head tell
ending_two Arrived a b = refl
ending_two Spent a b = refl
ending_two Stuck a b = refl
ending_two (Halts x) a b = refl

pub ended_head : (e : Ended) → two_told (ended_numbers e) ≡ tell (ending_head e.ending) (map pos (e.run.node ∷ e.run.count ∷ []))
unfolding ended_numbers
ended_head e = ending_two e.ending e.run.node e.run.count

-- a verdict and an index mark, whose refusals have the number of a question
accepted_head : (names : ℕ) (mark : Mark) → verdict_told names (0 ∷ mark_numbers mark) ≡ tell (verdict_head (Ok (Accepted mark))) (map pos (verdict_behind names (Ok (Accepted mark))))
unfolding mark_numbers verdict_told marking verdict_head verdict_behind tell
accepted_head names Clean = refl
accepted_head names (Unclean k e) = refl

pub verdict_head_lem : (names : ℕ) (v : Result Verdict Unreadable) → VerdictTold v → verdict_told names (verdict_numbers v) ≡ tell (verdict_head v) (map pos (verdict_behind names v))
unfolding verdict_numbers unreadable_numbers wrong_byte_numbers verdict_told verdict_head unreadable_head verdict_behind tell
verdict_head_lem names (Err (Unasked x)) told =
    let asked = told.refused x refl in
    rw (ne_eqb x.number 0 (λ e. omega (arith, asked.numbered)), ne_eqb x.number 41 (λ e. omega (arith, asked.asked)), ne_eqb x.number 42 (λ e. omega (arith, asked.asked)))
verdict_head_lem names (Err (Unfit w)) told = refl
verdict_head_lem names (Ok (InitialMissing k)) told = refl
verdict_head_lem names (Ok (ResultMissing k e)) told = refl
verdict_head_lem names (Ok (Accepted mark)) told = accepted_head names mark

marked_head : (mark : Mark) → mark_told (0 ∷ mark_numbers mark) ≡ tell (mark_head mark) (map pos (mark_behind (Ok mark)))
unfolding mark_numbers mark_told marking mark_head mark_behind tell
marked_head Clean = refl
marked_head (Unclean k e) = refl

pub marking_head_lem : (m : Result Mark Unreadable) → MarkingTold m → mark_told (marking_numbers m) ≡ tell (marking_head m) (map pos (mark_behind m))
unfolding marking_numbers unreadable_numbers wrong_byte_numbers mark_told marking_head unreadable_head mark_behind tell
marking_head_lem (Err (Unasked x)) told =
    let asked = told.refused x refl in
    rw (ne_eqb x.number 0 (λ e. omega (arith, asked.numbered)))
marking_head_lem (Err (Unfit w)) told = refl
marking_head_lem (Ok mark) told = marked_head mark

-- the solver
solving_one : (r : Solving) (count : ℕ) → solver_told (solving_numbers r ++ (count ∷ [])) ≡ tell (solving_head r) (map pos (count ∷ []))
unfolding solving_numbers solver_told solving_head tell
solving_one Finished count = refl
solving_one Full count = refl

pub solved_head : (s : Solved) → solver_told (solved_numbers (Ok s)) ≡ tell (solving_head s.solving) (map pos (s.count ∷ []))
unfolding solved_numbers
solved_head s = solving_one s.solving s.count

pub unsolved_head : (x : Unreadable) → solver_told (solved_numbers (Err x)) ≡ tell (unreadable_head x) (map pos (0 ∷ []))
unfolding solved_numbers unreadable_numbers wrong_byte_numbers solver_told unreadable_head tell
unsolved_head (Unasked x) = refl
unsolved_head (Unfit w) = refl

-- figures
pub figures_head : (f : Figures) → figures_told (figures_numbers (Ok f)) ≡ tell (Answered 0) (class_numbers f)
unfolding figures_numbers class_numbers totals_numbers fraction_numbers figures_told tell
figures_head f = refl

pub no_figures_head : (x : Refusal) → figures_told (figures_numbers (Err x)) ≡ tell (Declined x.number x.offset) (class_numbers no_figures)
unfolding figures_numbers class_numbers totals_numbers fraction_numbers figures_told tell
no_figures_head x = refl
