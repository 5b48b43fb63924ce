-- The theorems on sheets for the crates above and for a reader, on one page. Their proofs are in the modules that they cite.
use Rattle.std.specs.Prelude.{Ok, Result}
use Rattle.program.specs.declared.Refusal.{Refusal}
use Rattle.std.proofs.Common.{◌≡◌, ℕ, ◌≤◌, List}
use mathlib.Core.List.{flatten}
use Rattle.program.specs.File.{sizes}
use Rattle.program.specs.Graph.{guards, graph, done}
use Rattle.program.specs.Parts.Guards.{all_false}
use Rattle.program.specs.Questions.{validity}
use Rattle.program.specs.Syntax.{Command}
use Rattle.program.specs.declared.Construction.{Construction}
use Rattle.program.specs.declared.Construction.TheVariants.{Nondeterministic}
use Rattle.analysis.specs.Index.{boolean_indexes}
use Rattle.analysis.specs.Records.{initial_formed}
use Rattle.analysis.specs.Signs.{truths_in}
use Rattle.analysis.specs.Solver.{solution, solved_numbers}
use Rattle.analysis.specs.Soundness.{ThirdTermFor}
use Rattle.analysis.specs.Splitter.{split_numbers}
use Rattle.analysis.specs.Verdict.{index_mark, marking, verdict, verdict_numbers, marking_numbers}
use Rattle.analysis.specs.declared.Mark.{Mark}
use Rattle.analysis.specs.declared.Unreadable.{Unreadable}
use Rattle.analysis.specs.declared.Solved.{Solved}
use Rattle.analysis.specs.declared.Split.{Split}
use Rattle.analysis.specs.declared.Verdict.{Verdict}
use Rattle.analysis.proofs.Exits
use Rattle.analysis.proofs.Formed
use Rattle.analysis.proofs.Formed.{FormedList}
use Rattle.analysis.proofs.Marks
use Rattle.analysis.proofs.Readback
use Rattle.analysis.proofs.Readback.{QuestionsOnly}
use Rattle.analysis.proofs.ThirdTerm

-- ---- The third term, on every construction's graph

pub third_term : (κ : Construction) (s initial solution : List ℕ) → ThirdTermFor κ s initial solution (verdict κ s initial solution)
third_term = ThirdTerm.third_term

-- ---- The index mark

-- (order 8) it is the same for every construction: the first edge with an index that may be negative has it in its own guard
pub mark_same : (s : List ℕ) → validity s ≡ Ok tt → (κ : Construction) (solution : List ℕ) → index_mark (sizes s) (graph κ s) solution ≡ index_mark (sizes s) (graph Nondeterministic s) solution
mark_same = Marks.mark_same

-- ---- The exit of a do

-- its truth answers and its index sets are those of "¬b of every guard of the loop, joined by ∧ left to right"
pub exit_answers : (ρ : List ℕ) (c : Command) → truths_in ρ (done c) ≡ truths_in ρ (all_false (guards c))
exit_answers = Exits.exit_answers

pub exit_indexes : (ρ : List ℕ) (c : Command) → boolean_indexes ρ (done c) ≡ boolean_indexes ρ (all_false (guards c))
exit_indexes = Exits.exit_indexes

-- ---- The solver's list

-- the list for a well-formed file and start list has room records at most, each at a node of the graph and with signs that are right for their names
module _ (κ : Construction) (s initial : List ℕ) (fit : validity s ≡ Ok tt) (formed : initial_formed (sizes s) initial ≡ Ok tt) (room : ℕ) where
  pub solution_list : FormedList (sizes s) (graph κ s).nodes room (solution (sizes s) (graph κ s) initial room).records
  solution_list = Formed.solution_list κ s initial fit formed room

  -- so it passes 16 and 17, and its index mark comes back
  pub solution_marked : room ≤ 4096 → (let rs = (solution (sizes s) (graph κ s) initial room).records in marking s (flatten rs) ≡ Ok (index_mark (sizes s) (graph Nondeterministic s) (flatten rs)))
  solution_marked = Formed.solution_marked κ s initial fit formed room

-- ---- Rows of numbers

-- a reply is fixed by its row alone: of a verdict where refusals have a question's number, as those of `verdict` have; of an index mark, of a list solved and of a place split
pub verdict_row_lem : (v w : Result Verdict Unreadable) → QuestionsOnly v → QuestionsOnly w → verdict_numbers v ≡ verdict_numbers w → v ≡ w
verdict_row_lem = Readback.verdict_row_lem

pub verdict_asked : (κ : Construction) (s initial solution : List ℕ) → QuestionsOnly (verdict κ s initial solution)
verdict_asked = Readback.verdict_asked

pub marking_row : (m n : Result Mark Unreadable) → marking_numbers m ≡ marking_numbers n → m ≡ n
marking_row = Readback.marking_row

pub solved_row : (q r : Result Solved Unreadable) → solved_numbers q ≡ solved_numbers r → q ≡ r
solved_row = Readback.solved_row

pub split_row_lem : (x y : Result Split Refusal) → split_numbers x ≡ split_numbers y → x ≡ y
split_row_lem = Readback.split_row_lem
