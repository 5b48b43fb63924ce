-- What a caller may rely on beside the contracts: every row has its one length, and the parts that a row names are there.
use Rattle.std.specs.Prelude.{Ok}
use mathlib.Core.Path.{◌≡◌}
use mathlib.Core.List.{List}
use Prim.Native.Nat.{ℕ, ◌+◌, ◌≤◌}
use lib.IntN.{ℤ}
use lib.ListN.{length, take, drop}
use Rattle.program.specs.File.{sizes}
use Rattle.program.specs.Questions.{input_validity, input_row, program_part, initial_part}
use Rattle.program.specs.Asking.{validity_numbers}
use Rattle.program.specs.declared.Construction.{Construction}
use Rattle.program.proofs.Laws as Program
use Rattle.semantics.specs.Step.{Configuration}
use Rattle.analysis.specs.Verdict.{verdict, offending}
use Rattle.figures.specs.declared.Totals.{Totals}
use Rattle.desk.specs.Reply.{answered_with}
use Rattle.desk.specs.Rows.{validation_room, validated, input_validated, parts_room, parts_told, parts, drawing_room, drew, run_room, stepped, ran, verdict_room, judged, told_at, list_named, part_named, mark_room, marked, solver_room, solved, split_room, split, figures_room, figured, joined}
use Rattle.desk.proofs.Lengths
use Rattle.desk.proofs.Lengths.{Long}
use Rattle.desk.proofs.Offending

-- every row has the length of its call, whatever the answer
pub rows_long :
    (κ : Construction) (s other third : List ℕ) (m : List ℤ) (c : Configuration) (n : ℕ) (a b : Totals)
    → Long validation_room (validated s) × Long validation_room (input_validated s) × Long parts_room (parts s) × Long drawing_room (drew κ s other) × Long run_room (stepped κ s c n)
    × Long run_room (ran κ s n m) × Long verdict_room (judged κ s other third) × Long mark_room (marked s other) × Long solver_room (solved κ s other third) × Long split_room (split s n)
    × Long figures_room (figured m) × Long figures_room (joined a b)
rows_long κ s other third m c n a b = (
  Lengths.validated_long s,
  Lengths.input_long s,
  Lengths.parts_long s,
  Lengths.drew_long κ s other,
  Lengths.stepped_long κ s c n,
  Lengths.ran_long κ s n m,
  Lengths.judged_long κ s other third,
  Lengths.marked_long s other,
  Lengths.solved_long κ s other third,
  Lengths.split_long s n,
  Lengths.figured_long m,
  Lengths.joined_long a b,
)

-- the offending record is the part of the list that the row names, and that part lies inside the list
module _ (κ : Construction) (s initial solution : List ℕ) where
  pub offending_part : part_named initial solution (judged κ s initial solution) ≡ offending (sizes s) initial solution (verdict κ s initial solution)
  offending_part = Offending.offending_part κ s initial solution

  pub offending_inside : let t = judged κ s initial solution in told_at t 5 + told_at t 6 ≤ length (list_named initial solution (told_at t 0))
  offending_inside = Offending.offending_inside κ s initial solution

-- the program and the start list of a fit input are the parts of it that the row names, and they end with it
module _ (s : List ℕ) (fit : input_validity s ≡ Ok tt) where
  pub program_part_lem : take (told_at (parts s) 3) s ≡ program_part s
  unfolding parts parts_told input_row validity_numbers answered_with
  program_part_lem = rw fit (Program.program_there s fit)

  pub initial_part_lem : take (told_at (parts s) 5) (drop (told_at (parts s) 4) s) ≡ initial_part s
  unfolding parts parts_told input_row validity_numbers answered_with
  initial_part_lem = rw fit (Program.initial_there s fit)

  pub parts_inside : told_at (parts s) 4 + told_at (parts s) 5 ≡ length s
  unfolding parts parts_told input_row validity_numbers answered_with
  parts_inside = rw fit (Program.parts_fill s fit)
