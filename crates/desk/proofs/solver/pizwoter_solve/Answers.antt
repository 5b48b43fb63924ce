-- `pizwoter_solve`: too short, or by the answer's cases: how the solver ended and the count, or why the lists are not read.
use mathlib.Core.Path.{sym, ap, ◌∙◌}
use mathlib.Core.List.{[], ◌∷◌, map}
use native.Mathlib.Omega.{arith}
use lib.IntN.{pos}
use Rattle.std.specs.Prelude.{Err}
use Rattle.analysis.specs.Solver.{solved_numbers, solver_row}
use Rattle.desk.specs.Rows.{solver_told, solved}
use Rattle.desk.proofs.Heads.{solved_head, unsolved_head}
use Rattle.desk.proofs.Places.{solved_narrow}
use Rattle.desk.proofs.Replies.{short_told, short_kept, roomy_kept, told_by}
use Rattle.desk.proofs.solver.pizwoter_solve.Goals as goal

pub returns-then-reply-lt-SOLVER : goal.returns-then-reply-lt-SOLVER
returns-then-reply-lt-SOLVER c = record { tells = short_told _ _ (omega (arith, c.if-reply-lt-SOLVER.true)) _; buffer = short_kept _ _ (omega (arith, c.if-reply-lt-SOLVER.true)) _ _ }

pub of_unreadable-requires : goal.of_unreadable-requires
of_unreadable-requires c =
    let narrow = solved_narrow _ _ _ _ c.solve_on.ensures.value.0 in
    record { refused = λ x e. narrow.refused x (c.in-Err.is ∙ ap Err e); malformed = λ w e. narrow.malformed w (c.in-Err.is ∙ ap Err e) }

pub returns-in-Ok : goal.returns-in-Ok
unfolding solved solver_row
returns-in-Ok c =
    let made = rw c.named.ensures at c.solve_on.ensures.value in
    let s = c.in-Ok.solved in record {
      tells = told_by (omega (arith, c.if-reply-lt-SOLVER.false)) (map pos (s.count ∷ [])) c.put.type_inv
          (ap (λ x. solver_told (solved_numbers x)) (sym made.0 ∙ c.in-Ok.is) ∙ solved_head s) c.of_solving.ensures c.put.ensures;
      buffer = made.1 ∙ roomy_kept _ _ (omega (arith, c.if-reply-lt-SOLVER.false)) _ _;
    }

pub returns-in-Err : goal.returns-in-Err
unfolding solved solver_row
returns-in-Err c =
    let made = rw c.named.ensures at c.solve_on.ensures.value in record {
      tells = told_by (omega (arith, c.if-reply-lt-SOLVER.false)) (map pos (0 ∷ [])) c.put-in-Err.type_inv
          (ap (λ x. solver_told (solved_numbers x)) (sym made.0 ∙ c.in-Err.is) ∙ unsolved_head _) c.of_unreadable.ensures c.put-in-Err.ensures;
      buffer = made.1 ∙ roomy_kept _ _ (omega (arith, c.if-reply-lt-SOLVER.false)) _ _;
    }
