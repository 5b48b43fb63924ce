-- `Machine::element_stored` meets its contract.
use Rattle.std.proofs.Common.{sym, ◌∙◌}
use Rattle.program.proofs.Laws.{arith_whole}
use Rattle.analysis.proofs.Alike.{store_results, no_store}
use Rattle.analysis.proofs.evaluator.Machine.element_stored.Goals as goal

pub returns-then-may_index : goal.returns-then-may_index
returns-then-may_index c graph =
    let s = c.args in
    rw (arith_whole s.self.code.now graph s.i, arith_whole s.self.code.now graph s.a)
    (store_results s.x _ _ (rw (← c.signs-index.ensures graph) (sym c.may_index.ensures ∙ c.if-may_index.true))
    (rw (← c.set_of.ensures, ← c.signs-values.ensures graph) c.stored_sets.ensures))

pub returns : goal.returns
returns c graph =
    let s = c.args in
    rw (arith_whole s.self.code.now graph s.i, arith_whole s.self.code.now graph s.a)
    (no_store s.x _ _ (rw (← c.signs-index.ensures graph) (sym c.may_index.ensures ∙ c.if-may_index.false)) c.unchanged.ensures)
