-- `program::prepared::fill` meets its contract.
use mathlib.Core.Path.{sym, ◌∙◌}
use Rattle.program.proofs.Preparing.{refused_for, prepared_for}
use Rattle.program.proofs.prepared.fill.Goals as goal

pub returns-in_err-validate : goal.returns-in_err-validate
returns-in_err-validate c = refused_for _ _ _ _ c.validate.ensures.value c.from_residual.ensures.1 c.in_err-validate.was

pub put_code-requires : goal.put_code-requires
put_code-requires c = (sym c.validate.ensures.value ∙ c.in_ok-validate.was, c.fit_layout-l.ensures, c.requires.0)

pub put_graph-requires : goal.put_graph-requires
put_graph-requires c = (sym c.validate.ensures.value ∙ c.in_ok-validate.was, c.fit_layout-l.ensures, c.requires.1)

pub returns : goal.returns
returns c = prepared_for _ _ _ _ (sym c.validate.ensures.value ∙ c.in_ok-validate.was) c.put_code.ensures c.put_graph.ensures

pub fit_layout-l-requires : goal.fit_layout-l-requires
fit_layout-l-requires c = sym c.validate.ensures.value ∙ c.in_ok-validate.was
