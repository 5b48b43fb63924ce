-- `program::validation::operands::settled` meets its contract.
use Rattle.std.specs.Prelude.{Ok, Err}
use Rattle.std.specs.Result.{result_eq}
use mathlib.Core.Bool.{Bool, false, ◌||◌}
use mathlib.Core.Path.{◌≡◌, refl, sym, ◌∙◌}
use Rattle.program.specs.Asking.{in_turn}
use Rattle.program.specs.Parts.Checking.{Answer, has, any_has}
use Rattle.program.specs.contracts.validation.operands.FlawPartialEq.TheImpl.{eq-value}
use Rattle.std.specs.contracts.prelude.UnitPartialEq.TheImpl.{eq-value as unit_eq}
use Rattle.program.specs.declared.validation.operands.Flaw.{Flaw}
use Rattle.program.specs.declared.validation.operands.Flaw.TheVariants.{Unnamed, Astray}
use Rattle.program.proofs.Asking.{raised, passed, last_asked}
use Rattle.program.proofs.validation.operands.settled.Goals as goal

-- to be the answer that is this flaw is to have it
is_flaw : (f : Flaw) (r : Answer) → result_eq unit_eq.it eq-value.it r (Err f) ≡ has f r
unfolding has
is_flaw Unnamed (Ok _) = refl
is_flaw Unnamed (Err Unnamed) = refl
is_flaw Unnamed (Err Astray) = refl
is_flaw Astray (Ok _) = refl
is_flaw Astray (Err Unnamed) = refl
is_flaw Astray (Err Astray) = refl

any_flaw : (f : Flaw) (p q r : Answer) {b : Bool} → b ≡ (result_eq unit_eq.it eq-value.it p (Err f) || (result_eq unit_eq.it eq-value.it q (Err f) || (result_eq unit_eq.it eq-value.it r (Err f) || false))) → b ≡ any_has f p q r
unfolding any_has
any_flaw f p q r e = rw (is_flaw f p, is_flaw f q, is_flaw f r) at e

pub returns-in_err-ask : goal.returns-in_err-ask
unfolding in_turn
returns-in_err-ask c = rw (← any_flaw Unnamed c.args.p c.args.q c.args.r c.contains.ensures.value) (raised _ _ c.ask.ensures c.from_residual.ensures.1 c.in_err-ask.was)

pub returns : goal.returns
unfolding in_turn
returns c = rw (← any_flaw Unnamed c.args.p c.args.q c.args.r c.contains.ensures.value, ← any_flaw Astray c.args.p c.args.q c.args.r c.contains-2.ensures.value) (passed (sym c.ask.ensures ∙ c.in_ok-ask.was) (last_asked _ _ c.ask-2.ensures))
