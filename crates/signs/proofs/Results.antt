-- What `?` hands on: the error of the call, unchanged.
use Rattle.std.specs.Prelude.{◌≡◌, Result, Ok, Err}
use mathlib.Core.Path.{sym, ap, ◌∙◌}
use Rattle.std.specs.Result.{IsErrAnd}

pub handed_on : {T E : Type 0} {e : E} (r : Result T E) → IsErrAnd r (λ y. y ≡ e) → r ≡ Err e
handed_on (Ok x) h = absurd h
handed_on (Err y) h = ap Err h

-- a function that hands on the error of a call returns what the call returned
pub raised_again : {T E : Type 0} {e : E} {v : Result T E} (r : Result T E) → IsErrAnd r (λ y. y ≡ e) → v ≡ Err e → r ≡ v
raised_again r h was = handed_on r h ∙ sym was
