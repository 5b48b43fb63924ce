-- A value's row read back: two values with the same row are the same.
use mathlib.Core.Path.{◌≡◌, refl, sym, ap, ◌∙◌}
use mathlib.Core.List.{List, [], ◌∷◌}
use Prim.Native.Nat.{ℕ, ◌-◌}
use lib.IntN.{ℤ, pos, negsuc}
use lib.ListN.{length, get_or}
use Rattle.signs.specs.Number.{reason_number, value_numbers}
use Rattle.signs.specs.declared.Reason.{Reason}
use Rattle.signs.specs.declared.Reason.TheVariants.{ConditionFalse, DivisorZero, ExponentNegative, IndexNegative, IndexTooLarge, OutOfRange}
use Rattle.std.specs.Prelude.{Result, Ok, Err}

-- a natural number out of a row of integers
unfoldable pub natural : ℤ → ℕ
natural (pos n) = n
natural (negsuc n) = 0

abbrev value_read : List ℤ → Result ℤ Reason
value_read l =
    get_or
    (Err OutOfRange
    ∷ Err (get_or (ConditionFalse ∷ DivisorZero ∷ ExponentNegative ∷ IndexNegative ∷ IndexTooLarge ∷ OutOfRange ∷ []) (natural (get_or l 0 (pos 0)) - 31) OutOfRange)
    ∷ Ok (get_or l 1 (pos 0))
    ∷ [])
    (length l)
    (Err OutOfRange)

value_back : (v : Result ℤ Reason) → value_read (value_numbers v) ≡ v
unfolding value_numbers reason_number natural
value_back (Ok z) = refl
value_back (Err ConditionFalse) = refl
value_back (Err DivisorZero) = refl
value_back (Err ExponentNegative) = refl
value_back (Err IndexNegative) = refl
value_back (Err IndexTooLarge) = refl
value_back (Err OutOfRange) = refl

pub value_row_lem : (v w : Result ℤ Reason) → value_numbers v ≡ value_numbers w → v ≡ w
value_row_lem v w e = sym (value_back v) ∙ ap (λ l. value_read l) e ∙ value_back w
