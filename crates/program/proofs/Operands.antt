-- What questions 7 to 9 say of an entry's operands, by their roles.
use Rattle.std.specs.Prelude.{Ok}
use mathlib.Core.Path.{◌≡◌}
use mathlib.Core.Bool.{true, false, false≢true}
use mathlib.Core.List.{List}
use Prim.Native.Nat.{ℕ, ◌<◌}
use lib.Dec.{ltb}
use borrow.Author.Tests.{ltb-true}
use Rattle.program.specs.File.{sizes, entry_count, entry, is_variable, is_array}
use Rattle.program.specs.Kind.{Role, Unused, Half, Variable, Array, To, Shape, Unknown, Known, shape, table_of}
use Rattle.program.specs.Questions.{named, points, limit, of_sort, each_operand, shape_validity, entry_validity, validity}
use Rattle.program.specs.declared.Entry.{Entry}
use Rattle.program.specs.declared.Sort.{Sort}
use Rattle.program.specs.declared.Table.{Table}
use Rattle.program.proofs.Asking.{ask_fit, turn_fit}
use Rattle.program.proofs.Fit.{entry_fit}
use Rattle.program.proofs.Tests.{two, three}

-- a reference to a lower entry, or to one of an earlier table, that is of its sort
pub record Reference (s : List ℕ) (t : Table) (n : ℕ) (sort : Sort) (x : ℕ) : Type 0 where
  pub lower : x < limit s t n (table_of sort)
  pub sorted : of_sort s sort x ≡ true

-- what holds of an operand of entry n of table t
abbrev pub Operand : List ℕ → Table → ℕ → Role → ℕ → Type 0
Operand s t n Unused x = Unit
Operand s t n Half x = Unit
Operand s t n Variable x = is_variable (sizes s) x ≡ true
Operand s t n Array x = is_array (sizes s) x ≡ true
Operand s t n (To sort) x = Reference s t n sort x

operand_fit : (s : List ℕ) (t : Table) (n : ℕ) (role : Role) (x : ℕ) → named s role x ≡ true → points s t n role x ≡ true → Operand s t n role x
unfolding named points
operand_fit s t n Unused x h k = tt
operand_fit s t n Half x h k = tt
operand_fit s t n Variable x h k = h
operand_fit s t n Array x h k = h
operand_fit s t n (To sort) x h k =
    let known = two (ltb x (limit s t n (table_of sort))) (of_sort s sort x) k in
    record { lower = ltb-true _ _ known.0; sorted = known.1 }

-- what holds of an entry of a known kind; no entry is of an unknown one
abbrev pub Operands : List ℕ → Table → ℕ → Shape → Entry → Type 0
Operands s t n Unknown e = ⊥
Operands s t n (Known x) e = Operand s t n x.p e.p × Operand s t n x.q e.q × Operand s t n x.r e.r

shape_fit : (s : List ℕ) (t : Table) (n : ℕ) (x : Shape) → shape_validity s t n x ≡ Ok tt → Operands s t n x (entry s t n)
unfolding shape_validity each_operand
shape_fit s t n Unknown e = absurd (false≢true (ask_fit false 7 _ e))
shape_fit s t n (Known x) e =
    let o = entry s t n in
    let names = three (named s x.p o.p) (named s x.q o.q) (named s x.r o.r) (ask_fit _ 8 _ (turn_fit _ 0 e)) in
    let refs = three (points s t n x.p o.p) (points s t n x.q o.q) (points s t n x.r o.r) (ask_fit _ 9 _ (turn_fit _ 1 e)) in
    (operand_fit s t n _ _ names.0 refs.0, operand_fit s t n _ _ names.1 refs.1, operand_fit s t n _ _ names.2 refs.2)

pub operands_fit : (s : List ℕ) → validity s ≡ Ok tt → (t : Table) (n : ℕ) → n < entry_count s t → Operands s t n (shape t (entry s t n).kind) (entry s t n)
unfolding entry_validity
operands_fit s fit t n h = shape_fit s t n _ (entry_fit s fit t n h)
