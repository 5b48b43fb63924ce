-- A row of numbers read back: two answers with the same row are the same, so the `numbers` clause of an operation alone fixes its reply.
use Rattle.std.specs.Prelude.{Err, Ok, Result}
use mathlib.Core.Path.{◌≡◌, refl, sym, ap, ◌∙◌}
use mathlib.Core.Bool.{cond}
use mathlib.Core.List.{List}
use Prim.Native.Nat.{ℕ}
use lib.Dec.{eqb}
use lib.ListN.{length, get_or}
use Rattle.program.specs.Asking.{validity_numbers, Validity}
use Rattle.program.specs.Drawing.{drawn_numbers}
use Rattle.program.specs.declared.Drawn.{Drawn}
use Rattle.program.specs.declared.Refusal.{Refusal}

-- of answers that are read back out of their rows, two with the same row are the same
pub same_row : {A B : Type 0} (row : A → B) (read : B → A) {a b : A} → read (row a) ≡ a → read (row b) ≡ b → row a ≡ row b → a ≡ b
same_row row read p q e = sym p ∙ ap read e ∙ q

-- the refusal that a row begins with
abbrev pub refusal_read : List ℕ → Refusal
refusal_read l = record { number = get_or l 0 0; offset = get_or l 1 0 }

abbrev validity_read : List ℕ → Validity
validity_read l = cond (eqb (length l) 1) (Ok tt) (Err (refusal_read l))

validity_back : (v : Validity) → validity_read (validity_numbers v) ≡ v
unfolding validity_numbers
validity_back (Ok _) = refl
validity_back (Err x) = refl

pub validity_row : (v w : Validity) → validity_numbers v ≡ validity_numbers w → v ≡ w
validity_row v w = same_row validity_numbers (λ l. validity_read l) (validity_back v) (validity_back w)

abbrev drawn_read : List ℕ → Result Drawn Refusal
drawn_read l =
    cond (eqb (length l) 3)
    (Ok (record { nodes = get_or l 1 0; edges = get_or l 2 0 }))
    (Err (refusal_read l))

drawn_back : (d : Result Drawn Refusal) → drawn_read (drawn_numbers d) ≡ d
unfolding drawn_numbers
drawn_back (Ok d) = refl
drawn_back (Err x) = refl

pub drawn_row : (c d : Result Drawn Refusal) → drawn_numbers c ≡ drawn_numbers d → c ≡ d
drawn_row c d = same_row drawn_numbers (λ l. drawn_read l) (drawn_back c) (drawn_back d)
