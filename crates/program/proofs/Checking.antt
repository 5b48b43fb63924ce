-- Laws of the checks of an entry: its answer by those of its operands.
use Rattle.std.specs.Prelude.{Ok, Err}
use mathlib.Core.Path.{◌≡◌, refl, sym, ◌∙◌, ap}
use mathlib.Core.Bool.{Bool, true, false, false≢true, not, ◌&&◌, ◌||◌}
use mathlib.Core.List.{List, [], ◌∷◌}
use Prim.Native.Nat.{ℕ}
use Rattle.program.specs.Asking.{ask, in_turn, Validity}
use Rattle.program.specs.Parts.Checking.{Answer, has, OperandChecked, any_has, Standing, EntryChecked}
use Rattle.program.specs.Parts.Counting.{Counted}
use Rattle.program.specs.Parts.Layouts.{LaidOut}
use Rattle.program.specs.File.{span_of, entry}
use Rattle.program.specs.Kind.{Role, Half, Roles, Unknown, Known, shape}
use Rattle.program.specs.Questions.{named, points, same_table, limit, each_operand, shape_validity, entry_validity, refers_to, shape_uses, entry_uses}
use Rattle.program.specs.declared.Entry.{Entry}
use Rattle.program.specs.declared.validation.operands.Flaw.TheVariants.{Unnamed, Astray}
use Rattle.program.specs.declared.Layout.{Layout}
use Rattle.program.specs.declared.Table.{Table}
use Rattle.program.specs.declared.Table.TheVariants.{Arithmetic, Boolean, Commands}
use Rattle.program.proofs.Asking.{ask_fit, turn_fit}
use Rattle.program.proofs.Counting.{counted_none, counted_then}
use Rattle.program.proofs.Reading.{laid_limit}
use Rattle.program.proofs.Tests.{three}

module _ (s : List ℕ) (t : Table) (n : ℕ) (role : Role) (x : ℕ) where
  -- an operand that refers to no entry: question 8 is answered yes, or no
  module _ (anywhere : points s t n role x ≡ true) (none : (u : Table) (k : ℕ) → refers_to u k role x ≡ 0) {a : List ℕ} where
    pub named_checked : named s role x ≡ true → OperandChecked s t n role x a a (Ok tt)
    unfolding has
    named_checked h =
        record { eight = rw h refl; nine = rw anywhere refl; counted = λ h k. counted_none a _ (λ u m l. none u m) }

    pub unnamed_checked : named s role x ≡ false → OperandChecked s t n role x a a (Err Unnamed)
    unfolding has
    unnamed_checked h =
        record { eight = rw h refl; nine = rw anywhere refl; counted = λ h k. counted_none a _ (λ u m l. none u m) }

  -- a reference: question 9 is answered yes, and it is counted, or no
  module _ (reference : named s role x ≡ true) {a b : List ℕ} where
    pub pointing_checked : points s t n role x ≡ true → Counted a b (λ u k. refers_to u k role x) → OperandChecked s t n role x a b (Ok tt)
    unfolding has
    pointing_checked h counted = record { eight = rw reference refl; nine = rw h refl; counted = λ _ _. counted }

    pub astray_checked : points s t n role x ≡ false → OperandChecked s t n role x a b (Err Astray)
    unfolding has
    astray_checked h =
        record { eight = rw reference refl; nine = rw h refl; counted = λ _ k. absurd (false≢true (sym h ∙ k)) }

-- half of a number
pub half_checked : (s : List ℕ) (t : Table) (n x : ℕ) {a : List ℕ} → OperandChecked s t n Half x a a (Ok tt)
unfolding named points refers_to
half_checked s t n x = named_checked s t n Half x refl (λ u k. refl) refl

-- a reference inside a table is below its own entry, one to an earlier table below that one's number of entries
pub own_limit : (s : List ℕ) (t : Table) (n : ℕ) → n ≡ limit s t n t
unfolding limit same_table
own_limit s Arithmetic n = refl
own_limit s Boolean n = refl
own_limit s Commands n = refl

module _ (s : List ℕ) (l : Layout) (laid : LaidOut s l) where
  pub expressions_limit : (t : Table) (n : ℕ) → same_table t Arithmetic ≡ false → l.arithmetic.count ≡ limit s t n Arithmetic
  unfolding span_of
  expressions_limit t n e = rw e at (laid_limit s l laid.same t n Arithmetic)

  pub conditions_limit : (n : ℕ) → l.boolean.count ≡ limit s Commands n Boolean
  unfolding same_table span_of
  conditions_limit n = laid_limit s l laid.same Commands n Boolean

none_of : (a b c : Bool) → not (not a || (not b || (not c || false))) ≡ (a && b && c)
none_of true true true = refl
none_of true true false = refl
none_of true false true = refl
none_of true false false = refl
none_of false true true = refl
none_of false true false = refl
none_of false false true = refl
none_of false false false = refl

module _ (s : List ℕ) (t : Table) (n : ℕ) {e : Entry} {at : ℕ} (here : Standing s t n e at) where
  told : shape t e.kind ≡ shape t (entry s t n).kind
  told = ap (λ (x : Entry). shape t x.kind) here.read

  -- an entry of an unknown kind
  pub unknown_checked : {a : List ℕ} {v : Validity} → shape t e.kind ≡ Unknown → v ≡ ask false 7 at → EntryChecked s t n a a v
  unfolding entry_validity shape_validity entry_uses shape_uses
  unknown_checked {a} h v =
      let shaped = sym told ∙ h in
      record {
        valid = rw (shaped, ← here.place) v;
        counted = λ fit. simp shaped (counted_none a _ (λ u m l. refl));
      }

  -- one of a known kind
  module _ {x : Roles} (shaped : shape t e.kind ≡ Known x) where
    pub known_checked : {a b c d : List ℕ} {p q r : Answer} {v : Validity} → OperandChecked s t n x.p e.p a b p → OperandChecked s t n x.q e.q b c q → OperandChecked s t n x.r e.r c d r → v ≡ in_turn (ask (not (any_has Unnamed p q r)) 8 at ∷ ask (not (any_has Astray p q r)) 9 at ∷ []) → EntryChecked s t n a d v
    unfolding entry_validity shape_validity entry_uses shape_uses each_operand any_has
    known_checked f g h v =
        let known = sym told ∙ shaped in
        let p = rw here.read at f in
        let q = rw here.read at g in
        let r = rw here.read at h in
        let asked : _ ≡ shape_validity s t n (Known x) = rw (p.eight, q.eight, r.eight, none_of, p.nine, q.nine, r.nine, none_of, here.place) at v in
        record {
          valid = rw known asked;
          counted = λ fit.
              let yes = sym asked ∙ fit in
              let names = three (named s x.p _) (named s x.q _) (named s x.r _) (ask_fit _ 8 _ (turn_fit _ 0 yes)) in
              let refs = three (points s t n x.p _) (points s t n x.q _) (points s t n x.r _) (ask_fit _ 9 _ (turn_fit _ 1 yes)) in
              simp known (counted_then _ _ _ _ _ (counted_then _ _ _ _ _ (p.counted names.0 refs.0) (q.counted names.1 refs.1)) (r.counted names.2 refs.2));
        }
