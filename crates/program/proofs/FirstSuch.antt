-- Laws of "first such": how a loop over 0, 1, … finds it, and what it says of the answers passed over.
use Rattle.std.specs.Prelude.{None, Option, Some}
use mathlib.Core.Path.{◌≡◌, refl, sym, ◌∙◌, ap}
use mathlib.Core.Bool.{Bool, true, false, cond, false≢true}
use Prim.Native.Nat.{ℕ, zero, suc, ◌<◌}
use native.Mathlib.Omega.{arith}
use native.Mathlib.Decide.{ℕ_discrete}
use Rattle.program.specs.FirstSuch.{or_else, first_of, is_at, first_such}

-- the first depends on the answers below n alone
pub first_same : {A : Type 0} (settles : A → Bool) (nothing : A) (n : ℕ) (f g : ℕ → A) → ((k : ℕ) → k < n → f k ≡ g k)
    → first_of settles nothing n f ≡ first_of settles nothing n g
unfolding first_of
first_same settles nothing zero f g h = refl
first_same settles nothing (suc n) f g h = rw (first_same settles nothing n f g (λ k l. h k (omega arith)), h n (omega arith))

-- where the first answer below n settles the matter: its number, and nothing before it
pub record Foremost {A : Type 0} (settles : A → Bool) (nothing : A) (n : ℕ) (f : ℕ → A) : Type 0 where
  pub at : ℕ
  pub below : at < n
  pub answer : first_of settles nothing n f ≡ f at
  pub settled : settles (f at) ≡ true
  pub before : (j : ℕ) → j < at → f j ≡ nothing

-- where `nothing` is the one answer that settles nothing
module _ {A : Type 0} (settles : A → Bool) (nothing : A) (unsettled : settles nothing ≡ false) (only : (x : A) → settles x ≡ false → x ≡ nothing) where
  else_nothing : (x y : A) → or_else settles x y ≡ nothing → (x ≡ nothing) × (y ≡ nothing)
  unfolding or_else
  else_nothing x y e = go (settles x) refl e
    where
      go : (b : Bool) → settles x ≡ b → cond b x y ≡ nothing → (x ≡ nothing) × (y ≡ nothing)
      go true s e = absurd (false≢true (sym unsettled ∙ ap settles (sym e) ∙ s))
      go false s e = (only x s, e)

  else_later : (x y : A) → x ≡ nothing → or_else settles x y ≡ y
  unfolding or_else
  else_later x y e = rw (e, unsettled)

  -- nothing settled up to n: nothing at each
  pub first_nothing : (n : ℕ) (f : ℕ → A) → first_of settles nothing n f ≡ nothing → (k : ℕ) → k < n → f k ≡ nothing
  unfolding first_of
  first_nothing zero f e k h = absurd (omega arith)
  first_nothing (suc n) f e k h =
      let both = else_nothing (first_of settles nothing n f) (f n) e in
      elim (ℕ_discrete k n) [ yes p ↦ ap f p ∙ both.1 | no q ↦ first_nothing n f both.0 k (omega arith) ]

  -- and one more where that settles nothing
  pub first_more : (f : ℕ → A) (k : ℕ) → first_of settles nothing k f ≡ nothing → f k ≡ nothing → first_of settles nothing (suc k) f ≡ nothing
  unfolding first_of
  first_more f k e h = else_later (first_of settles nothing k f) (f k) e ∙ h

  -- nothing settled before k, and k settles it: that is the first
  pub first_at : (n : ℕ) (f : ℕ → A) (k : ℕ) → k < n → first_of settles nothing k f ≡ nothing → settles (f k) ≡ true → first_of settles nothing n f ≡ f k
  unfolding first_of or_else
  first_at zero f k h e s = absurd (omega arith)
  first_at (suc n) f k h e s =
      elim (ℕ_discrete k n) [
        | yes p ↦ rw (← p) (else_later (first_of settles nothing k f) (f k) e)
        | no q ↦ rw (first_at n f k (omega arith) e s, s)
      ]

  -- nothing at each below n: nothing
  pub all_nothing : (n : ℕ) (f : ℕ → A) → ((k : ℕ) → k < n → f k ≡ nothing) → first_of settles nothing n f ≡ nothing
  unfolding first_of
  all_nothing zero f h = refl
  all_nothing (suc n) f h = first_more f n (all_nothing n f (λ k l. h k (omega arith))) (h n (omega arith))

  -- nothing at each before k, and k settles it: that is the first; and where the first settles it, it is found so
  pub first_where : (n : ℕ) (f : ℕ → A) (k : ℕ) → k < n → ((j : ℕ) → j < k → f j ≡ nothing) → settles (f k) ≡ true → first_of settles nothing n f ≡ f k
  first_where n f k h e s = first_at n f k h (all_nothing k f e) s

  pub first_found : (n : ℕ) (f : ℕ → A) → settles (first_of settles nothing n f) ≡ true → Foremost settles nothing n f
  unfolding first_of or_else
  first_found zero f h = absurd (false≢true (sym unsettled ∙ h))
  first_found (suc n) f h = go (settles (first_of settles nothing n f)) refl (first_found n f)
    where
      go : (b : Bool) → settles (first_of settles nothing n f) ≡ b → (settles (first_of settles nothing n f) ≡ true → Foremost settles nothing n f)
          → Foremost settles nothing (suc n) f
      go true s earlier =
          let found = earlier s in
          record {
            at = found.at;
            below = omega arith;
            answer = rw s found.answer;
            settled = found.settled;
            before = found.before;
          }
      go false s earlier =
          let none = only _ s in
          let last = else_later (first_of settles nothing n f) (f n) none in
          record {
            at = n;
            below = omega arith;
            answer = last;
            settled = ap settles (sym last) ∙ h;
            before = first_nothing n f none;
          }

-- ---- The first that passes a test

no_number : (x : Option ℕ) → is_at x ≡ false → x ≡ None
unfolding is_at
no_number (Some k) e = absurd (false≢true (sym e))
no_number None e = refl

-- the answer at k, by its test
tested : (b : Bool) (k : ℕ) → is_at (cond b (Some k) None) ≡ b
unfolding is_at
tested true k = refl
tested false k = refl

-- k passes, and is the first below n to do so
pub record FirstPassing (n : ℕ) (test : ℕ → Bool) (k : ℕ) : Type 0 where
  pub below : k < n
  pub passes : test k ≡ true
  pub before : (j : ℕ) → j < k → test j ≡ false

module _ (n : ℕ) (test : ℕ → Bool) where
  -- nothing where none below n passes, and only there
  pub none_such : ((k : ℕ) → k < n → test k ≡ false) → first_such n test ≡ None
  unfolding first_such is_at
  none_such h = all_nothing is_at None refl no_number n _ (λ k l. rw (h k l))

  pub such_none : first_such n test ≡ None → (k : ℕ) → k < n → test k ≡ false
  unfolding first_such is_at
  such_none e k l = sym (tested (test k) k) ∙ ap is_at (first_nothing is_at None refl no_number n _ e k l)

  -- k where it is the first that passes, and only there
  pub first_such_lem : (k : ℕ) → FirstPassing n test k → first_such n test ≡ Some k
  unfolding first_such is_at
  first_such_lem k h =
      first_where is_at None refl no_number n _ k h.below (λ j m. rw (h.before j m)) (tested (test k) k ∙ h.passes) ∙ rw h.passes

  pub such_first : (k : ℕ) → first_such n test ≡ Some k → FirstPassing n test k
  unfolding first_such is_at
  such_first k e =
      let found = first_found is_at None refl no_number n _ (ap is_at e) in
      let pass = sym (tested (test found.at) found.at) ∙ found.settled in
      let answer : Some found.at ≡ Some k = sym (rw pass at found.answer) ∙ e in
      let same : found.at ≡ k = cc in
      record {
        below = rw same at found.below;
        passes = rw same at pass;
        before = λ j l. sym (tested (test j) j) ∙ ap is_at (found.before j (omega arith));
      }

  -- it depends on the tests below n alone
  pub such_same : (other : ℕ → Bool) → ((k : ℕ) → k < n → test k ≡ other k) → first_such n test ≡ first_such n other
  unfolding first_such
  such_same other h = first_same is_at None n _ _ (λ k l. rw (h k l))

-- how code finds it in a loop: k where none passed before and k does, and on where k does not
pub such_stops : (n : ℕ) (test : ℕ → Bool) (k : ℕ) → k < n → first_such k test ≡ None → test k ≡ true → first_such n test ≡ Some k
such_stops n test k l e t = first_such_lem n test k (record { below = l; passes = t; before = such_none k test e })

pub such_goes_on : (test : ℕ → Bool) (k : ℕ) → first_such k test ≡ None → test k ≡ false → first_such (suc k) test ≡ None
unfolding first_such is_at
such_goes_on test k e t = first_more is_at None refl no_number _ k e (rw t)
