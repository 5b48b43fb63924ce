-- Laws of asking: what a fit answer says of each question, and what the first refusal says of all.
use Rattle.std.specs.Prelude.{Err, Ok}
use mathlib.Core.Path.{◌≡◌, refl, sym, ◌∙◌, ap}
use mathlib.Core.Bool.{Bool, true, false, false≢true}
use mathlib.Core.List.{List, [], ◌∷◌, ◌++◌}
use Prim.Native.Nat.{ℕ, zero, suc, ◌<◌}
use lib.ListN.{get_or}
use Rattle.program.specs.Asking.{ask, then_ask, is_refused, in_turn, ask_each, validity_numbers, Validity}
use Rattle.program.specs.declared.Refusal.{Refusal}
use Rattle.std.specs.Result.{IsErrAnd}
use Rattle.signs.proofs.Results.{raised_again}
use Rattle.program.proofs.FirstSuch.{first_same, first_nothing, first_at, first_more, all_nothing}

-- a refusal is not fit
pub refused_unfit {ℓ} : {A : Type ℓ} (x : Refusal) → ◌≡◌ {A = Validity} (Err x) (Ok tt) → A
unfolding is_refused
refused_unfit x e = absurd (false≢true (sym (ap is_refused e)))

pub ask_fit : (b : Bool) (n at : ℕ) → ask b n at ≡ Ok tt → b ≡ true
unfolding ask
ask_fit true n at e = refl
ask_fit false n at e = refused_unfit _ e

pub then_first : (a b : Validity) → then_ask a b ≡ Ok tt → a ≡ Ok tt
unfolding then_ask
then_first (Ok _) b e = refl
then_first (Err x) b e = e

pub then_second : (a b : Validity) → then_ask a b ≡ Ok tt → b ≡ Ok tt
unfolding then_ask
then_second (Ok _) b e = e
then_second (Err x) b e = refused_unfit x e

pub then_fit : (a : Validity) → then_ask a (Ok tt) ≡ a
unfolding then_ask
then_fit (Ok _) = refl
then_fit (Err x) = refl

-- questions in turn, all answered yes: yes to each
pub turn_fit : (xs : List Validity) (k : ℕ) → in_turn xs ≡ Ok tt → get_or xs k (Ok tt) ≡ Ok tt
unfolding in_turn
turn_fit [] k e = refl
turn_fit (x ∷ xs) zero e = then_first x (in_turn xs) e
turn_fit (x ∷ xs) (suc k) e = turn_fit xs k (then_second x (in_turn xs) e)

-- one question more, after some in turn
pub turn_last : (xs : List Validity) (w : Validity) → in_turn (xs ++ (w ∷ [])) ≡ then_ask (in_turn xs) w
unfolding in_turn then_ask
turn_last [] w = then_fit w
turn_last ((Ok _) ∷ xs) w = turn_last xs w
turn_last (Err x ∷ xs) w = refl

-- how code asks: an answer v to the first questions is returned where it is a refusal, and the next asked where it is not
pub stops : (a b v : Validity) (r : Bool) → v ≡ a → r ≡ is_refused v → r ≡ true → v ≡ then_ask a b
unfolding then_ask is_refused
stops (Err x) b v r e i t = e
stops (Ok _) b v r e i t = absurd (false≢true (sym (i ∙ ap is_refused e) ∙ t))

pub goes_on_lem : (a b v w : Validity) (r : Bool) → v ≡ a → r ≡ is_refused v → r ≡ false → w ≡ b → w ≡ then_ask a b
unfolding then_ask is_refused
goes_on_lem (Ok _) b v w r e i f h = h
goes_on_lem (Err x) b v w r e i f h = absurd (false≢true (sym f ∙ i ∙ ap is_refused e))

pub last_asked : (a w : Validity) → w ≡ a → w ≡ then_ask a (Ok tt)
last_asked a w e = e ∙ sym (then_fit a)

pub not_refused : (v : Validity) (r : Bool) → r ≡ is_refused v → r ≡ false → v ≡ Ok tt
unfolding is_refused
not_refused (Ok _) r i f = refl
not_refused (Err x) r i f = absurd (false≢true (sym f ∙ i))

pub stopped {ℓ} : {A : Type ℓ} {a v : Validity} {r : Bool} → v ≡ a → r ≡ is_refused v → r ≡ true → a ≡ Ok tt → A
unfolding is_refused
stopped e i t fit = absurd (false≢true (sym (i ∙ ap is_refused (e ∙ fit)) ∙ t))

-- the same in two steps: a question that was answered yes, and one more that is asked after it
pub answered : {a v : Validity} {r : Bool} → v ≡ a → r ≡ is_refused v → r ≡ false → a ≡ Ok tt
answered {v = v} {r = r} e i f = sym e ∙ not_refused v r i f

pub passed : {a b w : Validity} → a ≡ Ok tt → w ≡ b → w ≡ then_ask a b
unfolding then_ask
passed e h = rw e h

-- an answer that is no refusal is fit
fit_only : (v : Validity) → is_refused v ≡ false → v ≡ Ok tt
fit_only v i = not_refused v (is_refused v) refl i

-- asked up to n and all yes: yes to each
pub each_fit : (n : ℕ) (q : ℕ → Validity) → ask_each n q ≡ Ok tt → (k : ℕ) → k < n → q k ≡ Ok tt
unfolding ask_each is_refused
each_fit = first_nothing is_refused (Ok tt) refl fit_only

-- and the other way round
pub each_yes : (n : ℕ) (q : ℕ → Validity) → ((k : ℕ) → k < n → q k ≡ Ok tt) → ask_each n q ≡ Ok tt
unfolding ask_each is_refused
each_yes = all_nothing is_refused (Ok tt) refl fit_only

-- how code asks in a loop: the answer v at k is returned where it is a refusal
pub each_stops : (n : ℕ) (q : ℕ → Validity) (k : ℕ) (v : Validity) (r : Bool) → k < n → ask_each k q ≡ Ok tt → v ≡ q k → r ≡ is_refused v → r ≡ true → v ≡ ask_each n q
unfolding ask_each is_refused
each_stops n q k v r h e p i t = p ∙ sym (first_at is_refused (Ok tt) refl fit_only n q k h e (ap is_refused (sym p) ∙ sym i ∙ t))

pub each_goes_on : (q : ℕ → Validity) (k : ℕ) (v : Validity) (r : Bool) → ask_each k q ≡ Ok tt → v ≡ q k → r ≡ is_refused v → r ≡ false → ask_each (suc k) q ≡ Ok tt
unfolding ask_each is_refused
each_goes_on q k v r e p i f = first_more is_refused (Ok tt) refl fit_only q k e (sym p ∙ not_refused v r i f)

-- it depends on what is asked below n alone
pub each_same : (n : ℕ) (p q : ℕ → Validity) → ((k : ℕ) → k < n → p k ≡ q k) → ask_each n p ≡ ask_each n q
unfolding ask_each
each_same = first_same is_refused (Ok tt)

-- the promise of an answer, as it is and in document 01's numbers
pub numbered : {v w : Validity} → v ≡ w → record { value : v ≡ w; numbers : validity_numbers v ≡ validity_numbers w }
numbered e = record { value = e; numbers = ap validity_numbers e }

-- how code asks with `?`: the refusal x of the answer v to a question a is handed on as r, and nothing asked after it
pub raised : {v r : Validity} {x : Refusal} (a b : Validity) → v ≡ a → IsErrAnd r (λ y. y ≡ x) → v ≡ Err x → r ≡ then_ask a b
unfolding is_refused
raised {v} {r} a b e h was = raised_again r h was ∙ stops a b v true e (ap is_refused (sym was)) refl

-- the same in a loop, at k
pub each_raised : {v r : Validity} {x : Refusal} (n : ℕ) (q : ℕ → Validity) (k : ℕ) → k < n → ask_each k q ≡ Ok tt → v ≡ q k → IsErrAnd r (λ y. y ≡ x) → v ≡ Err x → r ≡ ask_each n q
unfolding is_refused
each_raised {v} {r} n q k l e p h was = raised_again r h was ∙ each_stops n q k v true l e p (ap is_refused (sym was)) refl

-- and one more where the answer is yes
pub each_more : {v : Validity} (q : ℕ → Validity) (k : ℕ) → ask_each k q ≡ Ok tt → v ≡ q k → v ≡ Ok tt → ask_each (suc k) q ≡ Ok tt
unfolding is_refused
each_more {v} q k e p was = each_goes_on q k v false e p (ap is_refused (sym was)) refl

-- what is handed on is no yes
pub unanswered {ℓ} : {A : Type ℓ} (r : Validity) (P : Refusal → Type 0) → IsErrAnd r P → r ≡ Ok tt → A
unanswered (Ok _) P h e = absurd h
unanswered (Err y) P h e = refused_unfit y e
