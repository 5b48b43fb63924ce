-- What precedes an edge at its node, by induction on drawing: no edge drawn before leaves a fresh node, and those that leave the node of an if or do before a guard are
-- the earlier guards'.
use Rattle.std.specs.Prelude.{Ok}
use mathlib.Core.Logic.{◌≢◌}
use mathlib.Core.Path.{◌≡◌, refl, sym, ◌∙◌, ap, subst}
use mathlib.Core.Bool.{Bool, true, false, false≢true, cond, or-true}
use mathlib.Core.List.{List, [], ◌∷◌, ◌++◌, append-nil, append_assoc, flat_map}
use Prim.Native.Nat.{ℕ, zero, suc, ◌+◌, ◌≤◌, ◌<◌}
use native.Mathlib.Nat.{le_of_suc-le-suc, not-suc-le-zero}
use native.Mathlib.Omega.{arith}
use borrow.Author.Tests.{eq-eqb, ne_eqb}
use lib.Dec.{eqb}
use lib.ListN.{length, get_or, take}
use Rattle.signs.specs.Lists.{all_of}
use Rattle.program.specs.Graph.{Action, perform, leave, Edge, edge, Around, within, past, landing, guards, guard_action, part, edge_at, graph, edges, edge_count}
use Rattle.program.specs.Parts.Preceding.{leaving, before, is_test, is_select, is_guard, own_guard, own_guards, Follows}
use Rattle.program.specs.Questions.{validity}
use Rattle.program.specs.Syntax.{Boolean, Command, skip, assign, store, sequence, conditional, iteration, guarded, choice, jump}
use Rattle.program.specs.declared.Construction.{Construction}
use Rattle.program.specs.declared.Construction.TheVariants.{Nondeterministic, Deterministic}
use Rattle.program.proofs.Lists.{concat_append}
use Rattle.program.proofs.Made.{Made, make_skip, make_assign, make_store, make_sequence, make_conditional, make_iteration, make_guarded, make_choice, make_jump}
use Rattle.program.proofs.Nodes.{fresh_grows}
use Rattle.program.proofs.Sorting.{script_made}
use Rattle.program.proofs.Tests.{two, both}

-- ---- edges that leave a node, in lists one after the other

pub leaving_append : (a : ℕ) (xs ys : List Edge) → leaving a (xs ++ ys) ≡ leaving a xs ++ leaving a ys
unfolding leaving
leaving_append a [] ys = refl
leaving_append a (e ∷ xs) ys = by (leaving_append a xs ys) (eqb e.source a)
  where
    by : leaving a (xs ++ ys) ≡ leaving a xs ++ leaving a ys → (t : Bool) → cond t (e.action ∷ leaving a (xs ++ ys)) (leaving a (xs ++ ys)) ≡ cond t (e.action ∷ leaving a xs) (leaving a xs) ++ leaving a ys
    by rest true = ap (λ zs. e.action ∷ zs) rest
    by rest false = rest

-- one edge that leaves it, and one that does not
leaving_here : (a b : ℕ) (x : Action) (es : List Edge) → leaving a (edge a x b ∷ es) ≡ x ∷ leaving a es
unfolding leaving
leaving_here a b x es = rw (eq-eqb a a refl)

leaving_other : (a c b : ℕ) (x : Action) (es : List Edge) → c ≢ a → leaving a (edge c x b ∷ es) ≡ leaving a es
unfolding leaving
leaving_other a c b x es h = rw (ne_eqb c a h)

pub all_append : {A : Type 0} (f : A → Bool) (xs ys : List A) → all_of f xs ≡ true → all_of f ys ≡ true → all_of f (xs ++ ys) ≡ true
unfolding all_of
all_append f [] ys h k = k
all_append f (x ∷ xs) ys h k = let t = two (f x) (all_of f xs) h in both t.0 (all_append f xs ys t.1 k)

pub own_append : (xs ys : List Action) → own_guards (xs ++ ys) ≡ own_guards xs ++ own_guards ys
unfolding own_guards
own_append xs ys = concat_append own_guard xs ys

-- ---- which edges of a part leave which node

-- x is none of the nodes from n up to m: of fewer nodes too, and it is not the first of them
abbrev Outside : ℕ → ℕ → ℕ → Type 0
Outside x n m = n ≤ x → m ≤ x

fewer : {x n m k l : ℕ} → Outside x n m → n ≤ k → l ≤ m → Outside x k l
fewer h a b i = let j = h (omega arith) in omega arith

not_first : {x n m : ℕ} → Outside x n m → n < m → n ≢ x
not_first h l e = let j = h (omega arith) in omega arith

-- no edge of a command from node a leaves another node than a and those that it makes
leaving_outside : (κ : Construction) (o : Around) (c : Command) (a b n x : ℕ) → a ≢ x → Outside x n (part κ o c a b n).fresh → leaving x (part κ o c a b n).edges ≡ []
unfolding part leaving
leaving_outside κ o (skip k) a b n x h i = leaving_other x a b (perform (skip k)) [] h
leaving_outside κ o (assign k y e) a b n x h i = leaving_other x a b (perform (assign k y e)) [] h
leaving_outside κ o (store k y j e) a b n x h i = leaving_other x a b (perform (store k y j e)) [] h
leaving_outside κ o (sequence k c d) a b n x h i =
    let first = fresh_grows κ o c a n (n + 1) in
    let second = fresh_grows κ o d n b (part κ o c a n (n + 1)).fresh in
    leaving_append x (part κ o c a n (n + 1)).edges (part κ o d n b (part κ o c a n (n + 1)).fresh).edges
    ∙ rw (leaving_outside κ o c a n (n + 1) x h (fewer i (omega arith) second))
    (leaving_outside κ o d n b (part κ o c a n (n + 1)).fresh x (not_first i (omega arith)) (fewer i (omega arith) (omega arith)))
leaving_outside κ o (conditional k c) a b n x h i = leaving_outside κ (past o []) c a b n x h i
leaving_outside κ o (iteration k c) a b n x h i =
    leaving_append x (part κ (within a b) c a a n).edges (edge a (leave c) b ∷ []) ∙ rw (leaving_outside κ (within a b) c a a n x h i) (leaving_other x a b (leave c) [] h)
leaving_outside κ o (guarded k g c) a b n x h i =
    let grows = fresh_grows κ o c n b (n + 1) in
    leaving_other x a n (guard_action κ o.earlier k g) (part κ o c n b (n + 1)).edges h ∙ leaving_outside κ o c n b (n + 1) x (not_first i (omega arith)) (fewer i (omega arith) (omega arith))
leaving_outside κ o (choice k c d) a b n x h i =
    let first = fresh_grows κ o c a b n in
    let second = fresh_grows κ (past o (o.earlier ++ guards c)) d a b (part κ o c a b n).fresh in
    leaving_append x (part κ o c a b n).edges (part κ (past o (o.earlier ++ guards c)) d a b (part κ o c a b n).fresh).edges
    ∙ rw (leaving_outside κ o c a b n x h (fewer i (omega arith) second))
    (leaving_outside κ (past o (o.earlier ++ guards c)) d a b (part κ o c a b n).fresh x h (fewer i first (omega arith)))
leaving_outside κ o (jump k j) a b n x h i = leaving_other x a (landing o j) (perform (jump k j)) [] h

-- the guards' actions of a construction
unfoldable guard_of : Construction → Action → Bool
guard_of Nondeterministic = is_test
guard_of Deterministic = is_select

guard_of_lem : (κ : Construction) (x : Action) → guard_of κ x ≡ true → is_guard x ≡ true
unfolding guard_of is_guard
guard_of_lem Nondeterministic x h = rw h
guard_of_lem Deterministic x h = rw (h, or-true (is_test x))

all_guards : (κ : Construction) (xs : List Action) → all_of (guard_of κ) xs ≡ true → all_of is_guard xs ≡ true
unfolding all_of
all_guards κ [] h = refl
all_guards κ (x ∷ xs) h = let t = two (guard_of κ x) (all_of (guard_of κ) xs) h in both (guard_of_lem κ x t.0) (all_guards κ xs t.1)

-- the actions xs before a guarded command's edges are guards', and these are the earlier guards
record Guards (κ : Construction) (xs : List Action) (earlier : List Boolean) : Type 0 where
  guards : all_of (guard_of κ) xs ≡ true
  own : own_guards xs ≡ earlier

no_guards : (κ : Construction) → Guards κ [] []
unfolding all_of own_guards flat_map
no_guards κ = record { guards = refl; own = refl }

more_guards : {κ : Construction} {xs ys : List Action} {gs hs : List Boolean} → Guards κ xs gs → Guards κ ys hs → Guards κ (xs ++ ys) (gs ++ hs)
more_guards {xs = xs} {ys} a b = record { guards = all_append _ xs ys a.guards b.guards; own = own_append xs ys ∙ rw (a.own, b.own) }

one_guard : (κ : Construction) (earlier : List Boolean) (k : ℕ) (b : Boolean) → Guards κ (guard_action κ earlier k b ∷ []) (b ∷ [])
unfolding all_of own_guards own_guard guard_of guard_action is_test is_select flat_map
one_guard Nondeterministic earlier k b = record { guards = refl; own = refl }
one_guard Deterministic earlier k b = record { guards = refl; own = refl }

-- the edges of a guarded command that leave its node are its guards'
leaving_guards : {s : List ℕ} {k : ℕ} {g : Bool} {c : Command} → Made s g k c → g ≡ true → (κ : Construction) (o : Around) (a b n : ℕ) → a < n → Guards κ (leaving a (part κ o c a b n).edges) (guards c)
unfolding part guards
leaving_guards (make_skip e) t κ o a b n h = absurd (false≢true t)
leaving_guards (make_assign e x v) t κ o a b n h = absurd (false≢true t)
leaving_guards (make_store e x i v) t κ o a b n h = absurd (false≢true t)
leaving_guards (make_sequence e l m c d) t κ o a b n h = absurd (false≢true t)
leaving_guards (make_conditional e l c) t κ o a b n h = absurd (false≢true t)
leaving_guards (make_iteration e l c) t κ o a b n h = absurd (false≢true t)
leaving_guards (make_guarded {c = x} e i l c) t κ o a b n h =
    rw (leaving_here a n (guard_action κ o.earlier _ _) (part κ o x n b (n + 1)).edges, leaving_outside κ o x n b (n + 1) a (λ q. omega arith) (λ q. absurd (omega arith)))
    (one_guard κ o.earlier _ _)
leaving_guards (make_choice {c = x} {d = y} e l m c d) t κ o a b n h =
    rw (leaving_append a (part κ o x a b n).edges (part κ (past o (o.earlier ++ guards x)) y a b (part κ o x a b n).fresh).edges)
    (more_guards (leaving_guards c refl κ o a b n h) (leaving_guards d refl κ (past o (o.earlier ++ guards x)) a b (part κ o x a b n).fresh (omega (arith, fresh_grows κ o x a b n))))
leaving_guards (make_jump e) t κ o a b n h = absurd (false≢true t)

-- ---- each edge follows those before it

-- each of some edges follows those of the list that leave its source, those drawn before all of them included
data Followed : List Edge → List Edge → Type 0 where
  none : {pre : List Edge} → Followed pre []
  more : {pre : List Edge} {e : Edge} {es : List Edge} → Follows (leaving e.source pre) e.action → Followed (pre ++ (e ∷ [])) es → Followed pre (e ∷ es)

followed_append : {pre es fs : List Edge} → Followed pre es → Followed (pre ++ es) fs → Followed pre (es ++ fs)
followed_append {pre} {fs = fs} none k = subst (λ (xs : List Edge). Followed xs fs) (append-nil pre) k
followed_append {pre} {fs = fs} (more {e = e} {es = es} f h) k = more f (followed_append h (subst (λ (xs : List Edge). Followed xs fs) (sym (append_assoc pre (e ∷ []) es)) k))

followed_at : {pre es : List Edge} → Followed pre es → (k : ℕ) (d : Edge) → k < length es → Follows (leaving (get_or es k d).source (pre ++ take k es)) (get_or es k d).action
followed_at none k d h = absurd (not-suc-le-zero h)
followed_at {pre} (more {e = e} f h) zero d l = subst (λ (xs : List Edge). Follows (leaving e.source xs) e.action) (sym (append-nil pre)) f
followed_at {pre} (more {e = e} {es = es} f h) (suc k) d l =
    subst (λ (xs : List Edge). Follows (leaving (get_or es k d).source xs) (get_or es k d).action) (append_assoc pre (e ∷ []) (take k es)) (followed_at h k d (le_of_suc-le-suc l))

-- no edge drawn before leaves a node from n on
abbrev Clear : List Edge → ℕ → Type 0
Clear pre n = (x : ℕ) → n ≤ x → leaving x pre ≡ []

-- where it is drawn: before a command no edge leaves its node; before a guarded command those of the earlier guards do
abbrev Begins : Bool → Construction → List Edge → Around → ℕ → Type 0
Begins false κ pre o a = leaving a pre ≡ []
Begins true κ pre o a = Guards κ (leaving a pre) o.earlier

-- after a part, no edge leaves a node that is still fresh
clear_after : (κ : Construction) (o : Around) (c : Command) (a b n m : ℕ) (pre : List Edge) → a < n → n ≤ m → Clear pre n → Clear (pre ++ (part κ o c a b m).edges) (part κ o c a b m).fresh
clear_after κ o c a b n m pre h l clear x i =
    let grows = fresh_grows κ o c a b m in
    leaving_append x pre (part κ o c a b m).edges
    ∙ rw (clear x (omega arith)) (leaving_outside κ o c a b m x (λ e. omega arith) (λ j. i))

-- nor one of a node that was taken before it
still_clear : (κ : Construction) (o : Around) (c : Command) (a b n : ℕ) (pre : List Edge) → a < n → Clear pre n → leaving n (pre ++ (part κ o c a b (n + 1)).edges) ≡ []
still_clear κ o c a b n pre h clear =
    leaving_append n pre (part κ o c a b (n + 1)).edges
    ∙ rw (clear n (omega arith)) (leaving_outside κ o c a b (n + 1) n (λ e. omega arith) (λ j. absurd (omega arith)))

-- after one edge
clear_one : (a b n : ℕ) (x : Action) (pre : List Edge) → a < n → Clear pre n → (y : ℕ) → n ≤ y → leaving y (pre ++ (edge a x b ∷ [])) ≡ []
unfolding leaving
clear_one a b n x pre h clear y i = leaving_append y pre (edge a x b ∷ []) ∙ rw (clear y i) (leaving_other y a b x [] (λ e. omega arith))

-- a guard's edge, and an exit, after guards'
guard_follows : (κ : Construction) {xs : List Action} {earlier : List Boolean} (k : ℕ) (b : Boolean) → Guards κ xs earlier → Follows xs (guard_action κ earlier k b)
unfolding guard_action guard_of
guard_follows Nondeterministic k b g = g.guards
guard_follows Deterministic k b g = (g.guards, g.own)

exit_follows : (κ : Construction) {xs : List Action} (c : Command) → Guards κ xs (guards c) → Follows xs (leave c)
exit_follows κ {xs} c g = (all_guards κ xs g.guards, g.own)

part_followed : {s : List ℕ} {g : Bool} {k : ℕ} {c : Command} → Made s g k c → (κ : Construction) (o : Around) (a b n : ℕ) (pre : List Edge) → a < n → Clear pre n → Begins g κ pre o a
    → Followed pre (part κ o c a b n).edges
unfolding part
part_followed (make_skip e) κ o a b n pre h clear begins = more begins none
part_followed (make_assign e x v) κ o a b n pre h clear begins = more begins none
part_followed (make_store e x i v) κ o a b n pre h clear begins = more begins none
part_followed (make_sequence {c = x} e l m c d) κ o a b n pre h clear begins =
    let grows = fresh_grows κ o x a n (n + 1) in
    followed_append
    (part_followed c κ o a n (n + 1) pre (omega arith) (λ y i. clear y (omega arith)) begins)
    (part_followed d κ o n b (part κ o x a n (n + 1)).fresh (pre ++ (part κ o x a n (n + 1)).edges) (omega arith) (clear_after κ o x a n n (n + 1) pre h (omega arith) clear) (still_clear κ o x a n n pre h clear))
part_followed (make_conditional e l c) κ o a b n pre h clear begins = part_followed c κ (past o []) a b n pre h clear (rw begins (no_guards κ))
part_followed (make_iteration {c = x} e l c) κ o a b n pre h clear begins =
    followed_append
    (part_followed c κ (within a b) a a n pre h clear (rw begins (no_guards κ)))
    (more (rw (leaving_append a pre (part κ (within a b) x a a n).edges, begins) (exit_follows κ x (leaving_guards c refl κ (within a b) a a n h))) none)
part_followed (make_guarded {n = k} {c = x} e i l c) κ o a b n pre h clear begins =
    more (guard_follows κ k _ begins)
    (part_followed c κ o n b (n + 1) (pre ++ (edge a (guard_action κ o.earlier k _) n ∷ [])) (omega arith)
    (λ y i. clear_one a n (n + 1) _ pre (omega arith) (λ z j. clear z (omega arith)) y i) (clear_one a n n _ pre h clear n (omega arith)))
part_followed (make_choice {c = x} e l m c d) κ o a b n pre h clear begins =
    let grows = fresh_grows κ o x a b n in
    followed_append
    (part_followed c κ o a b n pre h clear begins)
    (part_followed d κ (past o (o.earlier ++ guards x)) a b (part κ o x a b n).fresh (pre ++ (part κ o x a b n).edges) (omega arith) (clear_after κ o x a b n n pre h (omega arith) clear)
    (rw (leaving_append a pre (part κ o x a b n).edges) (more_guards begins (leaving_guards c refl κ o a b n h))))
part_followed (make_jump e) κ o a b n pre h clear begins = more begins none

-- of the graph of a well-formed file
pub edge_follows : (s : List ℕ) → validity s ≡ Ok tt → (κ : Construction) (e : ℕ) → e < edge_count κ s → Follows (before (graph κ s) e) (edge_at (graph κ s) e).action
unfolding edge_count edges graph edge_at before leaving
edge_follows s fit κ e h = followed_at (part_followed (script_made s fit) κ (within 0 1) 0 1 2 [] (omega arith) (λ x i. refl) refl) e _ h
