-- What precedes an edge among the edges out of its node, whatever the construction. No clause of an operation cites these: they are what a prepared graph is known
-- by, and what the laws of both constructions say.
use Rattle.std.specs.Prelude.{◌≡◌, Bool, true, false, cond, ◌||◌, ℕ, eqb, take}
use mathlib.Core.List.{List, [], ◌∷◌, flat_map, map}
use Rattle.signs.specs.Lists.{all_of}
use Rattle.program.specs.Graph.{Action, perform, test, leave, select, Edge, edge, Graph, guards, edge_at}
use Rattle.program.specs.Syntax.{Boolean}

-- the actions of those edges of a list that leave a node, in order
unfoldable pub leaving : ℕ → List Edge → List Action
leaving a [] = []
leaving a (e ∷ es) = cond (eqb e.source a) (e.action ∷ leaving a es) (leaving a es)

-- those of the edges before edge e that leave its source
unfoldable pub before : Graph → ℕ → List Action
before g e = leaving (edge_at g e).source (take e g.edges)

-- whether an action is a guard's, in document 01's construction, in the deterministic one, in either
unfoldable pub is_test : Action → Bool
is_test (perform c) = false
is_test (test b) = true
is_test (leave c) = false
is_test (select k earlier b) = false

unfoldable pub is_select : Action → Bool
is_select (perform c) = false
is_select (test b) = false
is_select (leave c) = false
is_select (select k earlier b) = true

unfoldable pub is_guard : Action → Bool
is_guard x = is_test x || is_select x

-- the guard of a guard's action, its own alone; any other action has none
unfoldable pub own_guard : Action → List Boolean
own_guard (perform c) = []
own_guard (test b) = b ∷ []
own_guard (leave c) = []
own_guard (select k earlier b) = b ∷ []

unfoldable pub own_guards : List Action → List Boolean
own_guards xs = flat_map own_guard xs

-- what the actions xs before an action at its node are: none where it performs a command; guards' of its own construction where it is a guard's, in the deterministic
-- one with exactly its earlier guards; where it leaves a do, guards' with exactly the guards of that do
abbrev pub Follows : List Action → Action → Type 0
Follows xs (perform c) = xs ≡ []
Follows xs (test b) = all_of is_test xs ≡ true
Follows xs (leave c) = (all_of is_guard xs ≡ true) × (own_guards xs ≡ guards c)
Follows xs (select k earlier b) = (all_of is_select xs ≡ true) × (own_guards xs ≡ earlier)

-- an action without its earlier guards: document 01's of the same guard
unfoldable pub plain : Action → Action
plain (perform c) = perform c
plain (test b) = test b
plain (leave c) = leave c
plain (select k earlier b) = test b

unfoldable pub plain_edge : Edge → Edge
plain_edge e = edge e.source (plain e.action) e.target

unfoldable pub plain_graph : Graph → Graph
plain_graph g = record { edges = map plain_edge g.edges; nodes = g.nodes }
