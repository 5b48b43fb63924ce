-- The program graph (document 01, "The graph"; document 02, orders 7 and 8; book, Definitions 2.7, 2.8, 2.19, 2.26 and 2.27, and its deterministic variant).
use Rattle.std.specs.Prelude.{ℕ, ◌+◌, ◌/◌, ◌%◌, cond, eqb, length, get_or}
use mathlib.Core.List.{List, [], ◌∷◌, ◌++◌, flat_map}
use Rattle.program.specs.Syntax.{Boolean, truth, conjunction, negation, boolean_entry, Command, skip, assign, store, sequence, conditional, iteration, guarded, choice, jump, command_entry}
use Rattle.program.specs.Tree.{script}
use Rattle.program.specs.declared.Construction.{Construction}
use Rattle.program.specs.declared.Construction.TheVariants.{Nondeterministic, Deterministic}
use Rattle.program.specs.declared.Jump.{Jump}
use Rattle.program.specs.declared.Jump.TheVariants.{Break, Continue}

-- an action performs skip, an assignment, a store or a jump, tests a boolean, leaves the do whose operand is a guarded command, or selects a guarded command of
-- an if or do: its entry, the earlier guards there, and its own
pub data Action : Type 0 where
  perform : Command → Action
  test : Boolean → Action
  leave : Command → Action
  select : ℕ → List Boolean → Boolean → Action

-- an edge (document 01: arrow), from a node to a node
pub record Edge : Type 0 where
  pub source : ℕ
  pub target : ℕ
  pub action : Action

abbrev pub edge : ℕ → Action → ℕ → Edge
edge a x b = record { source = a; target = b; action = x }

-- edges in order, and the next fresh node
pub record Part : Type 0 where
  pub edges : List Edge
  pub fresh : ℕ

-- a graph: its edges, and the number of its nodes
pub record Graph : Type 0 where
  pub edges : List Edge
  pub nodes : ℕ

-- the guards of a guarded command, in text order; a command has none
unfoldable pub guards : Command → List Boolean
guards (guarded k b c) = b ∷ []
guards (choice k c d) = guards c ++ guards d
guards (skip k) = []
guards (assign k x e) = []
guards (store k x i e) = []
guards (sequence k c d) = []
guards (conditional k c) = []
guards (iteration k c) = []
guards (jump k j) = []

-- the action of a guard's edge, by the construction, the earlier guards and the guarded entry. Order 8: "action kind 4 with the guarded entry marks every guard's
-- arrow, the first of a construct too"
unfoldable pub guard_action : Construction → List Boolean → ℕ → Boolean → Action
guard_action Nondeterministic earlier k b = test b
guard_action Deterministic earlier k b = select k earlier b

-- what stands around a command: the first and the last node of "the innermost do around it", and before a guarded command "all earlier guards in the same if or
-- do"
pub record Around : Type 0 where
  pub first : ℕ
  pub last : ℕ
  pub earlier : List Boolean

-- inside a do from node a to node b, before its first guard
abbrev pub within : ℕ → ℕ → Around
within a b = record { first = a; last = b; earlier = [] }

-- after so many guards of an if or do
abbrev pub past : Around → List Boolean → Around
past o earlier = record { first = o.first; last = o.last; earlier = earlier }

-- "break to the loop's last node and continue to its first"
unfoldable pub landing : Around → Jump → ℕ
landing o Break = o.last
landing o Continue = o.first

-- the edges of a command from node a to node b, inside o, where n is the next fresh node: "fresh nodes count from 2 as they are made". "Inside a do each" of
-- break and continue "gives one arrow that acts as skip". An if or do begins with no earlier guard, and the second part of a choice has those of the first before
-- it; "nodes, arrow order and numbers" are those of every construction
unfoldable pub part : Construction → Around → Command → ℕ → ℕ → ℕ → Part
part κ o (skip k) a b n = record { edges = edge a (perform (skip k)) b ∷ []; fresh = n }
part κ o (assign k x e) a b n = record { edges = edge a (perform (assign k x e)) b ∷ []; fresh = n }
part κ o (store k x i e) a b n = record { edges = edge a (perform (store k x i e)) b ∷ []; fresh = n }
part κ o (sequence k c d) a b n =
    let first = part κ o c a n (n + 1) in
    let second = part κ o d n b first.fresh in
    record { edges = first.edges ++ second.edges; fresh = second.fresh }
part κ o (conditional k c) a b n = part κ (past o []) c a b n
part κ o (iteration k c) a b n =
    let body = part κ (within a b) c a a n in
    record { edges = body.edges ++ (edge a (leave c) b ∷ []); fresh = body.fresh }
part κ o (guarded k g c) a b n =
    let body = part κ o c n b (n + 1) in
    record { edges = edge a (guard_action κ o.earlier k g) n ∷ body.edges; fresh = body.fresh }
part κ o (choice k c d) a b n =
    let first = part κ o c a b n in
    let second = part κ (past o (o.earlier ++ guards c)) d a b first.fresh in
    record { edges = first.edges ++ second.edges; fresh = second.fresh }
part κ o (jump k j) a b n = record { edges = edge a (perform (jump k j)) (landing o j) ∷ []; fresh = n }

-- edge number e of a graph; past the last, a skip at node 0
unfoldable pub edge_at : Graph → ℕ → Edge
edge_at g e = get_or g.edges e (edge 0 (perform (skip 0)) 0)

-- "The exit action is ¬b of every guard of the loop, joined by ∧ left to right." (book: done)
unfoldable pub done : Command → Boolean
done (guarded k g c) = negation k g
done (choice k c d) = conjunction k (done c) (done d)
done (skip k) = truth k
done (assign k x e) = truth k
done (store k x i e) = truth k
done (sequence k c d) = truth k
done (conditional k c) = truth k
done (iteration k c) = truth k
done (jump k j) = truth k

-- order 8: "that guard and the falsehood of all earlier guards in the same if or do, all evaluated in text order, its own last, undefined if any of these is". These
-- ∧ and ¬ stand in no table, and nothing looks at their number
unfoldable pub selected : List Boolean → Boolean → Boolean
selected [] b = b
selected (g ∷ earlier) b = conjunction 0 (negation 0 g) (selected earlier b)

-- "Node 0 is the start, node 1 the end": the graph of a program file. Its nodes are those below the next fresh one. Outside every do a jump would go to the
-- end or to the start; question 20 refuses it
unfoldable pub graph : Construction → List ℕ → Graph
graph κ s = let whole = part κ (within 0 1) (script s) 0 1 2 in record { edges = whole.edges; nodes = whole.fresh }

-- the construction where the caller names none, and the one that a number names in C: 1 document 01's, 2 the deterministic one; any other names none
unfoldable pub unnamed : Construction
unnamed = Nondeterministic

unfoldable pub named : ℕ → Construction
named n = cond (eqb n 1) Nondeterministic (cond (eqb n 2) Deterministic unnamed)

unfoldable pub edges : Construction → List ℕ → List Edge
edges κ s = (graph κ s).edges

unfoldable pub edge_count : Construction → List ℕ → ℕ
edge_count κ s = length (edges κ s)

unfoldable pub node_count : Construction → List ℕ → ℕ
node_count κ s = (graph κ s).nodes

-- "Action kind 1 is the command entry itself, 2 a boolean entry, 3 the exit of the do whose operand is that command entry."; order 8: "action kind 4 with the
-- guarded entry"
unfoldable pub action_kind : Action → ℕ
action_kind (perform c) = 1
action_kind (test b) = 2
action_kind (leave c) = 3
action_kind (select k earlier b) = 4

unfoldable pub action_entry : Action → ℕ
action_entry (perform c) = command_entry c
action_entry (test b) = boolean_entry b
action_entry (leave c) = command_entry c
action_entry (select k earlier b) = k

-- a number as two bytes, the high byte first
unfoldable pub word_bytes : ℕ → List ℕ
word_bytes n = n / 256 % 256 ∷ n % 256 ∷ []

-- "An arrow is written as seven bytes: from, to (two each), action kind, entry (two)."
unfoldable pub edge_bytes : Edge → List ℕ
edge_bytes e =
    word_bytes e.source
    ++ word_bytes e.target
    ++ (action_kind e.action ∷ [])
    ++ word_bytes (action_entry e.action)

unfoldable pub graph_bytes : Construction → List ℕ → List ℕ
graph_bytes κ s = flat_map edge_bytes (edges κ s)
