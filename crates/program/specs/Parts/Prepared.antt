-- A prepared program: what the crates above work on in place of a file. Two lists of numbers: `code` has the decoded expressions and the names,
-- `graph` the decoded commands, the edges as numbers, the links of each node's edges and the counts. Document 01 has no word for it; `Prepared` says
-- once what these are of a graph g whose names have the sizes ns.
use Rattle.program.specs.Asking.{Validity}
use Rattle.std.specs.Prelude.{◌≡◌, ℕ, zero, suc, ◌+◌, ◌*◌, ◌-◌, ◌≤◌, ◌<◌, Bool, true, false, cond, List, [], ◌∷◌, ◌++◌, T, eqb, ltb, ℤ, pos, length, get_or, Ok}
use Rattle.program.specs.File.{sizes, cell_count, first_cell}
use Rattle.program.specs.Graph as drawn
use Rattle.program.specs.Graph.{Graph, edge_at, done, selected}
use Rattle.program.specs.Kind.{arith_kind}
use Rattle.program.specs.Meaning.{Meaning, nothing, assigns, stores, condition, meaning}
use Rattle.program.specs.Parts.Node.{command_form}
use Rattle.program.specs.Parts.Preceding.{before, is_select, Follows, plain}
use Rattle.program.specs.Questions.{validity}
use Rattle.program.specs.Parts.Sorted.{meaning_named}
use Rattle.program.specs.Syntax.{Boolean as BooleanTree, truth}
use Rattle.program.specs.Tree.{Entries, arith_at, boolean_at, command_at}
use Rattle.program.specs.declared.ActionNode.{ActionNode}
use Rattle.program.specs.declared.ActionNode.TheVariants.{Nothing, Assign, Store, Holds, Exit, Guard}
use Rattle.program.specs.declared.ArithNode.{ArithNode}
use Rattle.program.specs.declared.ArithNode.TheVariants.{Number, Variable, Element, Operator}
use Rattle.program.specs.declared.CommandNode.{CommandNode}
use Rattle.program.specs.declared.CommandNode.TheVariants.{Skip, Assign as AssignNode, Store as StoreNode, Sequence, Conditional, Iteration, Guarded, Choice, Jump}
use Rattle.program.specs.declared.Construction.{Construction}
use Rattle.program.specs.declared.Entry.{Entry}
use Rattle.program.specs.declared.Table.TheVariants.{Arithmetic, Boolean, Commands}

-- the most entries of each table, names, cells, nodes and edges. What stands for an edge where there is none is the number of the most edges
abbrev pub expressions_most : ℕ
expressions_most = 512

abbrev pub conditions_most : ℕ
conditions_most = 256

abbrev pub commands_most : ℕ
commands_most = 256

abbrev pub names_most : ℕ
names_most = 32

abbrev pub cells_most : ℕ
cells_most = 512

abbrev pub nodes_most : ℕ
nodes_most = 129

abbrev pub edges_most : ℕ
edges_most = 255

abbrev pub none : ℕ
none = edges_most

-- the cell from which on a program's numbers stand behind a memory
abbrev pub number_place : ℕ
number_place = cells_most

-- what stands for a cell where there is none: it is past the last number's
abbrev pub no_cell : ℕ
no_cell = 1024

-- the places of the code's sections: four numbers for each of 512 arithmetic and 256 boolean entries, 32 sizes, 33 first cells (the last is the number of all
-- cells), the counts of names and of arithmetic entries, and room for the set table, which a crate above puts there
abbrev pub boolean_place : ℕ
boolean_place = 2048

abbrev pub size_place : ℕ
size_place = 3072

abbrev pub cell_place : ℕ
cell_place = 3104

abbrev pub name_count_place : ℕ
name_count_place = 3137

abbrev pub arithmetic_count_place : ℕ
arithmetic_count_place = 3138

abbrev pub table_place : ℕ
table_place = 3139

abbrev pub code_length : ℕ
code_length = 3459

-- those of the graph's: four numbers for each of 256 commands and of 255 edges, the lowest edge out of each of 129 nodes, the next edge after each of 255, and
-- the counts of nodes and edges
abbrev pub edge_place : ℕ
edge_place = 1024

abbrev pub first_place : ℕ
first_place = 2044

abbrev pub next_place : ℕ
next_place = 2173

abbrev pub node_count_place : ℕ
node_count_place = 2428

abbrev pub edge_count_place : ℕ
edge_count_place = 2429

abbrev pub graph_length : ℕ
graph_length = 2430

-- an entry of zeros
abbrev pub no_entry : Entry
no_entry = record { kind = 0; p = 0; q = 0; r = 0 }

-- the entry whose four numbers stand at a place
unfoldable pub numbers_at : List ℕ → ℕ → Entry
numbers_at xs at = record { kind = get_or xs at 0; p = get_or xs (at + 1) 0; q = get_or xs (at + 2) 0; r = get_or xs (at + 3) 0 }

-- the entries of the three tables; past what a table can have, an entry of zeros
unfoldable pub entries_in : List ℕ → List ℕ → Entries
entries_in code graph Arithmetic n = cond (ltb n expressions_most) (numbers_at code (4 * n)) no_entry
entries_in code graph Boolean n = cond (ltb n conditions_most) (numbers_at code (boolean_place + 4 * n)) no_entry
entries_in code graph Commands n = cond (ltb n commands_most) (numbers_at graph (4 * n)) no_entry

-- the size and the first cell of one of 32 names
unfoldable pub size_in : List ℕ → ℕ → ℕ
size_in code x = cond (ltb x names_most) (get_or code (size_place + x) 0) 0

unfoldable pub cell_in : List ℕ → ℕ → ℕ
cell_in code x = cond (ltb x names_most) (get_or code (cell_place + x) 0) 0

-- what one of 512 arithmetic entries is
unfoldable pub arith_in : List ℕ → ℕ → ArithNode
arith_in code n = arith_kind (numbers_at code (4 * n))

-- the value of a number; 0, where it is none
unfoldable pub number_of : ArithNode → ℤ
number_of (Number z) = z
number_of (Variable x) = pos 0
number_of (Element x i) = pos 0
number_of (Operator o p q) = pos 0

unfoldable pub number_in : List ℕ → ℕ → ℤ
number_in code n = cond (ltb n expressions_most) (number_of (arith_in code n)) (pos 0)

-- the cell of entry n in a memory with the program's numbers behind it, from cell 512 on, where the first cells of names are these: a variable and a number have
-- one, and what is no leaf has none
unfoldable pub leaf_cell : (ℕ → ℕ) → ℕ → ArithNode → ℕ
leaf_cell cell n (Number z) = number_place + n
leaf_cell cell n (Variable x) = cell x
leaf_cell cell n (Element x i) = no_cell
leaf_cell cell n (Operator o p q) = no_cell

-- "A reference inside one table goes to a lower entry": those of what entry n is
abbrev pub Lower : ℕ → ArithNode → Type 0
Lower n (Number z) = Unit
Lower n (Variable x) = Unit
Lower n (Element x i) = i < n
Lower n (Operator o p q) = (p < n) × (q < n)

-- where an edge comes from and goes to, and its action's kind and entry; past the last of 255, zeros
unfoldable pub edge_in : List ℕ → ℕ → ℕ → ℕ
edge_in graph e k = cond (ltb e edges_most) (get_or graph (edge_place + 4 * e + k) 0) 0

unfoldable pub source_in : List ℕ → ℕ → ℕ
source_in graph e = edge_in graph e 0

unfoldable pub target_in : List ℕ → ℕ → ℕ
target_in graph e = edge_in graph e 1

-- what a command does on an edge
unfoldable pub performed : CommandNode → ActionNode
performed Skip = Nothing
performed (AssignNode x a) = Assign x a
performed (StoreNode x i a) = Store x i a
performed (Sequence p q) = Nothing
performed (Conditional p) = Nothing
performed (Iteration p) = Nothing
performed (Guarded g p) = Nothing
performed (Choice p q) = Nothing
performed (Jump j) = Nothing

-- the guard of a guarded command on an edge
unfoldable pub guard_form : CommandNode → ActionNode
guard_form Skip = Nothing
guard_form (AssignNode x a) = Nothing
guard_form (StoreNode x i a) = Nothing
guard_form (Sequence p q) = Nothing
guard_form (Conditional p) = Nothing
guard_form (Iteration p) = Nothing
guard_form (Guarded g p) = Guard g
guard_form (Choice p q) = Nothing
guard_form (Jump j) = Nothing

-- the action of a kind and an entry, decoded: "Action kind 1 is the command entry itself, 2 a boolean entry, 3 the exit of the do whose operand is that command
-- entry."; order 8: "action kind 4 with the guarded entry"
unfoldable pub action_form : Entries → ℕ → ℕ → ActionNode
action_form es kind n =
    get_or
    (Nothing ∷ performed (command_form es commands_most n) ∷ Holds n ∷ Exit n ∷ guard_form (command_form es commands_most n) ∷ [])
    kind
    Nothing

-- the action of edge e, decoded. It depends on the graph's commands alone
unfoldable pub action_in : List ℕ → ℕ → ActionNode
action_in graph e = action_form (entries_in [] graph) (edge_in graph e 2) (edge_in graph e 3)

-- what a decoded action means, a guard's without the earlier ones
unfoldable pub decoded_meaning : Entries → ActionNode → Meaning
decoded_meaning es Nothing = nothing
decoded_meaning es (Assign x a) = assigns x (arith_at es a)
decoded_meaning es (Store x i a) = stores x (arith_at es i) (arith_at es a)
decoded_meaning es (Holds n) = condition (boolean_at es n)
decoded_meaning es (Exit n) = condition (done (command_at es n))
decoded_meaning es (Guard n) = condition (boolean_at es n)

-- whether it is a guard's of the deterministic graph
unfoldable pub is_guard_node : ActionNode → Bool
is_guard_node Nothing = false
is_guard_node (Assign x a) = false
is_guard_node (Store x i a) = false
is_guard_node (Holds n) = false
is_guard_node (Exit n) = false
is_guard_node (Guard n) = true

-- its own condition, where it is; of any other action, true
unfoldable pub own_in : Entries → ActionNode → BooleanTree
own_in es Nothing = truth 0
own_in es (Assign x a) = truth 0
own_in es (Store x i a) = truth 0
own_in es (Holds n) = truth 0
own_in es (Exit n) = truth 0
own_in es (Guard n) = boolean_at es n

-- those of the first k edges that leave a node, in order
unfoldable pub guards_in : Entries → List ℕ → ℕ → ℕ → List BooleanTree
guards_in es graph node zero = []
guards_in es graph node (suc k) = guards_in es graph node k ++ cond (eqb (source_in graph k) node) (own_in es (action_in graph k) ∷ []) []

-- what a decoded action means after these guards
unfoldable pub meaning_after : Entries → List BooleanTree → ActionNode → Meaning
meaning_after es earlier Nothing = nothing
meaning_after es earlier (Assign x a) = assigns x (arith_at es a)
meaning_after es earlier (Store x i a) = stores x (arith_at es i) (arith_at es a)
meaning_after es earlier (Holds n) = condition (boolean_at es n)
meaning_after es earlier (Exit n) = condition (done (command_at es n))
meaning_after es earlier (Guard n) = condition (selected earlier (boolean_at es n))

-- what edge e means
unfoldable pub edge_meaning : Entries → List ℕ → ℕ → Meaning
edge_meaning es graph e = meaning_after es (guards_in es graph (source_in graph e) e) (action_in graph e)

-- the lowest edge out of one of 129 nodes, and the next edge after one of 255 out of the same node; where there is none, 255
unfoldable pub first_in : List ℕ → ℕ → ℕ
first_in graph node = cond (ltb node nodes_most) (get_or graph (first_place + node) 0) none

unfoldable pub next_in : List ℕ → ℕ → ℕ
next_in graph e = cond (ltb e edges_most) (get_or graph (next_place + e) 0) none

-- of n edges from number i on, the lowest that leaves a node; where none does, 255, which is past every edge
unfoldable pub lowest_from : ℕ → (ℕ → ℕ) → ℕ → ℕ → ℕ
lowest_from zero source i node = none
lowest_from (suc n) source i node = cond (eqb (source i) node) i (lowest_from n source (suc i) node)

-- code whose arithmetic entries, at most 512, refer to lower ones. An evaluator that follows references ends by this, and reads without a test
pub record Ordered (code : List ℕ) : Type 0 where
  pub few : get_or code arithmetic_count_place 0 ≤ expressions_most
  pub lower : (n : ℕ) → n < get_or code arithmetic_count_place 0 → Lower n (arith_in code n)

-- code of a program whose names have the sizes ns, at most 32 of at most 512 cells. The fourth number of an arithmetic entry is its cell; past the last entry
-- there are zeros
pub record Coded (ns code : List ℕ) : Type 0 where
  pub long : length code ≡ code_length
  pub some : 0 < length ns
  pub few : length ns ≤ names_most
  pub most : cell_count ns ≤ cells_most
  pub count : get_or code name_count_place 0 ≡ length ns
  pub size : (x : ℕ) → x < length ns → size_in code x ≡ get_or ns x 0
  pub cell : (x : ℕ) → x < length ns → cell_in code x ≡ first_cell ns x
  pub cells : get_or code (cell_place + names_most) 0 ≡ cell_count ns
  pub ordered : Ordered code
  pub leaf : (n : ℕ) → n < get_or code arithmetic_count_place 0 → get_or code (4 * n + 3) 0 ≡ leaf_cell (first_cell ns) n (arith_in code n)
  pub past : (n : ℕ) → get_or code arithmetic_count_place 0 ≤ n → n < expressions_most → numbers_at code (4 * n) ≡ no_entry

-- edge e of a graph: its nodes, which are in the graph; its action, whose names are there, without its earlier guards; and what precedes it at its node, by which
-- the earlier guards are those of the lower edges
pub record PreparedEdge (ns : List ℕ) (g : Graph) (code graph : List ℕ) (e : ℕ) : Type 0 where
  pub source : source_in graph e ≡ (edge_at g e).source
  pub target : target_in graph e ≡ (edge_at g e).target
  pub from : (edge_at g e).source < g.nodes
  pub to : (edge_at g e).target < g.nodes
  pub action : decoded_meaning (entries_in code graph) (action_in graph e) ≡ meaning (plain (edge_at g e).action)
  pub named : T (meaning_named ns (meaning (edge_at g e).action))
  pub guard : is_guard_node (action_in graph e) ≡ is_select (edge_at g e).action
  pub follows : Follows (before g e) (edge_at g e).action

-- a graph of at most 129 nodes and 255 edges, whose names have the sizes ns, prepared
pub record Prepared (ns : List ℕ) (g : Graph) (code graph : List ℕ) : Type 0 where
  pub coded : Coded ns code
  pub few_nodes : g.nodes ≤ nodes_most
  pub few_edges : length g.edges ≤ edges_most
  pub nodes : get_or graph node_count_place 0 ≡ g.nodes
  pub edges : get_or graph edge_count_place 0 ≡ length g.edges
  pub edge : (e : ℕ) → e < length g.edges → PreparedEdge ns g code graph e

-- links that can be followed: each node's lowest edge, and after each edge the next one out of the same node
pub record Linked (graph : List ℕ) : Type 0 where
  pub few : get_or graph edge_count_place 0 ≤ edges_most
  pub lowest : (node : ℕ) → node < nodes_most → first_in graph node ≡ lowest_from (get_or graph edge_count_place 0) (source_in graph) 0 node
  pub later : (e : ℕ) → e < get_or graph edge_count_place 0 → next_in graph e ≡ lowest_from (get_or graph edge_count_place 0 - suc e) (source_in graph) (suc e) (source_in graph e)

-- where following the links of a node has come to: edge e leaves the node, if there is one, and something holds of each edge out of the node before it
pub record Following (graph : List ℕ) (node : ℕ) (P : ℕ → Type 0) (e : ℕ) : Type 0 where
  pub here : e < get_or graph edge_count_place 0 → source_in graph e ≡ node
  pub before : (k : ℕ) → k < e → k < get_or graph edge_count_place 0 → eqb (source_in graph k) node ≡ true → P k

-- what preparing a file by a construction replies, the answer to its questions, and leaves in the two arrays: where it is fit, its code and graph
pub record PreparedFor (κ : Construction) (s : List ℕ) (r : Validity) (code graph : List ℕ) : Type 0 where
  pub asked : r ≡ validity s
  pub prepared : r ≡ Ok tt → Prepared (sizes s) (drawn.graph κ s) code graph

-- the same with the links
pub record PreparedLinked (κ : Construction) (s : List ℕ) (r : Validity) (code graph : List ℕ) : Type 0 where
  pub prepared : PreparedFor κ s r code graph
  pub linked : r ≡ Ok tt → Linked graph
