-- The theorems on programs and their graphs for the crates above, on one page. Their proofs are in the modules that they cite.
use Rattle.std.specs.Prelude.{Ok, None, Some, Result}
use mathlib.Core.Path.{◌≡◌, refl}
use mathlib.Core.Bool.{Bool, true, false, ◌&&◌, ◌||◌}
use mathlib.Core.List.{List, foldl}
use Prim.Native.Nat.{ℕ, suc, ◌+◌, ◌*◌, ◌/◌, ◌%◌, ◌≤◌, ◌<◌}
use lib.Dec.{T, eqb, leb}
use lib.IntN.{pos}
use lib.ListN.{length, get_or, take, drop}
use Rattle.signs.specs.Lists.{all_of, any_of}
use Rattle.program.specs.Asking.{ask, then_ask, is_refused, in_turn, ask_each, validity_numbers, Validity}
use Rattle.program.specs.Parts.DrawingParts.{edge_numbers}
use Rattle.program.specs.Drawing.{over, drawn_numbers, edge_read}
use Rattle.program.specs.File.{name_count, size_at, sizes, entry_count, entry, cells_of, cell_count, first_cell}
use Rattle.program.specs.FirstSuch.{first_of, first_such}
use Rattle.program.specs.Graph.{Graph, Action, Edge, within, part, guards, done, selected, edge_at, graph, edges, edge_count, node_count, graph_bytes}
use Rattle.program.specs.Jumps.{loose}
use Rattle.program.specs.Kind.{is_guarded}
use Rattle.program.specs.Parts.Guards.{all_false}
use Rattle.program.specs.Meaning.{condition, meaning}
use Rattle.program.specs.Parts.Node.{arith_form, arith_tree, boolean_form, boolean_tree, command_form, command_tree}
use Rattle.program.specs.Parts.Preceding.{leaving, before, is_test, Follows, plain, plain_graph}
use Rattle.program.specs.Parts.Prepared as Prepared
use Rattle.program.specs.Parts.Prepared.{table_place, code_length, edge_count_place, entries_in, first_in, next_in}
use Rattle.program.specs.Questions.{validity, input_validity, program_part, initial_part}
use Rattle.program.specs.Parts.Sorted.{arith_named, boolean_named, command_named, action_named, meaning_named, arith_points, boolean_points, is_guarded_tree, command_points, arith_entry}
use Rattle.program.specs.Syntax.{Boolean as BooleanTree, Command, number, truth, negation, boolean_entry, skip, command_entry}
use Rattle.program.specs.Tree.{Entries, arith_below, boolean_below, command_below, arith_node, arith_trees, arith_at, boolean_node, boolean_trees, boolean_at, command_node, command_trees, command_at, script}
use Rattle.program.specs.declared.ActionNode.{ActionNode}
use Rattle.program.specs.declared.ArithNode.{ArithNode}
use Rattle.program.specs.declared.BooleanNode.{BooleanNode}
use Rattle.program.specs.declared.CommandNode.{CommandNode}
use Rattle.program.specs.declared.Construction.{Construction}
use Rattle.program.specs.declared.Construction.TheVariants.{Nondeterministic, Deterministic}
use Rattle.program.specs.declared.Drawn.{Drawn}
use Rattle.program.specs.declared.Refusal.{Refusal}
use Rattle.program.specs.declared.Table.TheVariants.{Arithmetic, Boolean, Commands}
use Rattle.program.proofs.Actions
use Rattle.program.proofs.Actions.{Faithful}
use Rattle.program.proofs.Asking
use Rattle.program.proofs.Cells
use Rattle.program.proofs.Counts
use Rattle.program.proofs.EdgeReading
use Rattle.program.proofs.Expressions
use Rattle.program.proofs.FirstSuch
use Rattle.program.proofs.FirstSuch.{Foremost, FirstPassing}
use Rattle.program.proofs.Fit as Fitness
use Rattle.program.proofs.Fit.{Counts as Allowed}
use Rattle.program.proofs.Following
use Rattle.program.proofs.Forms
use Rattle.program.proofs.Forms.{ArithParts, BooleanParts, CommandParts}
use Rattle.program.proofs.Guards
use Rattle.program.proofs.Guards.{Joins}
use Rattle.program.proofs.Inputs
use Rattle.program.proofs.Loose
use Rattle.program.proofs.Made.{made}
use Rattle.program.proofs.Matching
use Rattle.program.proofs.Nodes
use Rattle.program.proofs.Nodes.{Inside}
use Rattle.program.proofs.Places
use Rattle.program.proofs.Places.{Placed}
use Rattle.program.proofs.Precedence
use Rattle.program.proofs.Preparing
use Rattle.program.proofs.Untouched
use Rattle.program.proofs.Readback
use Rattle.program.proofs.Readings
use Rattle.program.proofs.Selecting
use Rattle.program.proofs.Selecting.{Guarded}
use Rattle.program.proofs.Sorting
use Rattle.program.proofs.Tests.{passed}
use Rattle.program.proofs.Trees

-- ---- Names and their cells, for any list of sizes

-- a size has a cell at least
pub some_cell : (size : ℕ) → 1 ≤ cells_of size
some_cell = Cells.some_cell

-- before the first name there is no cell, before the next a name's own cells more, and past the last name all
pub first_cell_zero : (ns : List ℕ) → first_cell ns 0 ≡ 0
first_cell_zero = Cells.first_cell_zero

pub first_cell_next : (ns : List ℕ) (i : ℕ) → i < length ns → first_cell ns (suc i) ≡ first_cell ns i + cells_of (get_or ns i 0)
first_cell_next = Cells.first_cell_next

pub first_cell_end : (ns : List ℕ) (i : ℕ) → length ns ≤ i → first_cell ns i ≡ cell_count ns
first_cell_end = Cells.first_cell_end

-- the cells of a name lie before those of a later one, and inside the memory
pub cells_apart : (ns : List ℕ) (x y : ℕ) → x < y → y ≤ length ns → first_cell ns x + cells_of (get_or ns x 0) ≤ first_cell ns y
cells_apart = Cells.cells_apart

pub cells_inside : (ns : List ℕ) (x : ℕ) → x < length ns → first_cell ns x + cells_of (get_or ns x 0) ≤ cell_count ns
cells_inside = Cells.cells_inside

-- a file's sizes: as many as there are names, each at its name
pub sizes_length : (s : List ℕ) → length (sizes s) ≡ name_count s
sizes_length = Cells.sizes_length

pub size_at_lem : (s : List ℕ) (i : ℕ) → i < name_count s → get_or (sizes s) i 0 ≡ size_at s i
size_at_lem = Cells.size_at_lem

-- ---- Trees at entries, of every file and every other reading of entries

module _ (es : Entries) where
  -- the tree at entry n is its node over the trees of the entries below
  pub arith_at_lem : (n : ℕ) → arith_at es n ≡ arith_node (arith_trees es n) n (es Arithmetic n)
  arith_at_lem = Trees.arith_at_lem es

  pub boolean_at_lem : (n : ℕ) → boolean_at es n ≡ boolean_node es (boolean_trees es n) n (es Boolean n)
  boolean_at_lem = Trees.boolean_at_lem es

  pub command_at_lem : (n : ℕ) → command_at es n ≡ command_node es (command_trees es n) n (es Commands n)
  command_at_lem = Trees.command_at_lem es

  -- an unknown kind makes a leaf
  pub arith_unknown : (n : ℕ) → 8 ≤ (es Arithmetic n).kind → arith_at es n ≡ number n (pos 0)
  arith_unknown = Trees.arith_unknown es

  pub boolean_unknown : (n : ℕ) → 7 ≤ (es Boolean n).kind → boolean_at es n ≡ truth n
  boolean_unknown = Trees.boolean_unknown es

  pub command_unknown : (n : ℕ) → 10 ≤ (es Commands n).kind → command_at es n ≡ skip n
  command_unknown = Trees.command_unknown es

  -- a reference to an entry below leads to the tree at that entry, and any other to a leaf
  pub arith_below_lem : (n r : ℕ) → r < n → arith_below (arith_trees es n) r ≡ arith_at es r
  arith_below_lem = Trees.arith_below_lem es

  pub arith_past : (n r : ℕ) → n ≤ r → arith_below (arith_trees es n) r ≡ number r (pos 0)
  arith_past = Trees.arith_past es

  pub boolean_below_lem : (n r : ℕ) → r < n → boolean_below (boolean_trees es n) r ≡ boolean_at es r
  boolean_below_lem = Trees.boolean_below_lem es

  pub boolean_past : (n r : ℕ) → n ≤ r → boolean_below (boolean_trees es n) r ≡ truth r
  boolean_past = Trees.boolean_past es

  pub command_below_lem : (n r : ℕ) → r < n → command_below (command_trees es n) r ≡ command_at es r
  command_below_lem = Trees.command_below_lem es

  pub command_past : (n r : ℕ) → n ≤ r → command_below (command_trees es n) r ≡ skip r
  command_past = Trees.command_past es

  -- the tree at entry n has the number n
  pub arith_entry_lem : (n : ℕ) → arith_entry (arith_at es n) ≡ n
  arith_entry_lem = Trees.arith_entry_lem es

  pub boolean_entry_lem : (n : ℕ) → boolean_entry (boolean_at es n) ≡ n
  boolean_entry_lem = Trees.boolean_entry_lem es

  pub command_entry_lem : (n : ℕ) → command_entry (command_at es n) ≡ n
  command_entry_lem = Trees.command_entry_lem es

  -- the tree of entry n as a part of entry bound, by what code was told that the entry is; one that has parts in its own table is lower
  pub arith_told : (bound n : ℕ) {x k : ArithNode} → x ≡ arith_form es bound n → x ≡ k → arith_below (arith_trees es bound) n ≡ arith_tree es n k
  arith_told = Forms.arith_told es

  pub arith_lower : (bound n : ℕ) {x k : ArithNode} → x ≡ arith_form es bound n → x ≡ k → ArithParts k → n < bound
  arith_lower = Forms.arith_lower es

  pub boolean_told : (bound n : ℕ) {x k : BooleanNode} → x ≡ boolean_form es bound n → x ≡ k → boolean_below (boolean_trees es bound) n ≡ boolean_tree es n k
  boolean_told = Forms.boolean_told es

  pub boolean_lower : (bound n : ℕ) {x k : BooleanNode} → x ≡ boolean_form es bound n → x ≡ k → BooleanParts k → n < bound
  boolean_lower = Forms.boolean_lower es

  pub command_told : (bound n : ℕ) {x k : CommandNode} → x ≡ command_form es bound n → x ≡ k → command_below (command_trees es bound) n ≡ command_tree es n k
  command_told = Forms.command_told es

  pub command_lower : (bound n : ℕ) {x k : CommandNode} → x ≡ command_form es bound n → x ≡ k → CommandParts k → n < bound
  command_lower = Forms.command_lower es

-- ---- A prepared program

-- what an action means has the names of the action
pub meaning_named_lem : (ns : List ℕ) (x : Action) → T (action_named ns x) → T (meaning_named ns (meaning x))
meaning_named_lem = Preparing.meaning_named_lem

-- without its earlier guards too
pub own_named : (ns : List ℕ) (x : Action) → T (meaning_named ns (meaning x)) → T (meaning_named ns (meaning (plain x)))
own_named = Preparing.own_named

-- past what a table can have every entry is a leaf, so the tree at an entry is the one below that
module _ (code graph : List ℕ) where
  pub arith_whole : (n : ℕ) → arith_at (entries_in code graph) n ≡ arith_below (arith_trees (entries_in code graph) 512) n
  arith_whole = Readings.arith_any code graph

  pub boolean_whole : (n : ℕ) → boolean_at (entries_in code graph) n ≡ boolean_below (boolean_trees (entries_in code graph) 256) n
  boolean_whole = Readings.boolean_any code graph

  pub command_whole : (n : ℕ) → command_at (entries_in code graph) n ≡ command_below (command_trees (entries_in code graph) 256) n
  command_whole = Readings.command_any code graph

-- it depends on the code before the set table alone
pub prepared_still : (a b : List ℕ) → length b ≡ code_length → ((i : ℕ) → i < table_place → get_or b i 0 ≡ get_or a i 0) → {ns : List ℕ} {g : Graph} {graph : List ℕ}
    → Prepared.Prepared ns g a graph → Prepared.Prepared ns g b graph
prepared_still = Untouched.prepared_still

-- following the links of a node
module _ {graph : List ℕ} (l : Prepared.Linked graph) where
  -- a next edge is beyond the last
  pub next_is_beyond : (e : ℕ) → e < get_or graph edge_count_place 0 → e < next_in graph e
  next_is_beyond = Following.next_beyond l

  -- the first edge of a node, and after one of which something holds the next
  pub first_is_followed : (node : ℕ) (P : ℕ → Type 0) → node < 129 → Prepared.Following graph node P (first_in graph node)
  first_is_followed = Following.first_followed l

  pub next_is_followed : (node : ℕ) (P : ℕ → Type 0) (e : ℕ) → e < get_or graph edge_count_place 0 → Prepared.Following graph node P e → P e
      → Prepared.Following graph node P (next_in graph e)
  next_is_followed = Following.next_followed l

-- ---- The exit of a do

-- `done` is "¬b of every guard of the loop, joined by ∧ left to right", in every meaning of ∧ that is associative and has true as its unit
pub left_to_right : {A : Type 0} {h : BooleanTree → A} {join : A → A → A} {unit : A} → Joins h join unit → (c : Command) → h (done c) ≡ h (all_false (guards c))
left_to_right = Guards.left_to_right

-- a guard after earlier ones, in every such meaning
pub selected_folded : {A : Type 0} {h : BooleanTree → A} {join : A → A → A} {unit : A} → Joins h join unit → (earlier : List BooleanTree) (b : BooleanTree)
    → h (selected earlier b) ≡ join (foldl (λ x g. join x (h (negation 0 g))) unit earlier) (h b)
selected_folded = Guards.selected_folded

-- where ∧ makes a test of conditions a test of both: of a guard after earlier ones, and of an exit, each guard fails
module _ {h : BooleanTree → Bool} (j : Joins h ◌&&◌ true) where
  pub selected_all : (earlier : List BooleanTree) (b : BooleanTree) → h (selected earlier b) ≡ (all_of (λ g. h (negation 0 g)) earlier && h b)
  selected_all = Selecting.selected_all j

  pub done_all : (c : Command) → h (done c) ≡ all_of (λ g. h (negation 0 g)) (guards c)
  done_all = Selecting.done_all j

-- and a test of either
pub selected_any : {h : BooleanTree → Bool} → Joins h ◌||◌ false → (earlier : List BooleanTree) (b : BooleanTree) → h (selected earlier b) ≡ (any_of (λ g. h (negation 0 g)) earlier || h b)
selected_any = Selecting.selected_any

-- what holds of each edge before an edge that leaves a node holds of all, and the other way round
module _ (g : Graph) (a : ℕ) (q : Action → Bool) (k : ℕ) (h : k ≤ length g.edges) where
  pub all_before : ((i : ℕ) → i < k → (edge_at g i).source ≡ a → q (edge_at g i).action ≡ true) → all_of q (leaving a (take k g.edges)) ≡ true
  all_before = Selecting.all_before g a q k h

  pub before_all : all_of q (leaving a (take k g.edges)) ≡ true → (i : ℕ) → i < k → (edge_at g i).source ≡ a → q (edge_at g i).action ≡ true
  before_all = Selecting.before_all g a q k h

-- the same of the guards of lower edges, out of the numbers of a prepared graph
module _ (es : Entries) (graph : List ℕ) (node : ℕ) (q : BooleanTree → Bool) (k : ℕ) where
  pub all_lower : ((i : ℕ) → i < k → eqb (Prepared.source_in graph i) node ≡ true → q (Prepared.own_in es (Prepared.action_in graph i)) ≡ true) → all_of q (Prepared.guards_in es graph node k) ≡ true
  all_lower = Selecting.all_lower es graph node q k

  pub lower_all : all_of q (Prepared.guards_in es graph node k) ≡ true → (i : ℕ) → i < k → eqb (Prepared.source_in graph i) node ≡ true → q (Prepared.own_in es (Prepared.action_in graph i)) ≡ true
  lower_all = Selecting.lower_all es graph node q k

-- what a decoded action means after some guards: a guard after these, and any other what it means by itself
module _ (es : Entries) (earlier : List BooleanTree) where
  pub after_guard : (x : ActionNode) → Prepared.is_guard_node x ≡ true → Prepared.meaning_after es earlier x ≡ condition (selected earlier (Prepared.own_in es x))
  after_guard = Selecting.after_guard es earlier

  pub after_other : (x : ActionNode) → Prepared.is_guard_node x ≡ false → Prepared.meaning_after es earlier x ≡ Prepared.decoded_meaning es x
  after_other = Selecting.after_other es earlier

-- what an edge of a prepared graph means, out of its numbers: its earlier guards are those of the lower edges out of its node, and its own has names that are there. Before a guard of the deterministic graph
-- there are only such guards; it, and each edge after it at its node, is tested guard by guard
module _ {ns : List ℕ} {g : Graph} {code graph : List ℕ} (p : Prepared.Prepared ns g code graph) where
  pub edge_meaning_lem : (f : ℕ) → f < length g.edges → Prepared.edge_meaning (entries_in code graph) graph f ≡ meaning (edge_at g f).action
  edge_meaning_lem = Selecting.edge_meaning_lem p

  pub own_there : (f : ℕ) → f < length g.edges → T (boolean_named ns (Prepared.own_in (entries_in code graph) (Prepared.action_in graph f)))
  own_there = Selecting.own_there p

  pub guard_lower : (e k : ℕ) → e < length g.edges → k < e → (edge_at g k).source ≡ (edge_at g e).source → Prepared.is_guard_node (Prepared.action_in graph e) ≡ true → Prepared.is_guard_node (Prepared.action_in graph k) ≡ true
  guard_lower = Selecting.guard_lower p

  pub guard_guarded : (f : ℕ) → f < length g.edges → Prepared.is_guard_node (Prepared.action_in graph f) ≡ true
      → Guarded (meaning (edge_at g f).action) (Prepared.guards_in (entries_in code graph) graph (Prepared.source_in graph f) f) (Prepared.own_in (entries_in code graph) (Prepared.action_in graph f))
  guard_guarded = Selecting.guard_guarded p

  pub later_guarded : (e f : ℕ) → e < f → f < length g.edges → (edge_at g e).source ≡ (edge_at g f).source → Prepared.is_guard_node (Prepared.action_in graph e) ≡ true
      → Guarded (meaning (edge_at g f).action) (Prepared.guards_in (entries_in code graph) graph (Prepared.source_in graph f) f) (Prepared.own_in (entries_in code graph) (Prepared.action_in graph f))
  later_guarded = Selecting.later_guarded p

-- ---- Rows of numbers

-- of answers that are read back out of their rows, two with the same row are the same; and the refusal that a row begins with
pub same_row : {A B : Type 0} (row : A → B) (read : B → A) {a b : A} → read (row a) ≡ a → read (row b) ≡ b → row a ≡ row b → a ≡ b
same_row = Readback.same_row

abbrev pub refusal_read : List ℕ → Refusal
refusal_read = Readback.refusal_read

-- a reply is fixed by its row alone: of a file's questions, and of a graph drawn
pub validity_row : (v w : Validity) → validity_numbers v ≡ validity_numbers w → v ≡ w
validity_row = Readback.validity_row

pub drawn_row : (c d : Result Drawn Refusal) → drawn_numbers c ≡ drawn_numbers d → c ≡ d
drawn_row = Readback.drawn_row

-- ---- First such

-- the first answer depends on the answers below n alone
pub first_same : {A : Type 0} (settles : A → Bool) (nothing : A) (n : ℕ) (f g : ℕ → A) → ((k : ℕ) → k < n → f k ≡ g k)
    → first_of settles nothing n f ≡ first_of settles nothing n g
first_same = FirstSuch.first_same

-- where `nothing` is the one answer that settles nothing
module _ {A : Type 0} (settles : A → Bool) (nothing : A) (unsettled : settles nothing ≡ false) (only : (x : A) → settles x ≡ false → x ≡ nothing) where
  -- nothing, where there is nothing at each below n, and only there
  pub all_nothing : (n : ℕ) (f : ℕ → A) → ((k : ℕ) → k < n → f k ≡ nothing) → first_of settles nothing n f ≡ nothing
  all_nothing = FirstSuch.all_nothing settles nothing unsettled only

  pub first_nothing : (n : ℕ) (f : ℕ → A) → first_of settles nothing n f ≡ nothing → (k : ℕ) → k < n → f k ≡ nothing
  first_nothing = FirstSuch.first_nothing settles nothing unsettled only

  -- the answer at k, where that settles the matter and nothing before it does; and where the first settles it, there is such a k
  pub first_where : (n : ℕ) (f : ℕ → A) (k : ℕ) → k < n → ((j : ℕ) → j < k → f j ≡ nothing) → settles (f k) ≡ true → first_of settles nothing n f ≡ f k
  first_where = FirstSuch.first_where settles nothing unsettled only

  pub first_found : (n : ℕ) (f : ℕ → A) → settles (first_of settles nothing n f) ≡ true → Foremost settles nothing n f
  first_found = FirstSuch.first_found settles nothing unsettled only

  -- how code finds it in a loop: nothing up to k, and k settles it or not
  pub first_at : (n : ℕ) (f : ℕ → A) (k : ℕ) → k < n → first_of settles nothing k f ≡ nothing → settles (f k) ≡ true → first_of settles nothing n f ≡ f k
  first_at = FirstSuch.first_at settles nothing unsettled only

  pub first_more : (f : ℕ → A) (k : ℕ) → first_of settles nothing k f ≡ nothing → f k ≡ nothing → first_of settles nothing (suc k) f ≡ nothing
  first_more = FirstSuch.first_more settles nothing unsettled only

-- the first that passes a test: it depends on the tests below n alone
pub such_same : (n : ℕ) (test other : ℕ → Bool) → ((k : ℕ) → k < n → test k ≡ other k) → first_such n test ≡ first_such n other
such_same = FirstSuch.such_same

-- nothing, where none below n passes, and only there
pub none_such : (n : ℕ) (test : ℕ → Bool) → ((k : ℕ) → k < n → test k ≡ false) → first_such n test ≡ None
none_such = FirstSuch.none_such

pub such_none : (n : ℕ) (test : ℕ → Bool) → first_such n test ≡ None → (k : ℕ) → k < n → test k ≡ false
such_none = FirstSuch.such_none

-- k, where k passes and none before it does, and only there
pub first_such_lem : (n : ℕ) (test : ℕ → Bool) (k : ℕ) → FirstPassing n test k → first_such n test ≡ Some k
first_such_lem = FirstSuch.first_such_lem

pub such_first : (n : ℕ) (test : ℕ → Bool) (k : ℕ) → first_such n test ≡ Some k → FirstPassing n test k
such_first = FirstSuch.such_first

-- how code finds it in a loop
pub such_stops : (n : ℕ) (test : ℕ → Bool) (k : ℕ) → k < n → first_such k test ≡ None → test k ≡ true → first_such n test ≡ Some k
such_stops = FirstSuch.such_stops

pub such_goes_on : (test : ℕ → Bool) (k : ℕ) → first_such k test ≡ None → test k ≡ false → first_such (suc k) test ≡ None
such_goes_on = FirstSuch.such_goes_on

-- ---- Asking

-- asked and fit: yes, to the first questions, to the later ones, and to each of a list and of a loop
pub ask_fit : (yes? : Bool) (n at : ℕ) → ask yes? n at ≡ Ok tt → yes? ≡ true
ask_fit = Asking.ask_fit

pub then_first : (a b : Validity) → then_ask a b ≡ Ok tt → a ≡ Ok tt
then_first = Asking.then_first

pub then_second : (a b : Validity) → then_ask a b ≡ Ok tt → b ≡ Ok tt
then_second = Asking.then_second

pub turn_fit : (xs : List Validity) (k : ℕ) → in_turn xs ≡ Ok tt → get_or xs k (Ok tt) ≡ Ok tt
turn_fit = Asking.turn_fit

pub each_fit : (n : ℕ) (q : ℕ → Validity) → ask_each n q ≡ Ok tt → (k : ℕ) → k < n → q k ≡ Ok tt
each_fit = Asking.each_fit

-- what is asked in a loop depends on the questions below n alone
pub each_same : (n : ℕ) (p q : ℕ → Validity) → ((k : ℕ) → k < n → p k ≡ q k) → ask_each n p ≡ ask_each n q
each_same = Asking.each_same

-- how code asks: an answer v to the first questions is returned where it is a refusal, and the next asked where it is not
pub not_refused : (v : Validity) (r : Bool) → r ≡ is_refused v → r ≡ false → v ≡ Ok tt
not_refused = Asking.not_refused

pub stops : (a b v : Validity) (r : Bool) → v ≡ a → r ≡ is_refused v → r ≡ true → v ≡ then_ask a b
stops = Asking.stops

pub goes_on_lem : (a b v w : Validity) (r : Bool) → v ≡ a → r ≡ is_refused v → r ≡ false → w ≡ b → w ≡ then_ask a b
goes_on_lem = Asking.goes_on_lem

-- how code asks in a loop
pub each_stops : (n : ℕ) (q : ℕ → Validity) (k : ℕ) (v : Validity) (r : Bool) → k < n → ask_each k q ≡ Ok tt → v ≡ q k → r ≡ is_refused v → r ≡ true → v ≡ ask_each n q
each_stops = Asking.each_stops

pub each_goes_on : (q : ℕ → Validity) (k : ℕ) (v : Validity) (r : Bool) → ask_each k q ≡ Ok tt → v ≡ q k → r ≡ is_refused v → r ≡ false → ask_each (suc k) q ≡ Ok tt
each_goes_on = Asking.each_goes_on

-- where an answer is a refusal, it has a number and its place is small
module _ {most : ℕ} where
  pub placed_fit : Placed most (Ok tt)
  placed_fit = Places.placed_fit

  pub placed_ask : (yes? : Bool) (n at : ℕ) → T (leb 1 n && leb n 30) → at ≤ most → Placed most (ask yes? n at)
  placed_ask = Places.placed_ask

  pub placed_then : (a b : Validity) → Placed most a → (a ≡ Ok tt → Placed most b) → Placed most (then_ask a b)
  placed_then = Places.placed_then

  pub placed_each : (n : ℕ) (q : ℕ → Validity) → ((k : ℕ) → k < n → Placed most (q k)) → Placed most (ask_each n q)
  placed_each = Places.placed_each

-- the questions of a program file, and of the sheet program's input
pub validity_placed : (s : List ℕ) → Placed 7244 (validity s)
validity_placed = Places.validity_placed

pub input_placed : (s : List ℕ) → Placed 23631 (input_validity s)
input_placed = Places.input_placed

-- ---- The graph, of every file and every construction: each edge leaves and enters a node of the graph, and none leaves node 1 (book, Proposition 2.12)

pub two_nodes : (κ : Construction) (s : List ℕ) → 2 ≤ node_count κ s
two_nodes = Nodes.two_nodes

pub edge_inside : (κ : Construction) (s : List ℕ) (k : ℕ) (d : Edge) → k < edge_count κ s → Inside (node_count κ s) (get_or (edges κ s) k d)
edge_inside = Nodes.edge_inside

-- (order 8) "Nodes, arrow order and numbers are unchanged": without its earlier guards, each edge is that of document 01's construction; "action kind 4 … marks every
-- guard's arrow" in the deterministic one
pub untested : (s : List ℕ) (e : ℕ) → e < edge_count Deterministic s → is_test (edge_at (graph Deterministic s) e).action ≡ false
untested = Matching.untested

pub plain_graph_lem : (κ : Construction) (s : List ℕ) → plain_graph (graph κ s) ≡ graph Nondeterministic s
plain_graph_lem = Matching.plain_graph_lem

-- ---- Of a well-formed file: "A script is well formed if it passes questions 1 to 11", and order 7: "'well formed' takes in 20"

module _ (s : List ℕ) (fit : validity s ≡ Ok tt) where
  -- the fields have as many entries as are allowed, so there is a name at least
  pub counts : Allowed s
  counts = Fitness.counts s fit

  -- "is the size 0 to 64 and the cell total so far at most 512?"
  pub small_sizes : (i : ℕ) → get_or (sizes s) i 0 ≤ 64
  small_sizes = Fitness.small_sizes s fit

  pub few_cells : cell_count (sizes s) ≤ 512
  few_cells = Fitness.few_cells s fit

  -- it has no more bytes than four fields with as many entries as are allowed
  pub few_bytes : length s ≤ 7244
  few_bytes = Places.few_bytes s fit

  -- "There are at most 129 nodes and 255 arrows."
  pub few_nodes : (κ : Construction) → node_count κ s ≤ 129
  few_nodes = Counts.few_nodes s fit

  pub few_edges : (κ : Construction) → edge_count κ s ≤ 255
  few_edges = Counts.few_edges s fit

  -- "is a named name there and of the right sort?": every name, of each expression and command and of the script
  pub arith_named_lem : (n : ℕ) → n < entry_count s Arithmetic → T (arith_named (sizes s) (arith_at (entry s) n))
  arith_named_lem n h = passed (Expressions.arith_sorted s fit n h).named

  pub boolean_named_lem : (n : ℕ) → n < entry_count s Boolean → T (boolean_named (sizes s) (boolean_at (entry s) n))
  boolean_named_lem n h = passed (Expressions.boolean_sorted s fit n h).named

  pub command_named_lem : (n : ℕ) → n < entry_count s Commands → T (command_named (sizes s) (command_at (entry s) n))
  command_named_lem n h = passed (Sorting.made_named s fit (made s fit n h))

  pub script_named : T (command_named (sizes s) (script s))
  script_named = passed (Sorting.made_named s fit (Sorting.script_made s fit))

  -- "Do all references point as above?": every reference is lower, and of the sort its rule needs
  pub arith_points_lem : (n : ℕ) → n < entry_count s Arithmetic → T (arith_points (arith_at (entry s) n))
  arith_points_lem n h = passed (Expressions.arith_sorted s fit n h).points

  pub boolean_points_lem : (n : ℕ) → n < entry_count s Boolean → T (boolean_points (boolean_at (entry s) n))
  boolean_points_lem n h = passed (Expressions.boolean_sorted s fit n h).points

  pub command_points_lem : (n : ℕ) → n < entry_count s Commands → T (command_points (command_at (entry s) n))
  command_points_lem n h = passed (Sorting.made_points s fit (made s fit n h))

  pub script_points : T (command_points (script s))
  script_points = passed (Sorting.made_points s fit (Sorting.script_made s fit))

  -- a tree is a guarded command where its entry's kind is one's, and the script is a command
  pub command_guarded : (n : ℕ) → n < entry_count s Commands → is_guarded_tree (command_at (entry s) n) ≡ is_guarded (entry s Commands n).kind
  command_guarded = Sorting.command_guarded s fit

  pub script_command : is_guarded_tree (script s) ≡ false
  script_command = Sorting.script_command s fit

  -- (order 7) no entry is a jump outside every do, so the graph is that of the script inside any loop whatever
  pub no_loose : (n : ℕ) → loose n (script s) ≡ false
  no_loose = Loose.no_loose s fit

  pub any_around : (κ : Construction) (first last : ℕ)
      → graph κ s ≡ record { edges = (part κ (within first last) (script s) 0 1 2).edges; nodes = (part κ (within first last) (script s) 0 1 2).fresh }
  unfolding graph
  any_around κ first last = rw (Loose.same_around κ (script s) no_loose (within 0 1) (within first last) refl 0 1 2)

  -- an edge's action is that of its kind and entry, but for earlier guards; its names and references are as above, an exit's names those of its condition, and its
  -- entry exists
  pub edge_faithful : (κ : Construction) (k : ℕ) (d : Edge) → k < edge_count κ s → Faithful s (get_or (edges κ s) k d)
  edge_faithful = Actions.edge_faithful s fit

  -- (order 8) what precedes an edge at its node: nothing, where it performs a command; guards' edges with exactly its earlier guards, where it is a guard's; with
  -- exactly the guards of the do, where it leaves one
  pub edge_follows : (κ : Construction) (e : ℕ) → e < edge_count κ s → Follows (before (graph κ s) e) (edge_at (graph κ s) e).action
  edge_follows = Precedence.edge_follows s fit

  -- an edge is read back out of a buffer that the graph was drawn into
  pub drawn_edge_read : (κ : Construction) (k : ℕ) (d : Edge) → k < edge_count κ s → (buffer : List ℕ) → edge_read (over (graph_bytes κ s) buffer) k ≡ edge_numbers (get_or (edges κ s) k d)
  drawn_edge_read κ = EdgeReading.drawn_edge_read κ s fit

-- ---- The sheet program's input, where it passes its questions

module _ (s : List ℕ) (fit : input_validity s ≡ Ok tt) where
  -- the program part is well formed, and has the input's names
  pub program_fit : validity (program_part s) ≡ Ok tt
  program_fit = Inputs.program_fit s fit

  pub program_names : name_count (program_part s) ≡ name_count s
  program_names = Inputs.program_names s fit

  pub program_sizes : sizes (program_part s) ≡ sizes s
  program_sizes = Inputs.program_sizes s fit

  -- "the start list (0 to 512 records)": whole records of a byte per name, at most 512
  pub initial_whole_lem : length (initial_part s) % name_count (program_part s) ≡ 0
  initial_whole_lem = Inputs.initial_whole_lem s fit

  pub initial_records : length (initial_part s) ≡ length (initial_part s) / name_count (program_part s) * name_count (program_part s)
  initial_records = Inputs.initial_records s fit

  pub initial_few : length (initial_part s) / name_count (program_part s) ≤ 512
  initial_few = Inputs.initial_few s fit

  -- the parts of the input, one after the other with a head of three bytes between them, and nothing else
  pub program_there : take (length (program_part s)) s ≡ program_part s
  program_there = Inputs.program_there s fit

  pub initial_there : take (length (initial_part s)) (drop (length (program_part s) + 3) s) ≡ initial_part s
  initial_there = Inputs.initial_there s fit

  pub parts_fill : length (program_part s) + 3 + length (initial_part s) ≡ length s
  parts_fill = Inputs.parts_fill s fit
