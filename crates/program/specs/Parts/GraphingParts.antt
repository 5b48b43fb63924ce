-- What the functions that draw a prepared graph promise each other: a part of the graph as numbers, four for each edge. No public contract cites these.
use Rattle.std.specs.Prelude.{ℕ, ◌+◌, ◌*◌, ◌/◌, ◌%◌, ◌≤◌, ◌<◌, ◌≡◌, length}
use mathlib.Core.List.{List, [], ◌∷◌, flat_map}
use Rattle.program.specs.Parts.DrawingParts.{over_at}
use Rattle.program.specs.Graph.{Edge, Around, part, action_kind, action_entry}
use Rattle.program.specs.Parts.Prepared.{edge_place, graph_length}
use Rattle.program.specs.Syntax.{Command}
use Rattle.program.specs.declared.Construction.{Construction}
use Rattle.program.specs.declared.Construction.TheVariants.{Nondeterministic, Deterministic}
use Rattle.program.specs.Tree.{Entries, command_below, command_trees}

-- an edge's four numbers
unfoldable pub edge_words : Edge → List ℕ
edge_words e = e.source ∷ e.target ∷ action_kind e.action ∷ action_entry e.action ∷ []

-- a command's edges as numbers, and the next fresh node
pub record Strip : Type 0 where
  pub words : List ℕ
  pub fresh : ℕ

unfoldable pub strip : Construction → Around → Command → ℕ → ℕ → ℕ → Strip
strip κ o c a b n = record { words = flat_map edge_words (part κ o c a b n).edges; fresh = (part κ o c a b n).fresh }

-- the kind and the entry of a guard's edge, of guarded entry k and boolean entry g
unfoldable pub guard_kind : Construction → ℕ
guard_kind Nondeterministic = 2
guard_kind Deterministic = 4

unfoldable pub guard_entry : Construction → ℕ → ℕ → ℕ
guard_entry Nondeterministic k g = g
guard_entry Deterministic k g = k

-- one edge of given numbers
unfoldable pub edge_strip : ℕ → ℕ → ℕ → ℕ → ℕ → Strip
edge_strip a b kind k n = record { words = a ∷ b ∷ kind ∷ k ∷ []; fresh = n }

-- the parts of a pen: the next fresh node, and the next edge
abbrev pub fresh_of : ℕ → ℕ
fresh_of pen = pen % 65536

abbrev pub next_of : ℕ → ℕ
next_of pen = pen / 65536

-- what drawing such a part does: its numbers over the graph's from those of edge k on, and the pen r afterwards. Only the code that writes to the array sees
-- how long it is
pub record Drew (x : Strip) (k : ℕ) (before after : List ℕ) (r : ℕ) : Type 0 where
  pub size : length before ≡ graph_length
  pub written : after ≡ over_at (edge_place + 4 * k) x.words before
  pub fresh : fresh_of r ≡ x.fresh
  pub next : 4 * next_of r ≡ 4 * k + length x.words

-- what it needs: room among the numbers of 255 edges, and numbers for the nodes
pub record Room (x : Strip) (k : ℕ) : Type 0 where
  pub words_fit : 4 * k + length x.words ≤ 1020
  pub nodes_fit : x.fresh < 65536

-- the tree that entry n is as a part of entry bound
abbrev pub part_at : Entries → ℕ → ℕ → Command
part_at es bound n = command_below (command_trees es bound) n
