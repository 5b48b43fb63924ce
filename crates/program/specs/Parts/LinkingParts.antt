-- What the functions that link a prepared graph's edges promise each other. No public contract cites these.
use Rattle.std.specs.Prelude.{◌≡◌, List, ℕ, ◌+◌, ◌<◌, ◌≤◌, length, get_or, set}
use Rattle.program.specs.Parts.Prepared.{first_place, next_place, node_count_place, edge_count_place, graph_length, source_in, Linked}

-- edges that can be linked, all of them: at most 255, each out of one of 129 nodes
pub record Linkable (graph : List ℕ) : Type 0 where
  pub few : get_or graph edge_count_place 0 ≤ 255
  pub inside : (e : ℕ) → e < get_or graph edge_count_place 0 → source_in graph e < 129

-- two graphs that are the same but for the links
pub record SameButLinks (old new : List ℕ) : Type 0 where
  pub before : (i : ℕ) → i < first_place → get_or new i 0 ≡ get_or old i 0
  pub after : (i : ℕ) → node_count_place ≤ i → get_or new i 0 ≡ get_or old i 0

-- edge e, out of a node, put before those of its node
unfoldable pub linked_one : List ℕ → ℕ → ℕ → List ℕ
linked_one graph e node = set (set graph (next_place + e) (get_or graph (first_place + node) 0)) (first_place + node) e

-- no edge is linked: each node's lowest is 255
pub record Unlinked (old new : List ℕ) : Type 0 where
  pub size : length new ≡ graph_length
  pub same : SameButLinks old new
  pub none : (node : ℕ) → node < 129 → get_or new (first_place + node) 0 ≡ 255

-- what linking a graph does
pub record LinkedFrom (old new : List ℕ) : Type 0 where
  pub same : SameButLinks old new
  pub linked : Linked new
