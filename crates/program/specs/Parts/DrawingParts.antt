-- What the drawing's own functions promise each other. No public contract cites these.
use Rattle.std.specs.Prelude.{ℕ, zero, suc, ◌%◌, List, [], ◌∷◌, ◌++◌, take, drop}
use Rattle.program.specs.Drawing.{over}
use Rattle.program.specs.Graph.{Edge, action_kind, action_entry, word_bytes}
use Rattle.program.specs.Parts.Prepared.{edge_in}
use Rattle.program.specs.declared.EdgeBytes.{EdgeBytes}

-- bytes, or other numbers, over a list from a place on
unfoldable pub over_at : ℕ → List ℕ → List ℕ → List ℕ
over_at at bytes buffer = take at buffer ++ over bytes (drop at buffer)

-- an edge's bytes by its four numbers
unfoldable pub edge_row : ℕ → ℕ → ℕ → ℕ → List ℕ
edge_row source target kind entry = word_bytes source ++ word_bytes target ++ (kind ∷ []) ++ word_bytes entry

-- the bytes of the first n edges of a prepared graph
unfoldable pub rows_in : List ℕ → ℕ → List ℕ
rows_in graph zero = []
rows_in graph (suc n) = rows_in graph n ++ edge_row (edge_in graph n 0) (edge_in graph n 1) (edge_in graph n 2 % 256) (edge_in graph n 3)

-- the numbers that an edge's bytes are of
unfoldable pub edge_numbers : Edge → EdgeBytes
edge_numbers e =
    record {
      source = e.source;
      target = e.target;
      kind = action_kind e.action;
      entry = action_entry e.action;
    }
