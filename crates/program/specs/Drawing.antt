-- What drawing the graph of a file, by a construction, into a buffer replies, and what the buffer holds afterwards (document 01, "Questions asked", 13).
use Rattle.std.specs.Prelude.{ℕ, ◌+◌, ◌*◌, List, [], ◌∷◌, ◌++◌, leb, length, drop, Result, Ok, Err}
use Rattle.program.specs.Asking.{ask_plain, then_ask, Validity}
use Rattle.program.specs.File.{byte_at, word_at}
use Rattle.program.specs.Graph.{edge_count, node_count, graph_bytes}
use Rattle.program.specs.Questions.{validity}
use Rattle.program.specs.declared.Construction.{Construction}
use Rattle.program.specs.declared.Drawn.{Drawn}
use Rattle.program.specs.declared.EdgeBytes.{EdgeBytes}
use Rattle.program.specs.declared.Refusal.{Refusal}

-- "Does the arrow buffer hold all arrows? 13", after the file's questions
unfoldable pub draw_validity : Construction → List ℕ → List ℕ → Validity
draw_validity κ s buffer = then_ask (validity s) (ask_plain (leb (7 * edge_count κ s) (length buffer)) 13)

-- the reply: the counts, or the refusal
unfoldable pub drawn_by : Construction → List ℕ → Validity → Result Drawn Refusal
drawn_by κ s (Ok _) = Ok (record { nodes = node_count κ s; edges = edge_count κ s })
drawn_by κ s (Err x) = Err x

unfoldable pub drawn : Construction → List ℕ → List ℕ → Result Drawn Refusal
drawn κ s buffer = drawn_by κ s (draw_validity κ s buffer)

-- the bytes over the start of a buffer: "Bytes past the last arrow or record written never change."
unfoldable pub over : List ℕ → List ℕ → List ℕ
over bytes buffer = bytes ++ drop (length bytes) buffer

-- the buffer afterwards: "Refusals 1 to 17 change no buffer"
unfoldable pub drawn_buffer_by : Construction → List ℕ → List ℕ → Validity → List ℕ
drawn_buffer_by κ s buffer (Ok _) = over (graph_bytes κ s) buffer
drawn_buffer_by κ s buffer (Err x) = buffer

unfoldable pub drawn_buffer : Construction → List ℕ → List ℕ → List ℕ
drawn_buffer κ s buffer = drawn_buffer_by κ s buffer (draw_validity κ s buffer)

-- a reply in document 01's numbers: 0 or the refusal's, then nodes and edges, which "come back as zero" where it is refused
unfoldable pub drawn_numbers : Result Drawn Refusal → List ℕ
drawn_numbers (Ok d) = 0 ∷ d.nodes ∷ d.edges ∷ []
drawn_numbers (Err x) = x.number ∷ x.offset ∷ 0 ∷ 0 ∷ []

-- the row that drawing a file's graph into a buffer answers
unfoldable pub drawing_row : Construction → List ℕ → List ℕ → List ℕ
drawing_row κ s buffer = drawn_numbers (drawn κ s buffer)

-- what stands at edge k of such bytes
unfoldable pub edge_read : List ℕ → ℕ → EdgeBytes
edge_read bytes k =
    record {
      source = word_at bytes (7 * k);
      target = word_at bytes (7 * k + 2);
      kind = byte_at bytes (7 * k + 4);
      entry = word_at bytes (7 * k + 5);
    }
