-- What the functions that write the text promise each other. No public contract cites these.
use Rattle.std.specs.Prelude.{◌≡◌, ℕ, ◌+◌, ◌*◌, ◌≤◌, length, take, drop, Ok}
use mathlib.Core.List.{List, ◌++◌, flat_map}
use Rattle.signs.specs.Lists.{tabulate}
use Rattle.program.specs.File.{word_at, name_count, sizes}
use Rattle.program.specs.Graph.{graph}
use Rattle.program.specs.Parts.DrawingParts.{over_at}
use Rattle.program.specs.Questions.{validity}
use Rattle.program.specs.declared.Construction.TheVariants.{Nondeterministic}
use Rattle.analysis.specs.Sheet.{Line, counts_line, record_line, index_line}
use Rattle.analysis.specs.Verdict.{index_mark, marking}
use Rattle.listing.specs.Text.{line_text}

-- a buffer has room for a text from a place on
pub record Room (at : ℕ) (text out : List ℕ) : Type 0 where
  pub fits : at + length text ≤ length out

-- a text put into a buffer from a place on, and the place after it
pub record Put (at : ℕ) (text before after : List ℕ) (next : ℕ) : Type 0 where
  pub place : next ≡ at + length text
  pub bytes : after ≡ over_at at text before

-- the line of record k of a list's bytes, with so many names, and the text of the first n
unfoldable pub line_at : ℕ → List ℕ → ℕ → Line
line_at names bytes k = let from = (2 + names) * k in record_line k (word_at bytes from) (take names (drop (from + 2) bytes))

unfoldable pub records_text : ℕ → List ℕ → ℕ → List ℕ
records_text names bytes n = flat_map line_text (tabulate n (line_at names bytes))

-- the lines of counts and of the index mark for the first n records of a buffer, and the text of such a listing
unfoldable pub counts_of : List ℕ → ℕ → Line
counts_of s count = counts_line (graph Nondeterministic s).nodes (length (graph Nondeterministic s).edges) count

unfoldable pub index_of : List ℕ → List ℕ → Line
index_of s bytes = index_line (index_mark (sizes s) (graph Nondeterministic s) bytes)

unfoldable pub listing_text : List ℕ → List ℕ → ℕ → List ℕ
listing_text s buffer count =
    line_text (counts_of s count)
    ++ records_text (name_count s) buffer count
    ++ line_text (index_of s (take ((2 + name_count s) * count) buffer))

-- a list whose index mark comes back
abbrev pub WellMarked : List ℕ → List ℕ → Type 0
WellMarked s bytes = marking s bytes ≡ Ok (index_mark (sizes s) (graph Nondeterministic s) bytes)

-- a buffer that begins with so many records of a well-formed file, which come back marked, and room for their listing
pub record Listed (s buffer : List ℕ) (count : ℕ) (out : List ℕ) : Type 0 where
  pub fit : validity s ≡ Ok tt
  pub marked : WellMarked s (take ((2 + name_count s) * count) buffer)
  pub room : Room 0 (listing_text s buffer count) out
