-- The listing in three parts, and read from the buffer that the solver wrote.
use mathlib.Core.Path.{◌≡◌, ap, ◌∙◌}
use mathlib.Core.List.{List, [], ◌∷◌, ◌++◌, append-nil, flat_map, flatten}
use Prim.Native.Nat.{ℕ, ◌+◌, ◌*◌, ◌≤◌, ◌<◌}
use lib.ListN.{length, get_or, take}
use lib.Seq.{take_at}
use Rattle.signs.specs.Lists.{tabulate}
use Rattle.program.specs.Drawing.{over}
use Rattle.program.specs.File.{name_count, sizes}
use Rattle.program.specs.Graph.{graph}
use Rattle.program.specs.declared.Construction.TheVariants.{Nondeterministic}
use Rattle.program.proofs.Laws.{sizes_length}
use Rattle.program.proofs.Lists.{concat_append, tabulate_same}
use Rattle.analysis.specs.Records.{record_width, record_at, node_of, memory_of}
use Rattle.analysis.specs.Sheet.{Line, counts_line, record_line, index_line, listing}
use Rattle.analysis.specs.Verdict.{index_mark}
use Rattle.analysis.proofs.Formed.{FormedList, flat_length, record_laid, sized_each}
use Rattle.analysis.proofs.Laid.{node_reads, memory_taken}
use Rattle.listing.specs.Parts.Writing.{line_at, records_text, counts_of, index_of, listing_text}
use Rattle.listing.specs.Text.{line_text}

-- the line of record k of a list
unfoldable pub record_listed : List ℕ → List (List ℕ) → ℕ → Line
record_listed s rs k = record_line k (node_of (get_or rs k [])) (memory_of (sizes s) (get_or rs k []))

pub listing_parts : (s : List ℕ) (rs : List (List ℕ)) → flat_map line_text (listing s rs)
    ≡ line_text (counts_of s (length rs)) ++ flat_map line_text (tabulate (length rs) (record_listed s rs)) ++ line_text (index_of s (flatten rs))
unfolding listing counts_of index_of record_listed flat_map line_text
listing_parts s rs =
    let counts = counts_line (graph Nondeterministic s).nodes (length (graph Nondeterministic s).edges) (length rs) in
    let index = index_line (index_mark (sizes s) (graph Nondeterministic s) (flatten rs)) in
    concat_append line_text (counts ∷ tabulate (length rs) (record_listed s rs)) (index ∷ [])
    ∙ ap (λ text. flat_map line_text (counts ∷ tabulate (length rs) (record_listed s rs)) ++ text) (append-nil (line_text index))

-- a buffer that begins with the records, each of them well formed
module _ (s : List ℕ) (rs : List (List ℕ)) {room : ℕ} (few : room ≤ 4096) (all : FormedList (sizes s) (graph Nondeterministic s).nodes room rs) (before : List ℕ) where
  width_is : record_width (sizes s) ≡ 2 + name_count s
  unfolding record_width
  width_is = ap (λ n. 2 + n) (sizes_length s)

  read_at : (k : ℕ) → k < length rs → record_at (2 + name_count s) (over (flatten rs) before) k ≡ get_or rs k []
  unfolding over
  read_at k h = rw (← width_is) (record_laid rs (sized_each (sizes s) (graph Nondeterministic s) room few rs all) _ k h)

  line_read : (k : ℕ) → k < length rs → line_at (name_count s) (over (flatten rs) before) k ≡ record_listed s rs k
  unfolding line_at record_listed
  line_read k h =
      let buffer = over (flatten rs) before in
      rw (← read_at k h, node_reads buffer k (name_count s), memory_taken buffer k (name_count s) (sizes s) (sizes_length s))

  pub front_is : take ((2 + name_count s) * length rs) (over (flatten rs) before) ≡ flatten rs
  unfolding over
  front_is = take_at (flatten rs) _ ((2 + name_count s) * length rs) (rw (← width_is) (flat_length rs (sized_each (sizes s) (graph Nondeterministic s) room few rs all)))

  pub listing_read : listing_text s (over (flatten rs) before) (length rs) ≡ flat_map line_text (listing s rs)
  unfolding listing_text records_text
  listing_read =
      rw (listing_parts s rs, front_is, tabulate_same (length rs) (line_at (name_count s) (over (flatten rs) before)) (record_listed s rs) line_read)
