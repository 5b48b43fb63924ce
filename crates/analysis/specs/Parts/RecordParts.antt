-- What the functions that read and write records promise each other. No public contract cites these.
use Rattle.std.specs.Prelude.{◌≡◌, ℕ, ◌+◌, ◌<◌, cond, List, length, nat_lt, slice_index, Result, Ok, Err}
use Rattle.signs.specs.Lists.{tabulate}
use Rattle.program.specs.Asking.{ask, then_ask, Validity}
use Rattle.program.specs.File.{byte_at, word_at}
use Rattle.program.specs.Parts.Prepared.{size_in}
use Rattle.analysis.specs.Records.{memory_formed, wrong_byte}
use Rattle.analysis.specs.declared.RecordList.{RecordList}
use Rattle.analysis.specs.declared.Unreadable.{Unreadable}
use Rattle.analysis.specs.declared.Unreadable.TheVariants.{Malformed}

-- the bytes of so many names from a place on, in a list of 32: past the last name, 0
unfoldable pub padded_byte : List ℕ → ℕ → ℕ → ℕ → ℕ
padded_byte bytes at names i = cond (nat_lt i names) (byte_at bytes (at + i)) 0

unfoldable pub padded : List ℕ → ℕ → ℕ → List ℕ
padded bytes at names = tabulate 32 (padded_byte bytes at names)

-- so many names of the sizes ns, in a program's code
pub record SizesIn (ns code : List ℕ) (names : ℕ) : Type 0 where
  pub count : length ns ≡ names
  pub size : (x : ℕ) → x < names → slice_index ns x ≡ size_in code x

-- question 17 of the record at a place of a solution, for a graph of so many nodes
unfoldable pub record_formed : List ℕ → ℕ → List ℕ → ℕ → Validity
record_formed ns nodes bytes at = then_ask (ask (nat_lt (word_at bytes at) nodes) 17 at) (memory_formed ns bytes (at + 2))

-- question 17 of a list, by the answer to it
unfoldable pub readable : RecordList → Validity → Result (Unit {0}) Unreadable
readable list (Ok _) = Ok tt
readable list (Err x) = Err (Malformed (wrong_byte list x))
