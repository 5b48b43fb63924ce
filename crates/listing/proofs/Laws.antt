-- The theorems on the text for a reader, on one page. Their proofs are in the modules that they cite.
use mathlib.Core.Path.{◌≡◌}
use mathlib.Core.List.{List}
use Prim.Native.Nat.{ℕ, ◌≤◌}
use lib.ListN.{length, take}
use Rattle.listing.specs.Text.{printed_text}
use Rattle.listing.proofs.Cutting
use Rattle.listing.proofs.Printed

-- the buffer holds the text for any input
pub text_short : (input : List ℕ) → length (printed_text input) ≤ 300000
text_short = Printed.text_short

-- an input that is cut at 32,768 bytes has its text, so the program may stop reading there
pub cut_printed : (input : List ℕ) → printed_text (take 32768 input) ≡ printed_text input
cut_printed = Cutting.cut_printed
