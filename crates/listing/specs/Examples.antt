-- Listings as text, the factorial lesson's as document 01 prints it. `proofs/Examples` shows that they are these.
use Rattle.std.specs.Prelude.{ℕ, List, [], ◌∷◌, ◌++◌}
use Rattle.signs.specs.Case.{Case, ◌gives◌, row}
use Rattle.program.specs.Examples.{factorial, field}
use Rattle.analysis.specs.Examples.{factorial_start, store_at_j}
use Rattle.listing.specs.Text.{ascii, decimal, printed_text}

unfoldable pub factorial_text : List ℕ
factorial_text =
    ascii "nodes 5 arrows 5 records 8\n"
    ++ ascii "0 0 4 2\n"
    ++ ascii "1 2 4 4\n"
    ++ ascii "2 3 4 4\n"
    ++ ascii "3 4 4 4\n"
    ++ ascii "4 2 1 4\n"
    ++ ascii "5 2 2 4\n"
    ++ ascii "6 1 1 4\n"
    ++ ascii "7 1 2 4\n"
    ++ ascii "index clean\n"

-- a store at an index that may be negative: A[j] := 0 from j zero, then minus
unfoldable pub store_text : List ℕ
store_text =
    ascii "nodes 2 arrows 1 records 4\n"
    ++ ascii "0 0 2 4\n"
    ++ ascii "1 0 1 4\n"
    ++ ascii "2 1 2 6\n"
    ++ ascii "3 1 2 2\n"
    ++ ascii "index record 1 arrow 0\n"

-- the lesson's listing, and the store's; with 0 for a sign of the lesson's start list: 17, at its second byte; and numbers of one, two and 20 digits
unfoldable pub cases : List Case
cases =
    (row (printed_text (factorial ++ field 5 factorial_start)) gives row factorial_text)
    ∷ (row (printed_text (store_at_j ++ field 5 (2 ∷ 4 ∷ 1 ∷ 4 ∷ []))) gives row store_text)
    ∷ (row (printed_text (factorial ++ field 5 (4 ∷ 0 ∷ []))) gives row (ascii "refused 17 at 1\n"))
    ∷ (row (decimal 0) gives row (ascii "0"))
    ∷ (row (decimal 10) gives row (ascii "10"))
    ∷ (row (decimal 18446744073709551615) gives row (ascii "18446744073709551615"))
    ∷ []
