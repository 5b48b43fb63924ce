-- What the sheet program prints, byte by byte (document 01, "The sheet program and the factorial lesson"): each line of `printed_lines` in ASCII.
use Rattle.std.specs.Prelude.{ℕ, zero, suc, ◌/◌, cond, ltb}
use Prim.Native.Char.{code}
use Prim.Native.String.{String}
use Prim.Native.String as Quoted
use mathlib.Core.List.{List, [], ◌∷◌, ◌++◌, flat_map}
use Rattle.listing.specs.Digits.{last_digits}
use Rattle.analysis.specs.Sheet.{Line, counts_line, record_line, index_line, refusal_line, printed_lines}
use Rattle.analysis.specs.declared.Mark.{Mark}
use Rattle.analysis.specs.declared.Mark.TheVariants.{Clean, Unclean}

-- the bytes of a text that the document quotes
unfoldable pub ascii : String → List ℕ
ascii Quoted.[] = []
ascii (Quoted.◌∷◌ c s) = code c ∷ ascii s

-- how many digits a number has, but no more than one and `more`: one, and as many as a tenth of it has where it is ten or more
unfoldable pub places_up_to : ℕ → ℕ → ℕ
places_up_to zero n = 1
places_up_to (suc more) n = cond (ltb n 10) 1 (suc (places_up_to more (n / 10)))

-- a number, the "N" of "refused N at PLACE": its decimal digits, as `digits::decimal` has them. Each number of 64 bits has at most 20
unfoldable pub decimal : ℕ → List ℕ
decimal n = last_digits 10 (places_up_to 19 n) n

-- a word and its number, as in "nodes 5"
unfoldable pub labelled : List ℕ → ℕ → List ℕ
labelled label n = label ++ decimal n

-- "then the index line (or 'index record K arrow E')"
unfoldable pub mark_text : Mark → List ℕ
mark_text Clean = ascii "index clean"
mark_text (Unclean k e) = labelled (ascii "index record ") k ++ labelled (ascii " arrow ") e

-- "It prints counts, then number, node and signs of each record, then the index line"; "A refusal prints only 'refused N at PLACE'"
unfoldable pub line_text : Line → List ℕ
line_text (counts_line nodes edges count) =
    labelled (ascii "nodes ") nodes ++ labelled (ascii " arrows ") edges ++ labelled (ascii " records ") count ++ ascii "\n"
line_text (record_line k node signs) = decimal k ++ labelled (ascii " ") node ++ flat_map (labelled (ascii " ")) signs ++ ascii "\n"
line_text (index_line mark) = mark_text mark ++ ascii "\n"
line_text (refusal_line x) = labelled (ascii "refused ") x.number ++ labelled (ascii " at ") x.offset ++ ascii "\n"

-- what "the program" prints for an input that it "reads … from standard input": its lines, one after the other
unfoldable pub printed_text : List ℕ → List ℕ
printed_text input = flat_map line_text (printed_lines input)
