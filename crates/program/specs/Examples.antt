-- The worked examples of document 01 on files and graphs, and those of document 02's orders 7 and 8. `proofs/Examples` shows that each holds.
use Rattle.std.specs.Prelude.{ℕ, length, replicate}
use mathlib.Core.List.{List, [], ◌∷◌, ◌++◌, flat_map}
use Rattle.signs.specs.Case.{Case, ◌gives◌, row}
use Rattle.program.specs.File.{entry}
use Rattle.program.specs.Asking.{validity_numbers}
use Rattle.program.specs.Drawing.{drawn, drawn_buffer, drawn_numbers}
use Rattle.program.specs.Graph.{done, edges, word_bytes}
use Rattle.program.specs.Meaning.{Meaning, nothing, assigns, stores, condition, meaning}
use Rattle.program.specs.Questions.{validity, input_validity}
use Rattle.program.specs.Syntax.{Boolean, truth, comparison, conjunction, short_circuit, negation}
use Rattle.program.specs.Tree.{command_at}
use Rattle.program.specs.declared.Construction.{Construction}
use Rattle.program.specs.declared.Construction.TheVariants.{Nondeterministic, Deterministic}

-- the bytes of the factorial lesson: y := 1; do x > 0 → y := x times y; x := x − 1 od
unfoldable pub factorial : List ℕ
factorial =
    -- names: variable x, variable y
    (1 ∷ 0 ∷ 4 ∷ [])
    ++ (0 ∷ 0 ∷ [])
    ++ (0 ∷ 0 ∷ [])
    -- arithmetic: 1, x, 0, x, y, x times y, x, 1, x − 1
    ++ (2 ∷ 0 ∷ 63 ∷ [])
    ++ (0 ∷ 0 ∷ 0 ∷ 0 ∷ 1 ∷ 0 ∷ 0 ∷ [])
    ++ (1 ∷ 0 ∷ 0 ∷ 0 ∷ 0 ∷ 0 ∷ 0 ∷ [])
    ++ (0 ∷ 0 ∷ 0 ∷ 0 ∷ 0 ∷ 0 ∷ 0 ∷ [])
    ++ (1 ∷ 0 ∷ 0 ∷ 0 ∷ 0 ∷ 0 ∷ 0 ∷ [])
    ++ (1 ∷ 0 ∷ 1 ∷ 0 ∷ 0 ∷ 0 ∷ 0 ∷ [])
    ++ (5 ∷ 0 ∷ 3 ∷ 0 ∷ 4 ∷ 0 ∷ 0 ∷ [])
    ++ (1 ∷ 0 ∷ 0 ∷ 0 ∷ 0 ∷ 0 ∷ 0 ∷ [])
    ++ (0 ∷ 0 ∷ 0 ∷ 0 ∷ 1 ∷ 0 ∷ 0 ∷ [])
    ++ (4 ∷ 0 ∷ 6 ∷ 0 ∷ 7 ∷ 0 ∷ 0 ∷ [])
    -- booleans: x > 0
    ++ (3 ∷ 0 ∷ 7 ∷ [])
    ++ (2 ∷ 0 ∷ 1 ∷ 0 ∷ 2 ∷ 0 ∷ 0 ∷ [])
    -- commands: y := 1, y := x times y, x := x − 1, their sequence, guarded, do, the whole
    ++ (4 ∷ 0 ∷ 49 ∷ [])
    ++ (1 ∷ 0 ∷ 1 ∷ 0 ∷ 0 ∷ 0 ∷ 0 ∷ [])
    ++ (1 ∷ 0 ∷ 1 ∷ 0 ∷ 5 ∷ 0 ∷ 0 ∷ [])
    ++ (1 ∷ 0 ∷ 0 ∷ 0 ∷ 8 ∷ 0 ∷ 0 ∷ [])
    ++ (3 ∷ 0 ∷ 1 ∷ 0 ∷ 2 ∷ 0 ∷ 0 ∷ [])
    ++ (6 ∷ 0 ∷ 0 ∷ 0 ∷ 3 ∷ 0 ∷ 0 ∷ [])
    ++ (5 ∷ 0 ∷ 4 ∷ 0 ∷ 0 ∷ 0 ∷ 0 ∷ [])
    ++ (3 ∷ 0 ∷ 0 ∷ 0 ∷ 5 ∷ 0 ∷ 0 ∷ [])

-- a field of a tag and a content; an entry of a kind and its operands
unfoldable pub field : ℕ → List ℕ → List ℕ
field tag content = (tag ∷ []) ++ word_bytes (length content) ++ content

unfoldable pub entry_of : ℕ → ℕ → ℕ → ℕ → List ℕ
entry_of kind p q r = (kind ∷ []) ++ word_bytes p ++ word_bytes q ++ word_bytes r

-- a file of names with these sizes and of these entries
unfoldable pub file_of : List ℕ → List (List ℕ) → List (List ℕ) → List (List ℕ) → List ℕ
file_of names arithmetic booleans commands =
    field 1 (flat_map word_bytes names)
    ++ field 2 (flat_map (λ e. e) arithmetic)
    ++ field 3 (flat_map (λ e. e) booleans)
    ++ field 4 (flat_map (λ e. e) commands)

-- skip, over names with these sizes
unfoldable pub skip_over : List ℕ → List ℕ
skip_over ns = file_of ns [] [] (entry_of 0 0 0 0 ∷ [])

-- do x > 0 → skip [] y > 0 → skip od
unfoldable pub two_guards : List ℕ
two_guards =
    file_of
    (0 ∷ 0 ∷ [])
    (entry_of 1 0 0 0 ∷ entry_of 0 0 0 0 ∷ entry_of 1 1 0 0 ∷ entry_of 0 0 0 0 ∷ [])
    (entry_of 2 0 1 0 ∷ entry_of 2 2 3 0 ∷ [])
    (entry_of 0 0 0 0
    ∷ entry_of 6 0 0 0
    ∷ entry_of 0 0 0 0
    ∷ entry_of 6 1 2 0
    ∷ entry_of 7 1 3 0
    ∷ entry_of 5 4 0 0
    ∷ [])

-- a boolean in prefix form: "4 P ∧ Q; 5 P && Q; 6 ¬P", and true or a comparison by its entry
unfoldable pub prefix : Boolean → List ℕ
prefix (truth n) = n ∷ []
prefix (comparison n c a b) = n ∷ []
prefix (conjunction n a b) = (4 ∷ []) ++ prefix a ++ prefix b
prefix (short_circuit n a b) = (5 ∷ []) ++ prefix a ++ prefix b
prefix (negation n a) = (6 ∷ []) ++ prefix a

-- (P) "The five arrows above", into a buffer of two bytes more; and one byte short of the five: 13
unfoldable pub graphs : List Case
graphs =
    (row (validity_numbers (validity factorial)) gives row (0 ∷ []))
    ∷ (row (drawn_numbers (drawn Nondeterministic factorial (replicate 37 9))) gives row (0 ∷ 5 ∷ 5 ∷ []))
    ∷ (row (drawn_buffer Nondeterministic factorial (replicate 37 9))
    gives row
    ((0 ∷ 0 ∷ 0 ∷ 2 ∷ 1 ∷ 0 ∷ 0 ∷ [])
    ++ (0 ∷ 2 ∷ 0 ∷ 3 ∷ 2 ∷ 0 ∷ 0 ∷ [])
    ++ (0 ∷ 3 ∷ 0 ∷ 4 ∷ 1 ∷ 0 ∷ 1 ∷ [])
    ++ (0 ∷ 4 ∷ 0 ∷ 2 ∷ 1 ∷ 0 ∷ 2 ∷ [])
    ++ (0 ∷ 2 ∷ 0 ∷ 1 ∷ 3 ∷ 0 ∷ 4 ∷ [])
    ++ (9 ∷ 9 ∷ [])))
    ∷ (row (drawn_numbers (drawn Nondeterministic factorial (replicate 34 9))) gives row (13 ∷ 0 ∷ 0 ∷ 0 ∷ []))
    ∷ (row (drawn_buffer Nondeterministic factorial (replicate 34 9)) gives row (replicate 34 9))
    ∷ []

-- "Leaving a loop when one guard is false rather than all": the exit of a do with guards 0 and 1 is ¬0 ∧ ¬1
unfoldable pub exits : List Case
exits =
    (row (validity_numbers (validity two_guards)) gives row (0 ∷ []))
    ∷ (row (prefix (done (command_at (entry two_guards) 4))) gives row (4 ∷ 6 ∷ 0 ∷ 6 ∷ 1 ∷ []))
    ∷ []

-- "32 and 33 names; sizes 64 and 65; 512 and 513 cells"
unfoldable pub limits : List Case
limits =
    (row (validity_numbers (validity (skip_over (replicate 32 0)))) gives row (0 ∷ []))
    ∷ (row (validity_numbers (validity (skip_over (replicate 33 0)))) gives row (3 ∷ 0 ∷ []))
    ∷ (row (validity_numbers (validity (skip_over (64 ∷ [])))) gives row (0 ∷ []))
    ∷ (row (validity_numbers (validity (skip_over (65 ∷ [])))) gives row (6 ∷ 3 ∷ []))
    ∷ (row (validity_numbers (validity (skip_over (replicate 8 64)))) gives row (0 ∷ []))
    ∷ (row (validity_numbers (validity (skip_over (replicate 8 64 ++ (0 ∷ []))))) gives row (6 ∷ 19 ∷ []))
    ∷ []

-- the input of the sheet program: the factorial lesson and the start list 4 2; then one byte of a record missing, and one byte too many
unfoldable pub inputs : List Case
inputs =
    (row (validity_numbers (input_validity (factorial ++ field 5 (4 ∷ 2 ∷ [])))) gives row (0 ∷ []))
    ∷ (row (validity_numbers (input_validity (factorial ++ field 5 (4 ∷ [])))) gives row (3 ∷ 135 ∷ []))
    ∷ (row (validity_numbers (input_validity (factorial ++ field 5 (4 ∷ 2 ∷ []) ++ (0 ∷ [])))) gives row (5 ∷ 140 ∷ []))
    ∷ []

-- the program of the book's Example 2.25 over i, x, y and A of 10, its sides exchanged where a comparison asks for it, with a jump of a kind where it has break:
-- i := 0; x := 0; y := 0; do 10 > i → if A[i] ≥ 0 → x := x + A[i]; i := i + 1 [] 0 > A[i] → i := i + 1; break fi; y := y + 1 od
unfoldable pub adding : ℕ → List ℕ
adding kind =
    file_of
    (0 ∷ 0 ∷ 0 ∷ 10 ∷ [])
    -- arithmetic, by the commands and conditions that it stands in
    (entry_of 0 0 0 0 ∷ entry_of 0 0 0 0 ∷ entry_of 0 0 0 0
    ∷ entry_of 0 0 10 0 ∷ entry_of 1 0 0 0
    ∷ entry_of 1 0 0 0 ∷ entry_of 2 3 5 0 ∷ entry_of 0 0 0 0
    ∷ entry_of 1 1 0 0 ∷ entry_of 1 0 0 0 ∷ entry_of 2 3 9 0 ∷ entry_of 3 8 10 0
    ∷ entry_of 1 0 0 0 ∷ entry_of 0 0 1 0 ∷ entry_of 3 12 13 0
    ∷ entry_of 0 0 0 0 ∷ entry_of 1 0 0 0 ∷ entry_of 2 3 16 0
    ∷ entry_of 1 0 0 0 ∷ entry_of 0 0 1 0 ∷ entry_of 3 18 19 0
    ∷ entry_of 1 2 0 0 ∷ entry_of 0 0 1 0 ∷ entry_of 3 21 22 0
    ∷ [])
    -- 10 > i; A[i] ≥ 0; 0 > A[i]
    (entry_of 2 3 4 0 ∷ entry_of 3 6 7 0 ∷ entry_of 2 15 17 0 ∷ [])
    -- i := 0, x := 0, y := 0
    (entry_of 1 0 0 0 ∷ entry_of 1 1 1 0 ∷ entry_of 1 2 2 0
    -- x := x + A[i], i := i + 1, their sequence, guarded
    ∷ entry_of 1 1 11 0 ∷ entry_of 1 0 14 0 ∷ entry_of 3 3 4 0 ∷ entry_of 6 1 5 0
    -- i := i + 1, the jump, their sequence, guarded
    ∷ entry_of 1 0 20 0 ∷ entry_of kind 0 0 0 ∷ entry_of 3 7 8 0 ∷ entry_of 6 2 9 0
    -- choice, if, y := y + 1, their sequence, guarded, do
    ∷ entry_of 7 6 10 0 ∷ entry_of 4 11 0 0 ∷ entry_of 1 2 23 0 ∷ entry_of 3 12 13 0 ∷ entry_of 6 0 14 0 ∷ entry_of 5 15 0 0
    -- the whole
    ∷ entry_of 3 2 16 0 ∷ entry_of 3 1 17 0 ∷ entry_of 3 0 18 0
    ∷ [])

-- a program over one variable with so many conditions, all true, and these commands
unfoldable pub true_with : ℕ → List (List ℕ) → List ℕ
true_with count commands = file_of (0 ∷ []) [] (replicate count (entry_of 0 0 0 0)) commands

-- do true → jump od
unfoldable pub jump_only : ℕ → List ℕ
jump_only kind = true_with 1 (entry_of kind 0 0 0 ∷ entry_of 6 0 0 0 ∷ entry_of 5 1 0 0 ∷ [])

-- do true → do true → jump od od, the outer condition second
unfoldable pub jump_in_two : ℕ → List ℕ
jump_in_two kind = true_with 2 (entry_of kind 0 0 0 ∷ entry_of 6 0 0 0 ∷ entry_of 5 1 0 0 ∷ entry_of 6 1 2 0 ∷ entry_of 5 3 0 0 ∷ [])

-- an arrow's seven bytes: from, to, action kind, entry
unfoldable pub arrow : ℕ → ℕ → ℕ → ℕ → List ℕ
arrow from to kind entry = word_bytes from ++ word_bytes to ++ (kind ∷ []) ++ word_bytes entry

-- the arrows of Example 2.25, where the jump goes to a node
unfoldable pub adding_arrows : ℕ → List ℕ
adding_arrows target =
    arrow 0 2 1 0 ++ arrow 2 3 1 1 ++ arrow 3 4 1 2
    ++ arrow 4 5 2 0
    ++ arrow 5 7 2 1 ++ arrow 7 8 1 3 ++ arrow 8 6 1 4
    ++ arrow 5 9 2 2 ++ arrow 9 10 1 7 ++ arrow 10 target 1 8
    ++ arrow 6 4 1 13
    ++ arrow 4 1 3 15

-- (order 7) "break to the loop's last node and continue to its first, of the innermost do around it": the book's example has 11 nodes and 12 arrows; a jump as a
-- whole body; in two loops, the inner one from node 2 to node 0
unfoldable pub loops : List Case
loops =
    (row (drawn_numbers (drawn Nondeterministic (adding 8) (replicate 84 9))) gives row (0 ∷ 11 ∷ 12 ∷ []))
    ∷ (row (drawn_buffer Nondeterministic (adding 8) (replicate 84 9)) gives row (adding_arrows 1))
    ∷ (row (drawn_buffer Nondeterministic (adding 9) (replicate 84 9)) gives row (adding_arrows 4))
    ∷ (row (drawn_buffer Nondeterministic (jump_only 8) (replicate 21 9)) gives row (arrow 0 2 2 0 ++ arrow 2 1 1 0 ++ arrow 0 1 3 1))
    ∷ (row (drawn_buffer Nondeterministic (jump_only 9) (replicate 21 9)) gives row (arrow 0 2 2 0 ++ arrow 2 0 1 0 ++ arrow 0 1 3 1))
    ∷ (row (drawn_buffer Nondeterministic (jump_in_two 8) (replicate 35 9))
    gives row (arrow 0 2 2 1 ++ arrow 2 3 2 0 ++ arrow 3 0 1 0 ++ arrow 2 0 3 1 ++ arrow 0 1 3 3))
    ∷ (row (drawn_buffer Nondeterministic (jump_in_two 9) (replicate 35 9))
    gives row (arrow 0 2 2 1 ++ arrow 2 3 2 0 ++ arrow 3 2 1 0 ++ arrow 2 0 3 1 ++ arrow 0 1 3 3))
    ∷ []

-- (order 7) "20, such a command outside every do, with the byte where the lowest such entry starts as its place, asked after 11"
unfoldable pub loose_jumps : List Case
loose_jumps =
    -- break; continue, with continue at the lower entry
    (row (validity_numbers (validity (true_with 0 (entry_of 9 0 0 0 ∷ entry_of 8 0 0 0 ∷ entry_of 3 1 0 0 ∷ [])))) gives row (20 ∷ 14 ∷ []))
    -- do true → break od; break: the second one
    ∷ (row (validity_numbers (validity (true_with 1 (entry_of 8 0 0 0 ∷ entry_of 6 0 0 0 ∷ entry_of 5 1 0 0 ∷ entry_of 8 0 0 0 ∷ entry_of 3 2 3 0 ∷ []))))
    gives row (20 ∷ 42 ∷ []))
    -- beside an entry that is not used, and beside a guarded command as the last: 10 and 11 are asked before
    ∷ (row (validity_numbers (validity (true_with 0 (entry_of 0 0 0 0 ∷ entry_of 8 0 0 0 ∷ [])))) gives row (10 ∷ 14 ∷ []))
    ∷ (row (validity_numbers (validity (true_with 1 (entry_of 8 0 0 0 ∷ entry_of 6 0 0 0 ∷ [])))) gives row (11 ∷ 28 ∷ []))
    -- "no operands", and no kind after continue
    ∷ (row (validity_numbers (validity (true_with 0 (entry_of 8 1 0 0 ∷ [])))) gives row (8 ∷ 14 ∷ []))
    ∷ (row (validity_numbers (validity (true_with 0 (entry_of 10 0 0 0 ∷ [])))) gives row (7 ∷ 14 ∷ []))
    -- in the sheet program's input, after 5
    ∷ (row (validity_numbers (input_validity (true_with 0 (entry_of 8 0 0 0 ∷ []) ++ field 5 []))) gives row (20 ∷ 14 ∷ []))
    ∷ (row (validity_numbers (input_validity (true_with 0 (entry_of 8 0 0 0 ∷ []) ++ field 5 [] ++ (0 ∷ [])))) gives row (5 ∷ 24 ∷ []))
    ∷ []

-- the condition of an action in prefix form; any other action has none
unfoldable pub condition_row : Meaning → List ℕ
condition_row nothing = []
condition_row (assigns x a) = []
condition_row (stores x i a) = []
condition_row (condition b) = prefix b

-- the conditions of a graph's arrows in turn, each with 9 after it
unfoldable pub condition_rows : Construction → List ℕ → List ℕ
condition_rows κ s = flat_map (λ e. condition_row (meaning e.action) ++ (9 ∷ [])) (edges κ s)

-- do (0 → skip [] 1 → skip) [] 2 → skip od, its three conditions true, and the same with the right two in brackets
unfoldable pub three_left : List ℕ
three_left =
    true_with 3
    (entry_of 0 0 0 0 ∷ entry_of 6 0 0 0 ∷ entry_of 0 0 0 0 ∷ entry_of 6 1 2 0 ∷ entry_of 7 1 3 0 ∷ entry_of 0 0 0 0 ∷ entry_of 6 2 5 0 ∷ entry_of 7 4 6 0 ∷ entry_of 5 7 0 0 ∷ [])

unfoldable pub three_right : List ℕ
three_right =
    true_with 3
    (entry_of 0 0 0 0 ∷ entry_of 6 0 0 0 ∷ entry_of 0 0 0 0 ∷ entry_of 6 1 2 0 ∷ entry_of 0 0 0 0 ∷ entry_of 6 2 4 0 ∷ entry_of 7 3 5 0 ∷ entry_of 7 1 6 0 ∷ entry_of 5 7 0 0 ∷ [])

-- if 0 → if 1 → skip [] 2 → skip fi [] 3 → if 4 → skip fi fi
unfoldable pub one_in_other : List ℕ
one_in_other =
    true_with 5
    (entry_of 0 0 0 0 ∷ entry_of 6 1 0 0 ∷ entry_of 0 0 0 0 ∷ entry_of 6 2 2 0 ∷ entry_of 7 1 3 0 ∷ entry_of 4 4 0 0
    ∷ entry_of 6 0 5 0 ∷ entry_of 0 0 0 0 ∷ entry_of 6 4 7 0 ∷ entry_of 4 8 0 0 ∷ entry_of 6 3 9 0 ∷ entry_of 7 6 10 0 ∷ entry_of 4 11 0 0
    ∷ [])

-- (order 8) "action kind 4 with the guarded entry marks every guard's arrow, the first of a construct too", on the factorial; nodes, arrow order and numbers are
-- those of the other graph; "that guard and the falsehood of all earlier guards in the same if or do, all evaluated in text order, its own last", in choices that lean
-- either way and in an if inside another; "exits stay"
unfoldable pub selections : List Case
selections =
    (row (drawn_numbers (drawn Deterministic factorial (replicate 37 9))) gives row (0 ∷ 5 ∷ 5 ∷ []))
    ∷ (row (drawn_buffer Deterministic factorial (replicate 37 9))
    gives row (arrow 0 2 1 0 ++ arrow 2 3 4 4 ++ arrow 3 4 1 1 ++ arrow 4 2 1 2 ++ arrow 2 1 3 4 ++ (9 ∷ 9 ∷ [])))
    ∷ (row (drawn_numbers (drawn Deterministic factorial (replicate 34 9))) gives row (13 ∷ 0 ∷ 0 ∷ 0 ∷ []))
    ∷ (row (drawn_buffer Deterministic three_left (replicate 49 9))
    gives row (arrow 0 2 4 1 ++ arrow 2 0 1 0 ++ arrow 0 3 4 3 ++ arrow 3 0 1 2 ++ arrow 0 4 4 6 ++ arrow 4 0 1 5 ++ arrow 0 1 3 7))
    ∷ (row (condition_rows Nondeterministic three_left)
    gives row (0 ∷ 9 ∷ 9 ∷ 1 ∷ 9 ∷ 9 ∷ 2 ∷ 9 ∷ 9 ∷ 4 ∷ 4 ∷ 6 ∷ 0 ∷ 6 ∷ 1 ∷ 6 ∷ 2 ∷ 9 ∷ []))
    ∷ (row (condition_rows Deterministic three_left)
    gives row
    (0 ∷ 9 ∷ 9 ∷ 4 ∷ 6 ∷ 0 ∷ 1 ∷ 9 ∷ 9 ∷ 4 ∷ 6 ∷ 0 ∷ 4 ∷ 6 ∷ 1 ∷ 2 ∷ 9 ∷ 9 ∷ 4 ∷ 4 ∷ 6 ∷ 0 ∷ 6 ∷ 1 ∷ 6 ∷ 2 ∷ 9 ∷ []))
    ∷ (row (condition_rows Deterministic three_right)
    gives row
    (0 ∷ 9 ∷ 9 ∷ 4 ∷ 6 ∷ 0 ∷ 1 ∷ 9 ∷ 9 ∷ 4 ∷ 6 ∷ 0 ∷ 4 ∷ 6 ∷ 1 ∷ 2 ∷ 9 ∷ 9 ∷ 4 ∷ 6 ∷ 0 ∷ 4 ∷ 6 ∷ 1 ∷ 6 ∷ 2 ∷ 9 ∷ []))
    ∷ (row (condition_rows Deterministic one_in_other)
    gives row (0 ∷ 9 ∷ 1 ∷ 9 ∷ 9 ∷ 4 ∷ 6 ∷ 1 ∷ 2 ∷ 9 ∷ 9 ∷ 4 ∷ 6 ∷ 0 ∷ 3 ∷ 9 ∷ 4 ∷ 9 ∷ 9 ∷ []))
    ∷ []

unfoldable pub cases : List Case
cases = graphs ++ exits ++ limits ++ inputs ++ loops ++ loose_jumps ++ selections
