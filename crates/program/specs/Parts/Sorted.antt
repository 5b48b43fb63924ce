-- What questions 8 and 9 say of trees: names that are there and of the right sort, and references that point as they must.
-- The condition of an exit has the first and not the second: its entries are those of commands.
use Rattle.std.specs.Prelude.{ℕ, ◌+◌, Bool, true, false, not, cond, ◌&&◌, List, [], ◌∷◌, eqb, ltb, get_or}
use Rattle.signs.specs.Lists.{all_of}
use Rattle.program.specs.File.{is_variable, is_array}
use Rattle.program.specs.Graph.{Action, perform, test, leave, select, done, selected}
use Rattle.program.specs.Meaning.{Meaning, nothing, assigns, stores, condition}
use Rattle.program.specs.Syntax.{Arith, number, variable, element, operator, Boolean, truth, comparison, conjunction, short_circuit, negation, boolean_entry, Command, skip, assign, store, sequence, conditional, iteration, guarded, choice, jump, command_entry}
use Rattle.program.specs.Tree.{Entries, boolean_at, command_at}
use Rattle.program.specs.declared.Table.{Table}
use Rattle.program.specs.declared.Table.TheVariants.{Boolean as Booleans, Commands}

-- the entry of an arithmetic tree
unfoldable pub arith_entry : Arith → ℕ
arith_entry (number n z) = n
arith_entry (variable n x) = n
arith_entry (element n x i) = n
arith_entry (operator n o a b) = n

-- "is a named name there and of the right sort?": every name of an arithmetic expression
unfoldable pub arith_named : List ℕ → Arith → Bool
arith_named ns (number n z) = true
arith_named ns (variable n x) = is_variable ns x
arith_named ns (element n x i) = is_array ns x && arith_named ns i
arith_named ns (operator n o a b) = arith_named ns a && arith_named ns b

-- of a boolean one
unfoldable pub boolean_named : List ℕ → Boolean → Bool
boolean_named ns (truth n) = true
boolean_named ns (comparison n c a b) = arith_named ns a && arith_named ns b
boolean_named ns (conjunction n a b) = boolean_named ns a && boolean_named ns b
boolean_named ns (short_circuit n a b) = boolean_named ns a && boolean_named ns b
boolean_named ns (negation n a) = boolean_named ns a

-- of a command or guarded command
unfoldable pub command_named : List ℕ → Command → Bool
command_named ns (skip n) = true
command_named ns (assign n x a) = is_variable ns x && arith_named ns a
command_named ns (store n x i a) = is_array ns x && (arith_named ns i && arith_named ns a)
command_named ns (sequence n c d) = command_named ns c && command_named ns d
command_named ns (conditional n c) = command_named ns c
command_named ns (iteration n c) = command_named ns c
command_named ns (guarded n b c) = boolean_named ns b && command_named ns c
command_named ns (choice n c d) = command_named ns c && command_named ns d
command_named ns (jump n j) = true

-- and of an action: the names of an exit and of a guard after others are those of its condition
unfoldable pub action_named : List ℕ → Action → Bool
action_named ns (perform c) = command_named ns c
action_named ns (test b) = boolean_named ns b
action_named ns (leave c) = boolean_named ns (done c)
action_named ns (select k earlier b) = boolean_named ns (selected earlier b)

-- and of what an action means
unfoldable pub meaning_named : List ℕ → Meaning → Bool
meaning_named ns nothing = true
meaning_named ns (assigns x a) = is_variable ns x && arith_named ns a
meaning_named ns (stores x i a) = is_array ns x && (arith_named ns i && arith_named ns a)
meaning_named ns (condition b) = boolean_named ns b

-- "A reference inside one table goes to a lower entry": every reference of an arithmetic expression
unfoldable pub arith_points : Arith → Bool
arith_points (number n z) = true
arith_points (variable n x) = true
arith_points (element n x i) = ltb (arith_entry i) n && arith_points i
arith_points (operator n o a b) = (ltb (arith_entry a) n && arith_points a) && (ltb (arith_entry b) n && arith_points b)

-- of a boolean one
unfoldable pub boolean_points : Boolean → Bool
boolean_points (truth n) = true
boolean_points (comparison n c a b) = arith_points a && arith_points b
boolean_points (conjunction n a b) = (ltb (boolean_entry a) n && boolean_points a) && (ltb (boolean_entry b) n && boolean_points b)
boolean_points (short_circuit n a b) = (ltb (boolean_entry a) n && boolean_points a) && (ltb (boolean_entry b) n && boolean_points b)
boolean_points (negation n a) = ltb (boolean_entry a) n && boolean_points a

-- "6 and 7 guarded commands": whether a tree is a guarded command, b → C or GC [] GC
unfoldable pub is_guarded_tree : Command → Bool
is_guarded_tree (skip n) = false
is_guarded_tree (assign n x a) = false
is_guarded_tree (store n x i a) = false
is_guarded_tree (sequence n c d) = false
is_guarded_tree (conditional n c) = false
is_guarded_tree (iteration n c) = false
is_guarded_tree (guarded n b c) = true
is_guarded_tree (choice n c d) = true
is_guarded_tree (jump n j) = false

-- "each operand names the sort its rule needs": a part of a command at entry n is lower, and a command or a guarded command
abbrev pub as_command : ℕ → Command → Bool
as_command n c = ltb (command_entry c) n && not (is_guarded_tree c)

abbrev pub as_guarded : ℕ → Command → Bool
as_guarded n c = ltb (command_entry c) n && is_guarded_tree c

-- every reference of a command or guarded command, its expressions' too
unfoldable pub command_points : Command → Bool
command_points (skip n) = true
command_points (assign n x a) = arith_points a
command_points (store n x i a) = arith_points i && arith_points a
command_points (sequence n c d) = (as_command n c && command_points c) && (as_command n d && command_points d)
command_points (conditional n c) = as_guarded n c && command_points c
command_points (iteration n c) = as_guarded n c && command_points c
command_points (guarded n b c) = boolean_points b && (as_command n c && command_points c)
command_points (choice n c d) = (as_guarded n c && command_points c) && (as_guarded n d && command_points d)
command_points (jump n j) = true

-- and of an action: what a do is left by is a guarded command
unfoldable pub action_points : Action → Bool
action_points (perform c) = command_points c
action_points (test b) = boolean_points b
action_points (leave c) = is_guarded_tree c && command_points c
action_points (select k earlier b) = all_of boolean_points earlier && boolean_points b

-- the table of an action's entry, by its kind
unfoldable pub action_table : ℕ → Table
action_table kind = cond (eqb kind 2) Booleans Commands

-- the guard of a guarded command as an action; any other command's is a skip
unfoldable pub guard_test : Command → Action
guard_test (skip n) = perform (skip n)
guard_test (assign n x a) = perform (skip n)
guard_test (store n x i a) = perform (skip n)
guard_test (sequence n c d) = perform (skip n)
guard_test (conditional n c) = perform (skip n)
guard_test (iteration n c) = perform (skip n)
guard_test (guarded n b c) = test b
guard_test (choice n c d) = perform (skip n)
guard_test (jump n j) = perform (skip n)

-- the action of a kind and an entry, of kind 4 without the earlier guards; any other kind is a skip
unfoldable pub action_of : Entries → ℕ → ℕ → Action
action_of es kind n =
    get_or
    (perform (skip n) ∷ perform (command_at es n) ∷ test (boolean_at es n) ∷ leave (command_at es n) ∷ guard_test (command_at es n) ∷ [])
    kind
    (perform (skip n))

-- the number of commands and guarded commands in a tree
unfoldable pub command_size : Command → ℕ
command_size (skip n) = 1
command_size (assign n x a) = 1
command_size (store n x i a) = 1
command_size (sequence n c d) = 1 + command_size c + command_size d
command_size (conditional n c) = 1 + command_size c
command_size (iteration n c) = 1 + command_size c
command_size (guarded n b c) = 1 + command_size c
command_size (choice n c d) = 1 + command_size c + command_size d
command_size (jump n j) = 1
