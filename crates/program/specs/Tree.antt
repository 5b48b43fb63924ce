-- The tree at an entry, by what each table has at each number (document 01, "The script file"). The trees of the entries below are at hand; any
-- other reference, and an unknown kind, makes a leaf: the number 0, true, or skip.
use Rattle.std.specs.Prelude.{ℕ, zero, suc, ◌-◌, List, [], ◌∷◌, ◌++◌, pos, get_or}
use Rattle.program.specs.File.{entry_count, entry}
use Rattle.program.specs.Kind.{arith_kind, boolean_kind, command_kind}
use Rattle.program.specs.declared.ArithNode.{ArithNode}
use Rattle.program.specs.declared.ArithNode.TheVariants.{Number, Variable, Element, Operator}
use Rattle.program.specs.declared.BooleanNode.{BooleanNode}
use Rattle.program.specs.declared.BooleanNode.TheVariants.{True, Comparison, Both, AndThen, Not}
use Rattle.program.specs.declared.CommandNode.{CommandNode}
use Rattle.program.specs.declared.CommandNode.TheVariants.{Skip, Assign, Store, Sequence, Conditional, Iteration, Guarded, Choice, Jump}
use Rattle.program.specs.declared.Entry.{Entry}
use Rattle.program.specs.declared.Table.{Table}
use Rattle.program.specs.declared.Table.TheVariants.{Arithmetic, Boolean as Booleans, Commands}
use Rattle.program.specs.Syntax.{Arith, number, variable, element, operator, Boolean, truth, comparison, conjunction, short_circuit, negation, Command, skip, assign, store, sequence, conditional, iteration, guarded, choice, jump}

-- what stands at each number of each table: `entry s` for a file s
abbrev pub Entries : Type 0
Entries = Table → ℕ → Entry

-- the tree that a reference r leads to, out of the trees of the entries below
unfoldable pub arith_below : List Arith → ℕ → Arith
arith_below below r = get_or below r (number r (pos 0))

unfoldable pub boolean_below : List Boolean → ℕ → Boolean
boolean_below below r = get_or below r (truth r)

unfoldable pub command_below : List Command → ℕ → Command
command_below below r = get_or below r (skip r)

-- the tree of what entry n is, out of the trees of the entries below
unfoldable pub arith_made : List Arith → ℕ → ArithNode → Arith
arith_made below n (Number z) = number n z
arith_made below n (Variable x) = variable n x
arith_made below n (Element x i) = element n x (arith_below below i)
arith_made below n (Operator o p q) = operator n o (arith_below below p) (arith_below below q)

abbrev pub arith_node : List Arith → ℕ → Entry → Arith
arith_node below n e = arith_made below n (arith_kind e)

-- the trees of the first n arithmetic entries, and the tree at entry n
unfoldable pub arith_trees : Entries → ℕ → List Arith
arith_trees es zero = []
arith_trees es (suc n) = let below = arith_trees es n in below ++ (arith_node below n (es Arithmetic n) ∷ [])

unfoldable pub arith_at : Entries → ℕ → Arith
arith_at es n = arith_node (arith_trees es n) n (es Arithmetic n)

unfoldable pub boolean_made : Entries → List Boolean → ℕ → BooleanNode → Boolean
boolean_made es below n True = truth n
boolean_made es below n (Comparison o p q) = comparison n o (arith_at es p) (arith_at es q)
boolean_made es below n (Both p q) = conjunction n (boolean_below below p) (boolean_below below q)
boolean_made es below n (AndThen p q) = short_circuit n (boolean_below below p) (boolean_below below q)
boolean_made es below n (Not p) = negation n (boolean_below below p)

abbrev pub boolean_node : Entries → List Boolean → ℕ → Entry → Boolean
boolean_node es below n e = boolean_made es below n (boolean_kind e)

unfoldable pub boolean_trees : Entries → ℕ → List Boolean
boolean_trees es zero = []
boolean_trees es (suc n) = let below = boolean_trees es n in below ++ (boolean_node es below n (es Booleans n) ∷ [])

unfoldable pub boolean_at : Entries → ℕ → Boolean
boolean_at es n = boolean_node es (boolean_trees es n) n (es Booleans n)

unfoldable pub command_made : Entries → List Command → ℕ → CommandNode → Command
command_made es below n Skip = skip n
command_made es below n (Assign x a) = assign n x (arith_at es a)
command_made es below n (Store x i a) = store n x (arith_at es i) (arith_at es a)
command_made es below n (Sequence p q) = sequence n (command_below below p) (command_below below q)
command_made es below n (Conditional p) = conditional n (command_below below p)
command_made es below n (Iteration p) = iteration n (command_below below p)
command_made es below n (Guarded g p) = guarded n (boolean_at es g) (command_below below p)
command_made es below n (Choice p q) = choice n (command_below below p) (command_below below q)
command_made es below n (Jump j) = jump n j

abbrev pub command_node : Entries → List Command → ℕ → Entry → Command
command_node es below n e = command_made es below n (command_kind e)

unfoldable pub command_trees : Entries → ℕ → List Command
command_trees es zero = []
command_trees es (suc n) = let below = command_trees es n in below ++ (command_node es below n (es Commands n) ∷ [])

unfoldable pub command_at : Entries → ℕ → Command
command_at es n = command_node es (command_trees es n) n (es Commands n)

-- "The last is the script."
unfoldable pub last_command : List ℕ → ℕ
last_command s = entry_count s Commands - 1

unfoldable pub script : List ℕ → Command
script s = command_at (entry s) (last_command s)
