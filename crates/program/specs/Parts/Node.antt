-- What an entry is as a part of another one, and the tree that this makes.
use Rattle.std.specs.Prelude.{ℕ, cond, ltb, pos}
use Rattle.program.specs.Kind.{arith_kind, boolean_kind, command_kind}
use Rattle.program.specs.Syntax.{Arith, Boolean, Command}
use Rattle.program.specs.Tree.{Entries, arith_made, arith_trees, boolean_made, boolean_trees, command_made, command_trees}
use Rattle.program.specs.declared.ArithNode.{ArithNode}
use Rattle.program.specs.declared.ArithNode.TheVariants.{Number}
use Rattle.program.specs.declared.BooleanNode.{BooleanNode}
use Rattle.program.specs.declared.BooleanNode.TheVariants.{True}
use Rattle.program.specs.declared.CommandNode.{CommandNode}
use Rattle.program.specs.declared.CommandNode.TheVariants.{Skip}
use Rattle.program.specs.declared.Table.TheVariants.{Arithmetic, Boolean as Booleans, Commands}

-- entry n as a part of entry bound: a reference that is not lower is a leaf
unfoldable pub arith_form : Entries → ℕ → ℕ → ArithNode
arith_form es bound n = cond (ltb n bound) (arith_kind (es Arithmetic n)) (Number (pos 0))

-- the tree that this makes at entry n
abbrev pub arith_tree : Entries → ℕ → ArithNode → Arith
arith_tree es n x = arith_made (arith_trees es n) n x

unfoldable pub boolean_form : Entries → ℕ → ℕ → BooleanNode
boolean_form es bound n = cond (ltb n bound) (boolean_kind (es Booleans n)) True

abbrev pub boolean_tree : Entries → ℕ → BooleanNode → Boolean
boolean_tree es n x = boolean_made es (boolean_trees es n) n x

unfoldable pub command_form : Entries → ℕ → ℕ → CommandNode
command_form es bound n = cond (ltb n bound) (command_kind (es Commands n)) Skip

abbrev pub command_tree : Entries → ℕ → CommandNode → Command
command_tree es n x = command_made es (command_trees es n) n x
