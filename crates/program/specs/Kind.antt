-- "Every entry is told apart by its kind byte" (document 01, "The script file"): what its operands are, and what the entry is.
use Rattle.std.specs.Prelude.{ℕ, ◌+◌, ◌*◌, Bool, ◌&&◌, ◌||◌, List, [], ◌∷◌, leb, pos, get_or}
use Rattle.signs.specs.declared.Comparison.TheVariants.{Equal, Greater, AtLeast}
use Rattle.signs.specs.declared.Operator.TheVariants.{Add, Sub, Mul, Div, Pow}
use Rattle.program.specs.File.{signed32}
use Rattle.program.specs.declared.ArithNode.{ArithNode}
use Rattle.program.specs.declared.ArithNode.TheVariants.{Number, Variable as VariableNode, Element, Operator}
use Rattle.program.specs.declared.BooleanNode.{BooleanNode}
use Rattle.program.specs.declared.BooleanNode.TheVariants.{True, Comparison, Both, AndThen, Not}
use Rattle.program.specs.declared.CommandNode.{CommandNode}
use Rattle.program.specs.declared.CommandNode.TheVariants.{Skip, Assign, Store, Sequence, Conditional, Iteration, Guarded as GuardedNode, Choice, Jump as JumpNode}
use Rattle.program.specs.declared.Entry.{Entry}
use Rattle.program.specs.declared.Jump.TheVariants.{Break, Continue}
use Rattle.program.specs.declared.Sort.{Sort}
use Rattle.program.specs.declared.Sort.TheVariants.{Expression, Condition, Command, Guarded}
use Rattle.program.specs.declared.Table.{Table}
use Rattle.program.specs.declared.Table.TheVariants.{Arithmetic, Boolean, Commands}

-- what an operand is: unused, half of a number, the name of a variable or of an array, or a reference to an entry of a sort
pub data Role : Type 0 where
  Unused : Role
  Half : Role
  Variable : Role
  Array : Role
  To : Sort → Role

pub record Roles : Type 0 where
  pub p : Role
  pub q : Role
  pub r : Role

-- what a kind says of its entry's operands: nothing, where it is unknown
pub data Shape : Type 0 where
  Unknown : Shape
  Known : Roles → Shape

-- the roles of P, Q and R
abbrev pub with : Role → Role → Role → Shape
with a b c = Known (record { p = a; q = b; r = c })

-- the kinds of a table, by their numbers. "Operands not mentioned are zero": those are unused
unfoldable pub kinds : Table → List Shape
kinds Arithmetic =
    -- 0 number (P and Q together)
    with Half Half Unused
    -- 1 variable P
    ∷ with Variable Unused Unused
    -- 2 element of array P at index Q
    ∷ with Array (To Expression) Unused
    -- 3 to 7: P + Q, P − Q, P × Q, P / Q, P ^ Q
    ∷ with (To Expression) (To Expression) Unused
    ∷ with (To Expression) (To Expression) Unused
    ∷ with (To Expression) (To Expression) Unused
    ∷ with (To Expression) (To Expression) Unused
    ∷ with (To Expression) (To Expression) Unused
    ∷ []
kinds Boolean =
    -- 0 true
    with Unused Unused Unused
    -- 1 P = Q; 2 P > Q; 3 P ≥ Q
    ∷ with (To Expression) (To Expression) Unused
    ∷ with (To Expression) (To Expression) Unused
    ∷ with (To Expression) (To Expression) Unused
    -- 4 P ∧ Q; 5 P && Q
    ∷ with (To Condition) (To Condition) Unused
    ∷ with (To Condition) (To Condition) Unused
    -- 6 ¬P
    ∷ with (To Condition) Unused Unused
    ∷ []
kinds Commands =
    -- 0 skip
    with Unused Unused Unused
    -- 1 variable P := Q
    ∷ with Variable (To Expression) Unused
    -- 2 array P at Q := R
    ∷ with Array (To Expression) (To Expression)
    -- 3 P ; Q
    ∷ with (To Command) (To Command) Unused
    -- 4 if P fi; 5 do P od
    ∷ with (To Guarded) Unused Unused
    ∷ with (To Guarded) Unused Unused
    -- 6 guarded P → Q
    ∷ with (To Condition) (To Command) Unused
    -- 7 choice P [] Q
    ∷ with (To Guarded) (To Guarded) Unused
    -- 8 break; 9 continue (document 02, order 7)
    ∷ with Unused Unused Unused
    ∷ with Unused Unused Unused
    ∷ []

-- the shape of an entry of a table, by its kind
unfoldable pub shape : Table → ℕ → Shape
shape t kind = get_or (kinds t) kind Unknown

-- the table that a sort's entries stand in
unfoldable pub table_of : Sort → Table
table_of Expression = Arithmetic
table_of Condition = Boolean
table_of Command = Commands
table_of Guarded = Commands

-- "Kinds 0 to 5 of tag 4 are commands, 6 and 7 guarded commands"; order 7: "command kind 8 is break, kind 9 continue"
unfoldable pub is_command : ℕ → Bool
is_command kind = leb kind 5 || (leb 8 kind && leb kind 9)

unfoldable pub is_guarded : ℕ → Bool
is_guarded kind = leb 6 kind && leb kind 7

-- what an entry is, by its kind, with its operands as references; an unknown kind is a leaf: the number 0, true, or skip
-- "0 number (P and Q together, 32-bit two's complement); 1 variable P; 2 element of array P at index Q; 3 to 7 are P + Q, P − Q, P × Q, P / Q, P ^ Q"
unfoldable pub arith_kind : Entry → ArithNode
arith_kind e =
    get_or
    (Number (signed32 (e.p * 65536 + e.q))
    ∷ VariableNode e.p
    ∷ Element e.p e.q
    ∷ Operator Add e.p e.q
    ∷ Operator Sub e.p e.q
    ∷ Operator Mul e.p e.q
    ∷ Operator Div e.p e.q
    ∷ Operator Pow e.p e.q
    ∷ [])
    e.kind
    (Number (pos 0))

-- "0 true; 1 P = Q; 2 P > Q; 3 P ≥ Q; 4 P ∧ Q; 5 P && Q; 6 ¬P"
unfoldable pub boolean_kind : Entry → BooleanNode
boolean_kind e =
    get_or
    (True
    ∷ Comparison Equal e.p e.q
    ∷ Comparison Greater e.p e.q
    ∷ Comparison AtLeast e.p e.q
    ∷ Both e.p e.q
    ∷ AndThen e.p e.q
    ∷ Not e.p
    ∷ [])
    e.kind
    True

-- "0 skip; 1 variable P := Q; 2 array P at Q := R; 3 P ; Q; 4 if P fi; 5 do P od; 6 guarded P → Q; 7 choice P [] Q"; order 7: "8 is break, kind 9 continue"
unfoldable pub command_kind : Entry → CommandNode
command_kind e =
    get_or
    (Skip
    ∷ Assign e.p e.q
    ∷ Store e.p e.q e.r
    ∷ Sequence e.p e.q
    ∷ Conditional e.p
    ∷ Iteration e.p
    ∷ GuardedNode e.p e.q
    ∷ Choice e.p e.q
    ∷ JumpNode Break
    ∷ JumpNode Continue
    ∷ [])
    e.kind
    Skip
