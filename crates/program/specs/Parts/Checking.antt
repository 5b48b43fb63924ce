-- What the checks of an entry's operands promise each other: questions 8 and 9 of an operand are answered as yes or its flaw, and its use is counted
-- on the way. No public contract cites these.
use Rattle.std.specs.Prelude.{ℕ, Bool, true, false, not, List, [], ◌∷◌, ◌≡◌, Result, Ok, Err}
use Rattle.std.specs.List.{list_any}
use Rattle.program.specs.Asking.{in_turn, Validity}
use Rattle.program.specs.Parts.Counting.{Counted}
use Rattle.program.specs.File.{entry_count, entry_offset, entry}
use Rattle.program.specs.Kind.{Role}
use Rattle.program.specs.Parts.Jumping.{may_jump, Noted, NotedTo}
use Rattle.program.specs.Questions.{named, points, entry_validity, table_validity, refers_to, entry_uses, table_uses, uses_validity}
use Rattle.program.specs.declared.Entry.{Entry}
use Rattle.program.specs.declared.validation.operands.Flaw.{Flaw}
use Rattle.program.specs.declared.validation.operands.Flaw.TheVariants.{Unnamed, Astray}
use Rattle.program.specs.declared.Table.{Table}
use Rattle.program.specs.declared.Table.TheVariants.{Arithmetic, Boolean, Commands}

-- the answer to questions 8 and 9 of an operand: yes to both, or what is wrong with it
abbrev pub Answer : Type 0
Answer = Result (Unit {0}) Flaw

-- whether an answer is this flaw
unfoldable pub has : Flaw → Answer → Bool
has f (Ok _) = false
has Unnamed (Err Unnamed) = true
has Unnamed (Err Astray) = false
has Astray (Err Unnamed) = false
has Astray (Err Astray) = true

-- whether one of three operands has this flaw
unfoldable pub any_has : Flaw → Answer → Answer → Answer → Bool
any_has f p q r = list_any (has f) (p ∷ q ∷ r ∷ [])

-- the answer r to questions 8 and 9 of an operand x of entry n of table t; where both are answered yes, the operand is counted
pub record OperandChecked (s : List ℕ) (t : Table) (n : ℕ) (role : Role) (x : ℕ) (before after : List ℕ) (r : Answer) : Type 0 where
  pub eight : has Unnamed r ≡ not (named s role x)
  pub nine : has Astray r ≡ not (points s t n role x)
  pub counted : named s role x ≡ true → points s t n role x ≡ true → Counted before after (λ u k. refers_to u k role x)

-- e is entry n of table t and stands at `at`
pub record Standing (s : List ℕ) (t : Table) (n : ℕ) (e : Entry) (at : ℕ) : Type 0 where
  pub read : e ≡ entry s t n
  pub place : at ≡ entry_offset s t n

-- the answer v to questions 7 to 9 of entry n of table t; where they are answered yes, its operands are counted
pub record EntryChecked (s : List ℕ) (t : Table) (n : ℕ) (before after : List ℕ) (v : Validity) : Type 0 where
  pub valid : v ≡ entry_validity s t n
  pub counted : v ≡ Ok tt → Counted before after (λ u k. entry_uses s u k t n)

-- and whether it may be a jump is noted, for question 20
pub record EntryNoted (s : List ℕ) (t : Table) (n : ℕ) (before after : List ℕ) (old new : Bool) (v : Validity) : Type 0 where
  pub checked : EntryChecked s t n before after v
  pub noted : Noted (may_jump s t n) old new

-- the same of all entries of a table
pub record TableChecked (s : List ℕ) (t : Table) (before after : List ℕ) (v : Validity) : Type 0 where
  pub valid : v ≡ table_validity s t
  pub counted : v ≡ Ok tt → Counted before after (λ u k. table_uses s u k t (entry_count s t))

-- with the note for question 20
pub record TableNoted (s : List ℕ) (t : Table) (before after : List ℕ) (old new : Bool) (v : Validity) : Type 0 where
  pub checked : TableChecked s t before after v
  pub noted : v ≡ Ok tt → NotedTo s t (entry_count s t) old new

-- the answer v to questions 7 to 11; where they are answered yes, it is noted whether a command may be a jump
pub record EntriesNoted (s : List ℕ) (old new : Bool) (v : Validity) : Type 0 where
  pub valid : v ≡ in_turn (table_validity s Arithmetic ∷ table_validity s Boolean ∷ table_validity s Commands ∷ uses_validity s ∷ [])
  pub noted : v ≡ Ok tt → NotedTo s Commands (entry_count s Commands) old new
