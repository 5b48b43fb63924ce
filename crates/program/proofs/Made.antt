-- How the command trees of a well-formed program are made: each at its entry, of parts that are lower and of the sort that their rule needs.
use Rattle.std.specs.Prelude.{Ok}
use mathlib.Core.Path.{◌≡◌, refl}
use mathlib.Core.Bool.{Bool, true, false, false≢true}
use mathlib.Core.List.{List}
use Prim.Native.Nat.{ℕ, ◌<◌}
use native.Mathlib.Decide.{dec_le}
use native.Mathlib.Omega.{arith}
use borrow.Author.Tests.{le-leb, lt-leb}
use Rattle.program.specs.File.{sizes, entry_count, entry, is_variable, is_array}
use Rattle.program.specs.Kind.{kinds, shape, table_of, is_command, is_guarded, command_kind}
use Rattle.program.specs.Questions.{same_table, limit, of_sort, validity}
use Rattle.program.specs.Syntax.{Arith, Command, skip, assign, store, sequence, conditional, iteration, guarded, choice, jump}
use Rattle.program.specs.Tree.{arith_at, boolean_at, command_below, command_node, command_trees, command_at, command_made}
use Rattle.program.specs.declared.Jump.{Jump}
use Rattle.program.specs.declared.Sort.TheVariants.{Expression, Command as Commanding, Guarded}
use Rattle.program.specs.declared.Table.TheVariants.{Boolean as Booleans, Commands}
use Rattle.program.proofs.Expressions.{ArithSorted, arith_sorted}
use Rattle.program.proofs.Induction.{from_below, by_command}
use Rattle.program.proofs.Operands.{Reference, Operands, operands_fit}
use Rattle.program.proofs.Trees.{command_below_lem}

-- an entry of the commands that exists, with its tree
pub record AtEntry (s : List ℕ) (n : ℕ) (c : Command) : Type 0 where
  pub exists : n < entry_count s Commands
  pub tree : c ≡ command_at (entry s) n

-- how the trees of a well-formed program's commands are made: whether it is a guarded command, the entry and the tree
pub data Made (s : List ℕ) : Bool → ℕ → Command → Type 0 where
  make_skip : {n : ℕ} → AtEntry s n (skip n) → Made s false n (skip n)
  make_assign : {n x : ℕ} {a : Arith} → AtEntry s n (assign n x a) → is_variable (sizes s) x ≡ true → ArithSorted (sizes s) a → Made s false n (assign n x a)
  make_store : {n x : ℕ} {i a : Arith} → AtEntry s n (store n x i a) → is_array (sizes s) x ≡ true → ArithSorted (sizes s) i → ArithSorted (sizes s) a → Made s false n (store n x i a)
  make_sequence : {n p q : ℕ} {c d : Command} → AtEntry s n (sequence n c d) → p < n → q < n → Made s false p c → Made s false q d → Made s false n (sequence n c d)
  make_conditional : {n p : ℕ} {c : Command} → AtEntry s n (conditional n c) → p < n → Made s true p c → Made s false n (conditional n c)
  make_iteration : {n p : ℕ} {c : Command} → AtEntry s n (iteration n c) → p < n → Made s true p c → Made s false n (iteration n c)
  make_guarded : {n g p : ℕ} {c : Command} → AtEntry s n (guarded n (boolean_at (entry s) g) c) → g < entry_count s Booleans → p < n → Made s false p c → Made s true n (guarded n (boolean_at (entry s) g) c)
  make_choice : {n p q : ℕ} {c d : Command} → AtEntry s n (choice n c d) → p < n → q < n → Made s true p c → Made s true q d → Made s true n (choice n c d)
  make_jump : {n : ℕ} {j : Jump} → AtEntry s n (jump n j) → Made s false n (jump n j)

-- a kind of command is no kind of guarded command
pub not_guarded : (k : ℕ) → is_command k ≡ true → is_guarded k ≡ false
unfolding is_command is_guarded
not_guarded k e =
    elim (dec_le 8 k) [
      | yes h ↦ rw (le-leb 6 k (omega arith), lt-leb k 7 (omega arith))
      | no h ↦
          elim (dec_le k 5) [
            | yes l ↦ rw (lt-leb 6 k (omega arith))
            | no l ↦ absurd (false≢true (rw (lt-leb k 5 (omega arith), lt-leb 8 k (omega arith)) at e))
          ]
    ]

-- the entry with its tree
here : {s : List ℕ} {n : ℕ} {c : Command} → n < entry_count s Commands → c ≡ command_at (entry s) n → AtEntry s n c
here h e = record { exists = h; tree = e }

-- command entry n, where those below are made
module _ (s : List ℕ) (fit : validity s ≡ Ok tt) (n : ℕ) (exists : n < entry_count s Commands) (below : (m : ℕ) → m < n → Made s (is_guarded (entry s Commands m).kind) m (command_at (entry s) m)) where
  command_part : (x : ℕ) → Reference s Commands n Commanding x → Made s false x (command_below (command_trees (entry s) n) x)
  unfolding limit same_table table_of of_sort
  command_part x h = rw (command_below_lem (entry s) n x h.lower) (rw (not_guarded _ h.sorted) at (below x h.lower))

  guarded_part : (x : ℕ) → Reference s Commands n Guarded x → Made s true x (command_below (command_trees (entry s) n) x)
  unfolding limit same_table table_of of_sort
  guarded_part x h = rw (command_below_lem (entry s) n x h.lower) (rw h.sorted at (below x h.lower))

  side : (x : ℕ) → Reference s Commands n Expression x → ArithSorted (sizes s) (arith_at (entry s) x)
  unfolding limit same_table table_of
  side x h = arith_sorted s fit x h.lower

  command_node_lem : (k p q r : ℕ) → Operands s Commands n (shape Commands k) (record { kind = k; p = p; q = q; r = r })
      → command_node (entry s) (command_trees (entry s) n) n (record { kind = k; p = p; q = q; r = r }) ≡ command_at (entry s) n
      → Made s (is_guarded k) n (command_node (entry s) (command_trees (entry s) n) n (record { kind = k; p = p; q = q; r = r }))
  unfolding shape kinds command_kind command_made is_guarded limit same_table table_of
  command_node_lem =
      by_command _
      (λ p q r h e. make_skip (here exists e))
      (λ p q r h e. make_assign (here exists e) h.0 (side q h.1))
      (λ p q r h e. make_store (here exists e) h.0 (side q h.1) (side r h.2))
      (λ p q r h e. make_sequence (here exists e) h.0.lower h.1.lower (command_part p h.0) (command_part q h.1))
      (λ p q r h e. make_conditional (here exists e) h.0.lower (guarded_part p h.0))
      (λ p q r h e. make_iteration (here exists e) h.0.lower (guarded_part p h.0))
      (λ p q r h e. make_guarded (here exists e) h.0.lower h.1.lower (command_part q h.1))
      (λ p q r h e. make_choice (here exists e) h.0.lower h.1.lower (guarded_part p h.0) (guarded_part q h.1))
      (λ p q r h e. make_jump (here exists e))
      (λ p q r h e. make_jump (here exists e))
      (λ k p q r h e. absurd h)

pub made : (s : List ℕ) → validity s ≡ Ok tt → (n : ℕ) → n < entry_count s Commands → Made s (is_guarded (entry s Commands n).kind) n (command_at (entry s) n)
unfolding command_at
made s fit =
    from_below _ (λ n below h. command_node_lem s fit n h (λ m l. below m l (omega arith)) _ _ _ _ (operands_fit s fit Commands n h) refl)
