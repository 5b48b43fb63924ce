-- The command trees of a well-formed program are well sorted: every name is there and of the right sort, every reference lower and of the sort its
-- rule needs.
use Rattle.std.specs.Prelude.{Ok}
use mathlib.Core.Path.{◌≡◌, refl, ◌∙◌, ap}
use mathlib.Core.Bool.{Bool, true, false, not}
use mathlib.Core.List.{List}
use Prim.Native.Nat.{ℕ, ◌<◌}
use native.Mathlib.Omega.{arith}
use lib.Dec.{ltb}
use borrow.Author.Tests.{lt-ltb}
use Rattle.program.specs.File.{sizes, entry_count, entry}
use Rattle.program.specs.Graph.{done}
use Rattle.program.specs.Kind.{is_guarded}
use Rattle.program.specs.Questions.{validity}
use Rattle.program.specs.Parts.Sorted.{command_named, boolean_named, is_guarded_tree, command_points}
use Rattle.program.specs.Syntax.{Command, skip, assign, store, sequence, conditional, iteration, guarded, choice, jump, command_entry}
use Rattle.program.specs.Tree.{command_at, last_command, script}
use Rattle.program.specs.declared.Table.TheVariants.{Commands}
use Rattle.program.proofs.Expressions.{boolean_sorted}
use Rattle.program.proofs.Fit.{one_last, last_fit}
use Rattle.program.proofs.Made.{AtEntry, Made, make_skip, make_assign, make_store, make_sequence, make_conditional, make_iteration, make_guarded, make_choice, make_jump, not_guarded, made}
use Rattle.program.proofs.Tests.{two, both}
use Rattle.program.proofs.Trees.{command_entry_lem}

-- a tree that is made is the tree at its entry, with that entry's number, and is guarded or not as its kind says
pub made_at : {s : List ℕ} {g : Bool} {n : ℕ} {c : Command} → Made s g n c → AtEntry s n c
made_at (make_skip e) = e
made_at (make_assign e x a) = e
made_at (make_store e x i a) = e
made_at (make_sequence e l m c d) = e
made_at (make_conditional e l c) = e
made_at (make_iteration e l c) = e
made_at (make_guarded e b l c) = e
made_at (make_choice e l m c d) = e
made_at (make_jump e) = e

pub made_entry : {s : List ℕ} {g : Bool} {n : ℕ} {c : Command} → Made s g n c → command_entry c ≡ n
made_entry {s} {n = n} m = ap command_entry (made_at m).tree ∙ command_entry_lem (entry s) n

pub made_guarded : {s : List ℕ} {g : Bool} {n : ℕ} {c : Command} → Made s g n c → is_guarded_tree c ≡ g
unfolding is_guarded_tree
made_guarded (make_skip e) = refl
made_guarded (make_assign e x a) = refl
made_guarded (make_store e x i a) = refl
made_guarded (make_sequence e l m c d) = refl
made_guarded (make_conditional e l c) = refl
made_guarded (make_iteration e l c) = refl
made_guarded (make_guarded e b l c) = refl
made_guarded (make_choice e l m c d) = refl
made_guarded (make_jump e) = refl

-- a part of the tree at entry n
lower : {s : List ℕ} {g : Bool} {n p : ℕ} {c : Command} → Made s g p c → p < n → ltb (command_entry c) n ≡ true
lower m h = rw (made_entry m) (lt-ltb _ _ h)

-- the names of an exit's condition are names of its guards
pub done_named : (ns : List ℕ) (c : Command) → command_named ns c ≡ true → boolean_named ns (done c) ≡ true
unfolding command_named boolean_named done
done_named ns (guarded n b c) h = (two (boolean_named ns b) (command_named ns c) h).0
done_named ns (choice n c d) h = let parts = two (command_named ns c) (command_named ns d) h in cc (done_named ns c parts.0, done_named ns d parts.1)
done_named ns (skip n) h = refl
done_named ns (assign n x a) h = refl
done_named ns (store n x i a) h = refl
done_named ns (sequence n c d) h = refl
done_named ns (conditional n c) h = refl
done_named ns (iteration n c) h = refl
done_named ns (jump n j) h = refl

-- its names are there and of the right sort, and its references point as they must
module _ (s : List ℕ) (fit : validity s ≡ Ok tt) where
  pub made_named : {g : Bool} {n : ℕ} {c : Command} → Made s g n c → command_named (sizes s) c ≡ true
  unfolding command_named
  made_named (make_skip e) = refl
  made_named (make_assign e x a) = both x a.named
  made_named (make_store e x i a) = both x (both i.named a.named)
  made_named (make_sequence e l m c d) = both (made_named c) (made_named d)
  made_named (make_conditional e l c) = made_named c
  made_named (make_iteration e l c) = made_named c
  made_named (make_guarded e b l c) = both (boolean_sorted s fit _ b).named (made_named c)
  made_named (make_choice e l m c d) = both (made_named c) (made_named d)
  made_named (make_jump e) = refl

  pub made_points : {g : Bool} {n : ℕ} {c : Command} → Made s g n c → command_points c ≡ true
  unfolding command_points
  made_points (make_skip e) = refl
  made_points (make_assign e x a) = a.points
  made_points (make_store e x i a) = both i.points a.points
  made_points (make_sequence e l m c d) =
      both
      (both (both (lower c l) (ap not (made_guarded c))) (made_points c))
      (both (both (lower d m) (ap not (made_guarded d))) (made_points d))
  made_points (make_conditional e l c) = both (both (lower c l) (made_guarded c)) (made_points c)
  made_points (make_iteration e l c) = both (both (lower c l) (made_guarded c)) (made_points c)
  made_points (make_guarded e b l c) =
      both (boolean_sorted s fit _ b).points (both (both (lower c l) (ap not (made_guarded c))) (made_points c))
  made_points (make_choice e l m c d) =
      both (both (both (lower c l) (made_guarded c)) (made_points c)) (both (both (lower d m) (made_guarded d)) (made_points d))
  made_points (make_jump e) = refl

  pub command_guarded : (n : ℕ) → n < entry_count s Commands → is_guarded_tree (command_at (entry s) n) ≡ is_guarded (entry s Commands n).kind
  command_guarded n h = made_guarded (made s fit n h)

  -- the script exists
  pub script_exists : last_command s < entry_count s Commands
  script_exists = omega (arith, one_last s fit)

  pub script_made : Made s false (last_command s) (script s)
  unfolding script
  script_made = rw (not_guarded _ (last_fit s fit)) at (made s fit _ script_exists)

  -- "Is the last one a command?"
  pub script_command : is_guarded_tree (script s) ≡ false
  script_command = made_guarded script_made
