-- Two files with the same layout, sizes and entries: questions 6 to 11 have the same answer.
use mathlib.Core.Path.{◌≡◌, refl, ap, ◌∙◌}
use mathlib.Core.Bool.{Bool, true, false, ◌&&◌}
use mathlib.Core.List.{List}
use Prim.Native.Nat.{ℕ, zero, suc, ◌+◌, ◌*◌, ◌-◌, ◌≤◌, ◌<◌}
use native.Mathlib.Nat.{le_refl}
use native.Mathlib.Omega.{arith}
use lib.Dec.{ltb}
use borrow.Author.Tests.{ltb-true}
use Rattle.program.specs.File.{layout_of, span_of, name_count, size_at, sizes, entry_count, table_start, entry_offset, entry}
use Rattle.program.specs.Jumps.{loose}
use Rattle.program.specs.Kind.{Role, Unused, Half, Variable, Array, To, Roles, Shape, Unknown, Known, shape, table_of}
use Rattle.program.specs.Questions.{name_validity, named, same_table, limit, of_sort, points, each_operand, shape_validity, entry_validity, table_validity, entry_uses, table_uses, uses, use_validity, used_validity, last_validity, uses_validity, jump_validity, jumps_validity, content_validity}
use Rattle.program.specs.Tree.{command_at, last_command, script}
use Rattle.program.specs.declared.Entry.{Entry}
use Rattle.program.specs.declared.Layout.{Layout}
use Rattle.program.specs.declared.Sort.{Sort}
use Rattle.program.specs.declared.Sort.TheVariants.{Expression, Condition, Command, Guarded}
use Rattle.program.specs.declared.Table.{Table}
use Rattle.program.specs.declared.Table.TheVariants.{Arithmetic, Boolean, Commands}
use Rattle.program.proofs.Asking.{each_same}
use Rattle.program.proofs.Lists.{tabulate_same}
use Rattle.program.proofs.Loose.{same_loose}

-- the second of two tests counts where the first passes
and_same : (a : Bool) {b c : Bool} → (a ≡ true → b ≡ c) → (a && b) ≡ (a && c)
and_same true h = h refl
and_same false h = refl

-- what two files have in common
pub record Agree (p s : List ℕ) : Type 0 where
  pub layout : layout_of p ≡ layout_of s
  pub size : (i : ℕ) → i < name_count s → size_at p i ≡ size_at s i
  pub same_entry : (t : Table) (n : ℕ) → n < entry_count s t → entry p t n ≡ entry s t n

module _ (p s : List ℕ) (agree : Agree p s) where
  pub same_names : name_count p ≡ name_count s
  unfolding name_count
  same_names = ap (λ (l : Layout). l.names.count) agree.layout

  same_count : (t : Table) → entry_count p t ≡ entry_count s t
  unfolding entry_count
  same_count t = ap (λ (l : Layout). (span_of l t).count) agree.layout

  same_offset : (t : Table) (n : ℕ) → entry_offset p t n ≡ entry_offset s t n
  unfolding entry_offset table_start
  same_offset t n = ap (λ (l : Layout). (span_of l t).start + 7 * n) agree.layout

  pub same_sizes : sizes p ≡ sizes s
  unfolding sizes
  same_sizes = rw same_names (tabulate_same (name_count s) _ _ agree.size)

  -- question 6
  same_name : (i : ℕ) → i < name_count s → name_validity p i ≡ name_validity s i
  unfolding name_validity
  same_name i h = rw (agree.size i h, same_sizes)

  -- question 8
  same_named : (role : Role) (x : ℕ) → named p role x ≡ named s role x
  unfolding named
  same_named Unused x = refl
  same_named Half x = refl
  same_named Variable x = rw same_sizes
  same_named Array x = rw same_sizes
  same_named (To sort) x = refl

  -- question 9, of entry n of table t: a lower command exists
  exists_lower : (t : Table) (n : ℕ) → n < entry_count s t → (x : ℕ) → x < limit s t n Commands → x < entry_count s Commands
  unfolding limit same_table
  exists_lower Arithmetic n h x l = l
  exists_lower Boolean n h x l = l
  exists_lower Commands n h x l = omega arith

  module _ (t : Table) (n : ℕ) (exists : n < entry_count s t) where
    same_limit : (u : Table) → limit p t n u ≡ limit s t n u
    unfolding limit
    same_limit u = rw (same_count u)

    same_sort : (sort : Sort) (x : ℕ) → x < limit s t n (table_of sort) → of_sort p sort x ≡ of_sort s sort x
    unfolding of_sort table_of
    same_sort Expression x l = refl
    same_sort Condition x l = refl
    same_sort Command x l = rw (agree.same_entry Commands x (exists_lower t n exists x l))
    same_sort Guarded x l = rw (agree.same_entry Commands x (exists_lower t n exists x l))

    same_points : (role : Role) (x : ℕ) → points p t n role x ≡ points s t n role x
    unfolding points
    same_points Unused x = refl
    same_points Half x = refl
    same_points Variable x = refl
    same_points Array x = refl
    same_points (To sort) x = rw (same_limit (table_of sort)) (and_same (ltb x (limit s t n (table_of sort))) (λ l. same_sort sort x (ltb-true _ _ l)))

  same_operands : (f g : Role → ℕ → Bool) → ((role : Role) (x : ℕ) → f role x ≡ g role x) → (x : Roles) (e : Entry) → each_operand f x e ≡ each_operand g x e
  unfolding each_operand
  same_operands f g h x e = rw (h x.p e.p, h x.q e.q, h x.r e.r)

  -- questions 7 to 9
  same_shape : (t : Table) (n : ℕ) → n < entry_count s t → (x : Shape) → shape_validity p t n x ≡ shape_validity s t n x
  unfolding shape_validity
  same_shape t n h Unknown = rw (same_offset t n)
  same_shape t n h (Known x) =
      rw (
        same_offset t n,
        agree.same_entry t n h,
        same_operands (named p) (named s) same_named x (entry s t n),
        same_operands (points p t n) (points s t n) (same_points t n h) x (entry s t n),
      )

  same_validity : (t : Table) (n : ℕ) → n < entry_count s t → entry_validity p t n ≡ entry_validity s t n
  unfolding entry_validity
  same_validity t n h = rw (agree.same_entry t n h) (same_shape t n h (shape t (entry s t n).kind))

  same_table_lem : (t : Table) → table_validity p t ≡ table_validity s t
  unfolding table_validity
  same_table_lem t = rw (same_count t) (each_same _ _ _ (same_validity t))

  -- question 10
  same_table_uses : (u : Table) (n : ℕ) (t : Table) (k : ℕ) → k ≤ entry_count s t → table_uses p u n t k ≡ table_uses s u n t k
  unfolding table_uses entry_uses
  same_table_uses u n t zero h = refl
  same_table_uses u n t (suc k) h = rw (same_table_uses u n t k (omega arith), agree.same_entry t k h)

  same_uses : (u : Table) (n : ℕ) → uses p u n ≡ uses s u n
  unfolding uses
  same_uses u n =
      rw (
        same_count Arithmetic,
        same_count Boolean,
        same_count Commands,
        same_table_uses u n Arithmetic (entry_count s Arithmetic) (le_refl _),
        same_table_uses u n Boolean (entry_count s Boolean) (le_refl _),
        same_table_uses u n Commands (entry_count s Commands) (le_refl _),
      )

  same_used : (t : Table) → used_validity p t ≡ used_validity s t
  unfolding used_validity use_validity
  same_used t = rw (same_count t) (each_same _ _ _ (λ n h. rw (same_uses t n, same_offset t n)))

  -- question 11
  same_last : 1 ≤ entry_count s Commands → last_validity p ≡ last_validity s
  unfolding last_validity last_command
  same_last h =
      let last = entry_count s Commands - 1 in
      rw (same_count Commands, agree.same_entry Commands last (omega arith), same_offset Commands last)

  -- question 20
  same_script : 1 ≤ entry_count s Commands → (n : ℕ) → loose n (script p) ≡ loose n (script s)
  unfolding script last_command
  same_script h n =
      let last = entry_count s Commands - 1 in
      ap (λ (k : ℕ). loose n (command_at (entry p) (k - 1))) (same_count Commands)
      ∙ same_loose (entry p) (entry s) (entry_count s Commands) (agree.same_entry Commands) last (omega arith) n

  same_jumps : 1 ≤ entry_count s Commands → jumps_validity p ≡ jumps_validity s
  unfolding jumps_validity jump_validity
  same_jumps h = rw (same_count Commands) (each_same _ _ _ (λ n l. rw (same_offset Commands n, same_script h n)))

  -- questions 6 to 11 and 20
  pub same_content : 1 ≤ entry_count s Commands → content_validity p ≡ content_validity s
  unfolding content_validity uses_validity
  same_content h =
      rw (
        same_names,
        each_same (name_count s) (name_validity p) (name_validity s) same_name,
        same_table_lem Arithmetic,
        same_table_lem Boolean,
        same_table_lem Commands,
        same_used Arithmetic,
        same_used Boolean,
        same_used Commands,
        same_last h,
        same_jumps h,
      )
