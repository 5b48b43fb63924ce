-- What an accepted solution is closed under: it has every start record at node 0 and, for each of its records and each edge out of its node, every
-- result at the edge's target.
use Rattle.program.specs.Asking.{Validity}
use Rattle.std.specs.Prelude.{Result, Err, Ok, None, Option, Some, is_some}
use Rattle.std.proofs.Common.{◌≡◌, ℕ, Bool, true, false, not, ◌&&◌, T, eqb, ltb, List, [], ◌∷◌, length, sym, refl, ap, ◌∙◌, subst, arith, eqb→eq, ltb→lt}
use mathlib.Core.List.{Memᴰ}
use mir.Facts.{and_yes}
use Rattle.signs.specs.Lists.{any_of}
use Rattle.program.specs.FirstSuch.{first_such}
use Rattle.program.specs.Graph.{Graph, edge_at}
use Rattle.program.proofs.Laws.{first_nothing, such_none}
use Rattle.program.proofs.Tests.{passed}
use Rattle.program.specs.Meaning.{meaning}
use Rattle.semantics.specs.Step.{leaves}
use Rattle.analysis.specs.Index.{may_be_negative}
use Rattle.analysis.specs.Records.{initial_width, record_width, record_count, record_at, records_of, node_of, memory_of, same_signs, gives, listed, has_at, has_initial, both_whole, initial_formed, solution_formed}
use Rattle.analysis.specs.Results.{results}
use Rattle.analysis.specs.Verdict.{missing_initial, spot_at, first_spot, missing_result, mark_of, index_mark, verdict_by, verdict_unless_refused, unless_malformed, verdict_over}
use Rattle.analysis.specs.declared.Mark.{Mark}
use Rattle.analysis.specs.declared.Mark.TheVariants.{Clean}
use Rattle.analysis.specs.declared.RecordList.{RecordList}
use Rattle.analysis.specs.declared.Spot.{Spot}
use Rattle.analysis.specs.declared.Unreadable.{Unreadable}
use Rattle.analysis.specs.declared.Verdict.{Verdict}
use Rattle.analysis.specs.declared.Verdict.TheVariants.{Accepted}
use Rattle.analysis.proofs.Tabulated.{member_any_of, at_any_of}

-- the same signs are the same abstract memory
pub signs_same : (xs ys : List ℕ) → T (same_signs xs ys) → xs ≡ ys
unfolding same_signs
signs_same [] [] t = refl
signs_same [] (y ∷ ys) t = absurd t
signs_same (x ∷ xs) [] t = absurd t
signs_same (x ∷ xs) (y ∷ ys) t =
    let both = and_yes (eqb x y) (same_signs xs ys) t in
    let p = eqb→eq x y both.0 in
    let q = signs_same xs ys both.1 in
    rw (p, q)

-- a test that fails of some of a list fails of none
none_fails : {A : Type 0} (p : A → Bool) {x : A} (xs : List A) → any_of (λ y. not (p y)) xs ≡ false → Memᴰ x xs → T (p x)
none_fails {A} p {x} xs e m = by (p x) refl
  where
    by : (b : Bool) → p x ≡ b → T (p x)
    by true q = passed q
    by false q = absurd (subst T e (member_any_of (λ y. not (p y)) xs m (rw q tt)))

-- what an accepted verdict says
pub record Judged (ns : List ℕ) (g : Graph) (initial solution : List ℕ) (mark : Mark) : Type 0 where
  pub initial_there : missing_initial ns initial solution ≡ None
  pub results_there : missing_result ns g solution ≡ None
  pub marked : index_mark ns g solution ≡ mark

by_missing : (k : Option ℕ) (spot : Option Spot) (m mark : Mark) → ◌≡◌ {A = Result Verdict Unreadable} (Ok (verdict_by k spot m)) (Ok (Accepted mark)) → (k ≡ None) × (spot ≡ None) × (m ≡ mark)
unfolding verdict_by
by_missing (Some k) spot m mark e = absurd (let z : ◌≡◌ {A = ℕ} 0 1 = cc in omega arith)
by_missing None (Some x) m mark p = absurd (let z : ◌≡◌ {A = ℕ} 0 1 = cc in omega arith)
by_missing None None m mark e = (refl, refl, cc)

pub not_refused_accepted : (v : Validity) (w : Result Verdict Unreadable) (mark : Mark) → verdict_unless_refused v w ≡ Ok (Accepted mark) → (v ≡ Ok tt) × (w ≡ Ok (Accepted mark))
unfolding verdict_unless_refused
not_refused_accepted (Ok _) w mark e = (refl, e)
not_refused_accepted (Err x) w mark e = absurd (let z : ◌≡◌ {A = ℕ} 0 1 = cc in omega arith)

well_formed_accepted : (list : RecordList) (v : Validity) (w : Result Verdict Unreadable) (mark : Mark) → unless_malformed list v w ≡ Ok (Accepted mark) → w ≡ Ok (Accepted mark)
unfolding unless_malformed
well_formed_accepted list (Ok _) w mark e = e
well_formed_accepted list (Err x) w mark e = absurd (let z : ◌≡◌ {A = ℕ} 0 1 = cc in omega arith)

pub accepted : (ns : List ℕ) (g : Graph) (initial solution : List ℕ) (mark : Mark) → verdict_over ns g initial solution ≡ Ok (Accepted mark) → Judged ns g initial solution mark
unfolding verdict_over
accepted ns g initial solution mark e =
    let whole = (not_refused_accepted (both_whole ns initial solution) _ mark e).1 in
    let first = well_formed_accepted _ (initial_formed ns initial) _ mark whole in
    let second = well_formed_accepted _ (solution_formed ns g solution) _ mark first in
    let missing = by_missing (missing_initial ns initial solution) (missing_result ns g solution) (index_mark ns g solution) mark second in
    record { initial_there = missing.0; results_there = missing.1; marked = missing.2 }

-- what is not some is none
pub none_only : {A : Type 0} (x : Option A) → is_some x ≡ false → x ≡ None
none_only (Some y) p = absurd (subst T p tt)
none_only None p = refl

no_edge : (k : ℕ) (e : Option ℕ) → spot_at k e ≡ None → e ≡ None
unfolding spot_at
no_edge k (Some e) p = absurd (let z : ◌≡◌ {A = ℕ} 0 1 = cc in omega arith)
no_edge k None p = refl

-- of two tests of which the first passes, the second fails where not both pass
second_fails : (a b : Bool) → T a → (a && b) ≡ false → b ≡ false
second_fails true b t e = e
second_fails false b t e = absurd t

module _ (ns : List ℕ) (g : Graph) (solution : List ℕ) where
  -- where there is no first spot, no edge is picked that leaves the node of a record
  pub never_picked : (picks : List ℕ → ℕ → Bool) → first_spot ns g solution picks ≡ None → (node : ℕ) (ρ : List ℕ) → T (has_at ns solution node ρ) → (e : ℕ) → T (leaves g e node) → picks ρ e ≡ false
  unfolding first_spot has_at listed records_of gives leaves
  never_picked picks none node ρ has e l =
      let w = at_any_of (gives ns node ρ) (record_at (record_width ns) solution) (record_count (record_width ns) solution) has in
      by (record_at (record_width ns) solution w.0) w.2 (no_edge w.0 _ (first_nothing is_some None refl none_only _ _ none w.0 w.1))
    where
      by : (r : List ℕ) → T (gives ns node ρ r) → first_such (length g.edges) (λ e. leaves g e (node_of r) && picks (memory_of ns r) e) ≡ None → picks ρ e ≡ false
      by r t none =
          let same = and_yes (eqb (node_of r) node) (same_signs (memory_of ns r) ρ) t in
          let edge = and_yes (ltb e (length g.edges)) (eqb (edge_at g e).source node) l in
          let p = eqb→eq (node_of r) node same.0 in
          let q = signs_same (memory_of ns r) ρ same.1 in
          second_fails (leaves g e node) (picks ρ e) l
          (sym (ap (λ (n : ℕ). leaves g e n && picks ρ e) p)
          ∙ sym (ap (λ (σ : List ℕ). leaves g e (node_of r) && picks σ e) q)
          ∙ such_none (length g.edges) (λ e. leaves g e (node_of r) && picks (memory_of ns r) e) none e (ltb→lt e (length g.edges) edge.0))

module _ (ns : List ℕ) (g : Graph) (initial solution : List ℕ) (mark : Mark) (j : Judged ns g initial solution mark) where
  -- a start record at node 0
  pub has_start : (ρ : List ℕ) → T (has_initial ns initial ρ) → T (has_at ns solution 0 ρ)
  unfolding has_initial records_of missing_initial
  has_start ρ t =
      let w = at_any_of (λ r. same_signs r ρ) (record_at (initial_width ns) initial) (record_count (initial_width ns) initial) t in
      let none = such_none (record_count (initial_width ns) initial) (λ k. not (has_at ns solution 0 (record_at (initial_width ns) initial k))) j.initial_there w.0 w.1 in
      subst (λ (σ : List ℕ). T (has_at ns solution 0 σ)) (signs_same (record_at (initial_width ns) initial w.0) ρ w.2) (fails_not (has_at ns solution 0 (record_at (initial_width ns) initial w.0)) none)
    where
      fails_not : (b : Bool) → not b ≡ false → T b
      fails_not true e = tt
      fails_not false e = subst T e tt

  -- every result at the target of an edge that leaves a record's node
  pub has_result : (node : ℕ) (ρ : List ℕ) → T (has_at ns solution node ρ) → (e : ℕ) → T (leaves g e node) → {σ : List ℕ} → Memᴰ σ (results ρ (meaning (edge_at g e).action)) → T (has_at ns solution (edge_at g e).target σ)
  unfolding missing_result
  has_result node ρ has e l m =
      none_fails (has_at ns solution (edge_at g e).target) (results ρ (meaning (edge_at g e).action))
      (never_picked ns g solution (λ ρ e. any_of (λ σ. not (has_at ns solution (edge_at g e).target σ)) (results ρ (meaning (edge_at g e).action))) j.results_there node ρ has e l)
      m

  -- a clean mark: no index of such an edge may be negative
  pub clean_index : mark ≡ Clean → (node : ℕ) (ρ : List ℕ) → T (has_at ns solution node ρ) → (e : ℕ) → T (leaves g e node) → may_be_negative ρ (meaning (edge_at g e).action) ≡ false
  unfolding index_mark mark_of
  clean_index clean node ρ has e l =
      never_picked ns g solution (λ ρ e. may_be_negative ρ (meaning (edge_at g e).action)) (no_spot _ (j.marked ∙ clean)) node ρ has e l
    where
      no_spot : (x : Option Spot) → mark_of x ≡ Clean → x ≡ None
      no_spot (Some y) p = absurd (let z : ◌≡◌ {A = ℕ} 0 1 = cc in omega arith)
      no_spot None p = refl
