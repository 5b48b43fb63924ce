-- A run depends on the names' cells alone: in an array with other cells behind them it is the run of the memory.
use Rattle.std.specs.Prelude.{None, Option, Some}
use mathlib.Core.Path.{◌≡◌, refl, sym, ap, subst, ◌∙◌}
use mathlib.Core.Bool.{Bool, true, false, cond, ◌&&◌}
use mathlib.Core.List.{List}
use Prim.Native.Nat.{ℕ, zero, suc, ◌<◌, ◌≤◌, min, ◌+◌}
use native.Mathlib.Decide.{ℕ_discrete}
use native.Mathlib.Omega.{arith}
use lib.Dec.{eqb}
use lib.IntN.{ℤ, pos}
use lib.ListN.{length, get_or, set, length-set}
use lib.Seq.{get_or-set_same, get_or-set_other}
use Rattle.program.specs.File.{cell_count}
use Rattle.program.specs.Graph.{Graph, edge_at}
use Rattle.program.specs.Parts.Prepared.{Prepared}
use Rattle.program.proofs.Laws.{such_same}
use Rattle.semantics.specs.Action.{after, is_defined}
use Rattle.semantics.specs.Budget.{lowest_defined, Finish, ends, goes_on, run_from}
use Rattle.semantics.specs.Parts.Cells.{front, Placed}
use Rattle.semantics.specs.Expression.{cell_value}
use Rattle.semantics.specs.Parts.Running.{EndsAs}
use Rattle.semantics.specs.Step.{Configuration, begun, leaves, edge_effect, along}
use Rattle.semantics.specs.declared.Effect.{Effect}
use Rattle.semantics.specs.declared.Effect.TheVariants.{Undefined as Fails, Unchanged, Stored}
use Rattle.semantics.specs.declared.Ended.{Ended}
use Rattle.semantics.specs.declared.Ending.TheVariants.{Arrived, Spent}
use Rattle.semantics.specs.declared.Run.{Run}
use Rattle.semantics.proofs.Edges.{edge_same, edge_inside}
use Rattle.semantics.proofs.Padding.{is_front}
use Rattle.semantics.proofs.Runs.{lowest_found, run_length}
use Rattle.semantics.proofs.Steps.{leaves_below}

-- memories that have the names' cells, with the same values in them
record Alike (ns : List ℕ) (m m' : List ℤ) : Type 0 where
  pub room : cell_count ns ≤ length m
  pub room' : cell_count ns ≤ length m'
  pub same : (k : ℕ) → k < cell_count ns → cell_value m k ≡ cell_value m' k

-- results of runs in them
record Matching (ns : List ℕ) (r r' : Finish) : Type 0 where
  pub run : r.final.run ≡ r'.final.run
  pub ending : r.ending ≡ r'.ending
  pub memory : Alike ns r.final.memory r'.final.memory

alike_set : (ns : List ℕ) (m m' : List ℤ) (c : ℕ) (z : ℤ) → c < cell_count ns → Alike ns m m' → Alike ns (set m c z) (set m' c z)
unfolding cell_value
alike_set ns m m' c z h a =
    record {
      room = omega (arith, length-set m c z, a.room);
      room' = omega (arith, length-set m' c z, a.room');
      same = at;
    }
  where
    at : (k : ℕ) → k < cell_count ns → get_or (set m c z) k (pos 0) ≡ get_or (set m' c z) k (pos 0)
    at k l =
        elim (ℕ_discrete k c) [
          | yes p ↦
              ap (λ (i : ℕ). get_or (set m c z) i (pos 0)) p ∙ get_or-set_same m c z (pos 0) (omega (arith, a.room))
              ∙ sym (ap (λ (i : ℕ). get_or (set m' c z) i (pos 0)) p ∙ get_or-set_same m' c z (pos 0) (omega (arith, a.room')))
          | no d ↦ get_or-set_other m c k z (pos 0) d ∙ a.same k l ∙ sym (get_or-set_other m' c k z (pos 0) d)
        ]

alike_after : (ns : List ℕ) (m m' : List ℤ) (x : Effect) → ((c : ℕ) (z : ℤ) → x ≡ Stored c z → c < cell_count ns) → Alike ns m m' → Alike ns (after m x) (after m' x)
unfolding after
alike_after ns m m' (Fails f) inside a = a
alike_after ns m m' Unchanged inside a = a
alike_after ns m m' (Stored c z) inside a = alike_set ns m m' c z (inside c z refl) a

module _ {ns : List ℕ} {g : Graph} {code graph : List ℕ} (p : Prepared ns g code graph) where
  same_lowest : (node : ℕ) (m m' : List ℤ) → Alike ns m m' → lowest_defined ns g node m ≡ lowest_defined ns g node m'
  unfolding lowest_defined
  same_lowest node m m' a = such_same _ _ _ (λ k h. ap (λ (x : Effect). leaves g k node && is_defined x) (edge_same p k h m m' a.same))

  same_after : (e : ℕ) → e < length g.edges → (m m' : List ℤ) → Alike ns m m' → Alike ns (after m (edge_effect ns g m e)) (after m' (edge_effect ns g m' e))
  same_after e h m m' a =
      subst (λ (x : Effect). Alike ns (after m (edge_effect ns g m e)) (after m' x)) (edge_same p e h m m' a.same)
      (alike_after ns m m' (edge_effect ns g m e) (edge_inside p e h m) a)

  abbrev at : Run → List ℤ → Configuration
  at run m = record { run = run; memory = m }

  abbrev onward : Run → ℕ → Run
  onward run e = record { node = (edge_at g e).target; count = min (run.count + 1) 65535 }

  same_run : (budget : ℕ) (run : Run) (m m' : List ℤ) → Alike ns m m' → Matching ns (run_from budget ns g (at run m)) (run_from budget ns g (at run m'))
  unfolding run_from goes_on along
  same_run zero run m m' a = by (eqb run.node 1)
    where
      by : (b : Bool) → Matching ns (cond b (ends Arrived (at run m)) (ends Spent (at run m))) (cond b (ends Arrived (at run m')) (ends Spent (at run m')))
      by true = record { run = refl; ending = refl; memory = a }
      by false = record { run = refl; ending = refl; memory = a }
  same_run (suc budget) run m m' a =
      rw (sym (same_lowest run.node m m' a))
      (by (λ e h. same_run budget (onward run e) _ _ (same_after e h m m' a)) (eqb run.node 1) (lowest_defined ns g run.node m) refl)
    where
      by : ((e : ℕ) → e < length g.edges → Matching ns (run_from budget ns g (along ns g (at run m) e)) (run_from budget ns g (along ns g (at run m') e)))
          → (b : Bool) (x : Option ℕ) → lowest_defined ns g run.node m ≡ x
          → Matching ns (cond b (ends Arrived (at run m)) (goes_on (λ e. run_from budget ns g (along ns g (at run m) e)) (at run m) x))
          (cond b (ends Arrived (at run m')) (goes_on (λ e. run_from budget ns g (along ns g (at run m') e)) (at run m') x))
      by go true x q = record { run = refl; ending = refl; memory = a }
      by go false None q = record { run = refl; ending = refl; memory = a }
      by go false (Some e) q = go e (leaves_below g e run.node (lowest_found ns g run.node m e q).0)

  -- as the code copies a memory in, runs there and copies it back
  pub ends_copied : (budget : ℕ) (m : List ℤ) → length m ≡ cell_count ns → (cells after-it back : List ℤ) (x : Ended) → Placed code m cells
      → EndsAs (run_from budget ns g (begun cells)) after-it x → back ≡ front (length m) after-it
      → EndsAs (run_from budget ns g (begun m)) back x
  unfolding cell_value
  ends_copied budget m room cells after-it back x there k q =
      record {
        reply = k.reply ∙ (λ i. record { run = match.run i; ending = match.ending i });
        memory = q ∙ sym (is_front final after-it (length m) same_length (λ i h. sym (ap (λ (l : List ℤ). cell_value l i) k.memory ∙ match.memory.same i (omega (arith, room)))));
      }
    where
      final : List ℤ
      final = (run_from budget ns g (begun m)).final.memory

      same_length : length final ≡ length m
      same_length = run_length ns g budget (begun m)

      match : Matching ns (run_from budget ns g (begun cells)) (run_from budget ns g (begun m))
      match =
          same_run budget _ cells m
          (record {
            room = omega (arith, there.room, p.coded.most);
            room' = omega (arith, room);
            same = λ c l. there.same c (omega (arith, p.coded.most));
          })
