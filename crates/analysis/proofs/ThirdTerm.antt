-- The third term (document 01; book, Propositions 4.9 and 4.31): an accepted solution has the memory's record at the node reached, after any list
-- of step calls and any budgeted run; and a clean mark means that no call meets a negative index.
use Rattle.program.specs.Asking.{Validity}
use Rattle.std.specs.Prelude.{Err, Ok}
use Rattle.std.proofs.Common.{◌≡◌, ℕ, ◌<◌, not, ◌&&◌, T, List, [], ◌∷◌, length, ℤ, refl, ap, ◌∙◌, subst, arith}
use mir.Facts.{and_yes, yes_and, not_T}
use Rattle.signs.specs.Lists.{all_of, indices}
use Rattle.program.specs.File.{cell_count, sizes}
use Rattle.program.specs.Graph.{Graph, graph, edges, edge_count, edge_at}
use Rattle.program.specs.Questions.{validity}
use Rattle.program.specs.Parts.Sorted.{meaning_named, action_named}
use Rattle.program.specs.declared.Construction.{Construction}
use Rattle.program.proofs.Laws.{ask_fit, turn_fit, edge_faithful, meaning_named_lem}
use Rattle.program.proofs.Tests.{passed}
use Rattle.program.specs.Meaning.{meaning}
use Rattle.semantics.specs.Action.{effect, is_defined}
use Rattle.semantics.specs.Budget.{Finish, run_from, budgeted}
use Rattle.semantics.specs.Parts.Replaying.{replay, outcomes, step}
use Rattle.semantics.specs.Step.{Configuration, fresh, begun, leaves, edge_effect, memory_validity, step_validity, outcome_by, outcome_unless_refused, outcome, along}
use Rattle.semantics.specs.declared.Effect.{Effect}
use Rattle.semantics.specs.declared.Outcome.{Outcome}
use Rattle.semantics.specs.declared.Outcome.TheVariants.{Taken, Undefined as Stays, Refused as Refuses}
use Rattle.semantics.specs.declared.Effect.TheVariants.{Undefined as Fails, Unchanged, Stored}
use Rattle.semantics.proofs.Laws.{memory_fit, leaves_below, taken_takable, taken_step, untaken_step, along_length, lowest_found, run_ends, budgeted_run, refused_run, program_replay_lem, program_outcomes_lem, program_budgeted_lem}
use Rattle.analysis.specs.Abstraction.{abstract_memory}
use Rattle.analysis.specs.Soundness.{is_negative_index, meets_in_call, meets_in_effect, has_configuration, no_edge_meets, Sound, ThirdTermFor}
use Rattle.analysis.specs.Parts.Covering.{SoundOn}
use Rattle.analysis.specs.Verdict.{verdict_over, verdict}
use Rattle.analysis.specs.declared.Mark.{Mark}
use Rattle.analysis.specs.declared.Mark.TheVariants.{Clean}
use Rattle.analysis.proofs.Accepted.{Judged, accepted, not_refused_accepted, has_start, has_result, clean_index}
use Rattle.analysis.proofs.Effects.{effect_among}
use Rattle.analysis.proofs.Tabulated.{all_of_below}
use Rattle.analysis.proofs.Meanings.{effect_minus}

-- a graph whose actions are named, and an accepted solution
module _ (ns : List ℕ) (g : Graph) (named : (e : ℕ) → e < length g.edges → T (action_named ns (edge_at g e).action)) (initial solution : List ℕ) (mark : Mark) (j : Judged ns g initial solution mark) where
  -- what holds of every configuration that is reached
  abbrev Covered : Configuration → Type 0
  Covered c = T (has_configuration ns solution c)

  edge_named : (e node : ℕ) → T (leaves g e node) → T (meaning_named ns (meaning (edge_at g e).action))
  edge_named e node l = meaning_named_lem ns (edge_at g e).action (named e (leaves_below g e node l))

  -- along a defined edge out of the node
  covered_along : (c : Configuration) (e : ℕ) → length c.memory ≡ cell_count ns → Covered c → T (leaves g e c.run.node) → T (is_defined (edge_effect ns g c.memory e)) → Covered (along ns g c e)
  unfolding has_configuration along edge_effect
  covered_along c e room has l d =
      has_result ns g initial solution mark j c.run.node (abstract_memory ns c.memory) has e l
      (effect_among ns c.memory room (meaning (edge_at g e).action) (edge_named e c.run.node l) d)

  -- no edge out of the node meets a negative index where the mark is clean
  never_meets : mark ≡ Clean → (c : Configuration) (e : ℕ) → Covered c → T (leaves g e c.run.node) → T (meets_in_effect (edge_effect ns g c.memory e)) → ⊥
  unfolding has_configuration edge_effect meets_in_effect
  never_meets clean c e has l = by (effect ns c.memory (meaning (edge_at g e).action)) refl
    where
      by : (x : Effect) → effect ns c.memory (meaning (edge_at g e).action) ≡ x → T (meets_in_effect x) → ⊥
      by (Fails f) p t =
          subst T (clean_index ns g initial solution mark j clean c.run.node (abstract_memory ns c.memory) has e l)
          (effect_minus ns c.memory f t (meaning (edge_at g e).action) (edge_named e c.run.node l) p)
      by Unchanged p t = t
      by (Stored k z) p t = t

  no_edge_meets_lem : mark ≡ Clean → (c : Configuration) → Covered c → T (no_edge_meets ns g c)
  unfolding no_edge_meets indices
  no_edge_meets_lem clean c has =
      all_of_below (λ e. not (leaves g e c.run.node && meets_in_effect (edge_effect ns g c.memory e))) (length g.edges) (λ e. e)
      (λ e h. not_T (leaves g e c.run.node && meets_in_effect (edge_effect ns g c.memory e))
      (λ t. let both = and_yes (leaves g e c.run.node) (meets_in_effect (edge_effect ns g c.memory e)) t in never_meets clean c e has both.0 both.1))

  -- a step, and its answer
  covered_step : (c : Configuration) (e : ℕ) → Covered c → Covered (step ns g c e)
  covered_step c e has = by (outcome ns g c e) refl
    where
      by : (o : Outcome) → outcome ns g c e ≡ o → Covered (step ns g c e)
      by Taken p = let can = taken_takable ns g c e p in rw (taken_step ns g c e p) (covered_along c e can.room has can.edge_leaves can.edge_defined)
      by (Stays f) p = rw (untaken_step ns g c e (λ q. let z : ◌≡◌ {A = ℕ} 0 1 = cc in omega arith)) has
      by (Refuses x) p = rw (untaken_step ns g c e (λ q. let z : ◌≡◌ {A = ℕ} 0 1 = cc in omega arith)) has

  call_never_meets : mark ≡ Clean → (c : Configuration) (e : ℕ) → Covered c → T (not (meets_in_call (outcome ns g c e)))
  unfolding outcome outcome_unless_refused outcome_by meets_in_call meets_in_effect step_validity
  call_never_meets clean c e has = by (step_validity ns g c.run.node c.memory e) (edge_effect ns g c.memory e) refl refl
    where
      by : (v : Validity) (x : Effect) → step_validity ns g c.run.node c.memory e ≡ v → edge_effect ns g c.memory e ≡ x → T (not (meets_in_call (outcome_unless_refused v (outcome_by x))))
      by (Ok _) (Fails f) p q = not_T (is_negative_index f) (λ t. never_meets clean c e has (passed (ask_fit _ 15 0 (turn_fit _ 2 p))) (rw q t))
      by (Ok _) Unchanged p q = tt
      by (Ok _) (Stored k z) p q = tt
      by (Err r) x p q = tt

  -- a list of calls
  covered_replay : (es : List ℕ) (c : Configuration) → Covered c → Covered (replay ns g c es)
  unfolding replay
  covered_replay [] c has = has
  covered_replay (e ∷ es) c has = covered_replay es (step ns g c e) (covered_step c e has)

  calls_never_meet : mark ≡ Clean → (es : List ℕ) (c : Configuration) → Covered c → T (all_of (λ o. not (meets_in_call o)) (outcomes ns g c es))
  unfolding outcomes all_of
  calls_never_meet clean [] c has = tt
  calls_never_meet clean (e ∷ es) c has =
      yes_and (not (meets_in_call (outcome ns g c e))) _ (call_never_meets clean c e has) (calls_never_meet clean es (step ns g c e) (covered_step c e has))

  -- a budgeted run
  covered_run : (budget : ℕ) (c : Configuration) → length c.memory ≡ cell_count ns → Covered c → Covered (run_from budget ns g c).final
  covered_run budget c room has =
      run_ends ns g (λ c. (length c.memory ≡ cell_count ns) × Covered c) (λ r. Covered r.final)
      (λ c e p i. let found = lowest_found ns g c.run.node c.memory e p in
      (along_length ns g c e ∙ i.0, covered_along c e i.0 i.1 found.0 found.1))
      (λ c i p. i.1)
      (λ c i p. i.1)
      (λ c i p q. i.1)
      budget c (room, has)

  covered_budgeted : (budget : ℕ) (m : List ℤ) → Covered (begun m) → Covered (budgeted ns g budget m).final
  covered_budgeted budget m has = by (memory_validity ns m) refl
    where
      by : (v : Validity) → memory_validity ns m ≡ v → Covered (budgeted ns g budget m).final
      by (Ok _) p = rw (budgeted_run ns g budget m p) (covered_run budget (begun m) (memory_fit ns m p) has)
      by (Err x) p = rw (refused_run ns g budget m x p) has

  -- the third term of a graph
  pub sound : SoundOn ns g initial solution mark
  unfolding SoundOn has_configuration fresh
  sound m t calls budget =
      let start : Covered (begun m) = has_start ns g initial solution mark j (abstract_memory ns m) t in
      let reached = covered_replay calls (begun m) start in
      let ran = covered_budgeted budget m start in
      record {
        reached = reached;
        run_reached = ran;
        no_call_meets = λ clean. calls_never_meet clean calls (begun m) start;
        replay_no_edge_meets = λ clean. no_edge_meets_lem clean (replay ns g (begun m) calls) reached;
        run_no_edge_meets = λ clean. no_edge_meets_lem clean (budgeted ns g budget m).final ran;
      }

-- where a file is fit, its steps and runs are those of its graph, and so is what holds of them
sound_file : (κ : Construction) (s initial solution : List ℕ) (mark : Mark) → validity s ≡ Ok tt → SoundOn (sizes s) (graph κ s) initial solution mark → Sound κ s initial solution mark
unfolding SoundOn Sound
sound_file κ s initial solution mark fit on m t calls budget =
    let k = on m t calls budget in
    let reached = program_replay_lem κ s fit (begun m) calls in
    let ran = ap (λ (r : Finish). r.final) (program_budgeted_lem κ s fit budget m) in
    record {
      reached = rw reached k.reached;
      run_reached = rw ran k.run_reached;
      no_call_meets = λ clean. rw (program_outcomes_lem κ s fit (begun m) calls) (k.no_call_meets clean);
      replay_no_edge_meets = λ clean. rw reached (k.replay_no_edge_meets clean);
      run_no_edge_meets = λ clean. rw ran (k.run_no_edge_meets clean);
    }

-- the third term of a program file
pub third_term : (κ : Construction) (s initial solution : List ℕ) → ThirdTermFor κ s initial solution (verdict κ s initial solution)
unfolding ThirdTermFor verdict edges edge_count edge_at
third_term κ s initial solution mark e =
    let fit = not_refused_accepted (validity s) (verdict_over (sizes s) (graph κ s) initial solution) mark e in
    sound_file κ s initial solution mark fit.0
    (sound (sizes s) (graph κ s) (λ k h. (edge_faithful s fit.0 κ k _ h).named) initial solution mark
    (accepted (sizes s) (graph κ s) initial solution mark fit.1))
