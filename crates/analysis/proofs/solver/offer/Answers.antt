-- `solver::offer`: an offer in the order of its questions.
use Rattle.std.proofs.Common.{◌≡◌, ℕ, ◌+◌, ◌<◌, List, length, set, sym, ◌∙◌, arith}
use Rattle.analysis.specs.Parts.Judging.{ReadInto}
use Rattle.analysis.specs.Records.{listed}
use Rattle.analysis.specs.Parts.Solving.{found_in}
use Rattle.analysis.proofs.Chains.{bucket_small}
use Rattle.analysis.proofs.Growing.{extended_none, extended_full, extended_put, put_fits, found_put, found_full, found_none, found_count, offer_full, offer_listed, offer_none, offer_more, listed_told, width_of}
use Rattle.analysis.proofs.Laid.{changed_record, changed_sized}
use Rattle.analysis.proofs.solver.offer.Goals as goal
use Rattle.analysis.proofs.solver.offer.Goals.{After-find}

pub returns-then-p : goal.returns-then-p
returns-then-p c =
    record { extended = extended_none _ _ _ _ c.requires; offers = λ ns ρ room e y q low. sym (offer_full _ _ _ _ _ (found_full _ _ _ ∙ c.if-p.true)) }

pub find-requires : goal.find-requires
find-requires c = (_, record { indexed = c.requires.indexed; hashed = c.hash_changed-h.ensures })

-- what the index answered
told : (c : After-find)
    → (ns ρ : List ℕ) → length ns ≡ c.args.memory.now.names → ReadInto ρ c.args.memory.now.rho.now c.args.memory.now.names → c.args.change.node < 65536
    → listed ns (found_in (2 + c.args.memory.now.names) c.args.buffer.now c.args.p).records c.args.change.node (set ρ c.args.change.name c.args.change.set) ≡ c.find.result
told c ns ρ e y low =
    listed_told c.requires (λ i. omega (arith, c.slice_known-1.given i)) ns _ _ _ low (width_of ns e) (changed_record y c.args.memory.now.weighed.front c.args.change) _
    (c.find.ensures _ (record { indexed = c.requires.indexed; hashed = c.hash_changed-h.ensures }))

pub returns-then-find : goal.returns-then-find
returns-then-find c =
    record { extended = extended_none _ _ _ _ c.requires; offers = λ ns ρ room m y q low. sym (offer_listed _ _ _ _ _ (found_full _ _ _ ∙ c.if-p.false) (told (goal.at.returns-then-find c).After-find ns ρ m y low ∙ c.if-find.true)) }

pub returns-then-p-2 : goal.returns-then-p-2
returns-then-p-2 c =
    record {
      extended = extended_full c.requires;
      offers = λ ns ρ room m y q low. found_none _ _ _
          ∙ sym (offer_none _ _ _ _ _ (found_full _ _ _ ∙ c.if-p.false) (told (goal.at.returns-then-p-2 c).After-find ns ρ m y low ∙ c.if-find.false) (omega (arith, q, found_count c.requires, c.if-p-2.true)));
    }

pub put_changed-requires : goal.put_changed-requires
put_changed-requires c =
    put_fits _ _ _ _ c.requires c.if-p-2.false

pub enter-requires : goal.enter-requires
enter-requires c =
    (omega (arith, c.if-p-2.false, c.requires.few, c.requires.most), rw c.hash_changed-h.ensures (bucket_small _))

pub returns : goal.returns
returns c =
    let sized = changed_sized c.args.memory.now.weighed.front c.args.change in record {
      extended = extended_put _ _ _ _ c.requires c.if-p-2.false _ _ sized c.put_changed.ensures _ _ c.hash_changed-h.ensures (c.enter.ensures _ _);
      offers = λ ns ρ room m y q low. found_put _ _ _ _ c.requires c.if-p-2.false _ _ sized c.put_changed.ensures
          ∙ sym (offer_more _ _ _ _ _ (found_full _ _ _ ∙ c.if-p.false) (told (goal.at.returns c).After-find ns ρ m y low ∙ c.if-find.false) (changed_record y c.args.memory.now.weighed.front c.args.change)
          (omega (arith, q, found_count c.requires, c.requires.few, c.if-p-2.false)));
    }
