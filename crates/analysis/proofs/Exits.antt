-- The exit of a do has the truth answers and the index sets of its guards' falsehoods joined left to right.
use Rattle.std.proofs.Common.{◌≡◌, ℕ, List, [], ◌++◌, refl, append_assoc, append-nil}
use Rattle.signs.specs.Truth.{certain, conjoined}
use Rattle.signs.proofs.Laws.{conjoined_assoc, conjoined_certain, certain_conjoined}
use Rattle.program.specs.Graph.{guards, done}
use Rattle.program.specs.Parts.Guards.{all_false}
use Rattle.program.specs.Syntax.{Command}
use Rattle.program.proofs.Guards.{Joins}
use Rattle.program.proofs.Laws.{left_to_right}
use Rattle.analysis.specs.Index.{boolean_indexes}
use Rattle.analysis.specs.Signs.{truths_in}

answers_join : (ρ : List ℕ) → Joins (truths_in ρ) conjoined certain
unfolding truths_in
answers_join ρ =
    record {
      both = λ k a b. refl;
      yes = λ k. refl;
      not_labelled = λ k b. refl;
      assoc = conjoined_assoc;
      left_unit = certain_conjoined;
      right_unit = conjoined_certain;
    }

pub exit_answers : (ρ : List ℕ) (c : Command) → truths_in ρ (done c) ≡ truths_in ρ (all_false (guards c))
exit_answers ρ = left_to_right (answers_join ρ)

indexes_join : (ρ : List ℕ) → Joins (boolean_indexes ρ) ◌++◌ []
unfolding boolean_indexes
indexes_join ρ =
    record {
      both = λ k a b. refl;
      yes = λ k. refl;
      not_labelled = λ k b. refl;
      assoc = append_assoc;
      left_unit = λ a. refl;
      right_unit = append-nil;
    }

pub exit_indexes : (ρ : List ℕ) (c : Command) → boolean_indexes ρ (done c) ≡ boolean_indexes ρ (all_false (guards c))
exit_indexes ρ = left_to_right (indexes_join ρ)
