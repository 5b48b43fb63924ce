-- `unfolding definitions` opens every definition of `listing` and of the crates below to a proof that goes by computation.
use mathlib.Core.List.{flat_map}
use Rattle.listing.specs.Text
use Rattle.listing.specs.Examples
use Rattle.analysis.proofs.Open as Below

unfoldable pub definitions : Unit {0}
unfolding Text.ascii Text.places_up_to Text.decimal Text.labelled Text.mark_text Text.line_text Text.printed_text Examples.factorial_text Examples.store_text Examples.cases flat_map Below.definitions
definitions = tt
