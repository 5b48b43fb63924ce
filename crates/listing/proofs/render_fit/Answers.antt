-- `render_fit`: by the solver's answer.
use mathlib.Core.Path.{◌≡◌}
use mathlib.Core.List.{List}
use Prim.Native.Nat.{ℕ}
use lib.ListN.{replicate, length-replicate}
use Rattle.std.specs.Prelude.{Ok, Err}
use Rattle.program.specs.declared.Refusal.{Refusal}
use Rattle.program.proofs.Laws.{program_fit}
use Rattle.analysis.specs.Sheet.{refusal_line}
use Rattle.analysis.specs.declared.Solved.{Solved}
use Rattle.analysis.specs.declared.Solving.TheVariants.{Finished, Full}
use Rattle.analysis.specs.declared.Unreadable.{Unreadable}
use Rattle.analysis.specs.declared.Unreadable.TheVariants.{Refused, Malformed}
use Rattle.analysis.specs.declared.WrongByte.{WrongByte}
use Rattle.listing.specs.Parts.Writing.{listing_text}
use Rattle.listing.specs.Text.{line_text, printed_text}
use Rattle.listing.proofs.Printed.{full_told, malformed_told, never_refused, finished_told, finished_marked}
use Rattle.listing.proofs.render_fit.Goals as goal
use Rattle.listing.proofs.render_fit.Goals.{After-solve_on-solved}

-- the text, by what the solver answers over a buffer of zeros
abbrev input : (x : After-solve_on-solved) → List ℕ
input x = x.args.input.now

full : (x : After-solve_on-solved) {list : Solved} → x.solve_on-solved.result ≡ Ok list → list.solving ≡ Full → printed_text (input x) ≡ line_text (refusal_line (record { number = 18; offset = 0 }))
full x =
    full_told (input x) x.requires.0 x.program_part-program.ensures x.initial_part.ensures (replicate 65536 0) (length-replicate {A = ℕ} 65536 0)
    x.solve_on-solved.ensures.value.0

malformed : (x : After-solve_on-solved) {y : Unreadable} → x.solve_on-solved.result ≡ Err y → (w : WrongByte) → y ≡ Malformed w → printed_text (input x) ≡ line_text (refusal_line (record { number = 17; offset = w.offset }))
malformed x =
    malformed_told (input x) x.requires.0 x.program_part-program.ensures x.initial_part.ensures (replicate 65536 0) (length-replicate {A = ℕ} 65536 0)
    x.solve_on-solved.ensures.value.0

refused : (x : After-solve_on-solved) {z : Unreadable} → x.solve_on-solved.result ≡ Err z → {A : Type 0} (y : Refusal) → z ≡ Refused y → A
refused x =
    never_refused (input x) x.requires.0 x.program_part-program.ensures x.initial_part.ensures (replicate 65536 0) (length-replicate {A = ℕ} 65536 0)
    x.solve_on-solved.ensures.value.0

finished : (x : After-solve_on-solved) {list : Solved} → x.solve_on-solved.result ≡ Ok list → list.solving ≡ Finished → listing_text x.program_part-program.result.now x.solve_on-solved.new.buffer list.count ≡ printed_text (input x)
finished x is told =
    finished_told (input x) x.requires.0 x.program_part-program.ensures x.initial_part.ensures (replicate 65536 0) (length-replicate {A = ℕ} 65536 0)
    x.solve_on-solved.ensures.value.0 is told x.solve_on-solved.ensures.value.1

pub put_listing-requires : goal.put_listing-requires
put_listing-requires c =
    let told = c.in-Finished.is in
    let program = c.program_part-program.ensures in
    record {
      fit = rw program (program_fit c.args.input.now c.requires.0);
      marked =
          finished_marked c.args.input.now c.requires.0 program c.initial_part.ensures (replicate 65536 0) (length-replicate {A = ℕ} 65536 0)
          c.solve_on-solved.ensures.value.0 c.in-Ok.is told c.solve_on-solved.ensures.value.1;
      room = rw (finished (goal.at.put_listing-requires c).After-solve_on-solved c.in-Ok.is told) c.requires.1;
    }

pub put_refusal-requires : goal.put_refusal-requires
put_refusal-requires c = rw (full (goal.at.put_refusal-requires c).After-solve_on-solved c.in-Ok.is c.in-Full.is) at c.requires.1

pub put_refusal-requires-in-Malformed : goal.put_refusal-requires-in-Malformed
put_refusal-requires-in-Malformed c = rw (malformed (goal.at.put_refusal-requires-in-Malformed c).After-solve_on-solved c.in-Err.is _ c.in-Malformed.is) at c.requires.1

pub returns-in-Finished : goal.returns-in-Finished
returns-in-Finished c = rw (finished (goal.at.returns-in-Finished c).After-solve_on-solved c.in-Ok.is c.in-Finished.is) at c.put_listing.ensures

pub returns-in-Full : goal.returns-in-Full
returns-in-Full c = rw (full (goal.at.returns-in-Full c).After-solve_on-solved c.in-Ok.is c.in-Full.is) c.put_refusal.ensures

pub returns-in-Malformed : goal.returns-in-Malformed
returns-in-Malformed c = rw (malformed (goal.at.returns-in-Malformed c).After-solve_on-solved c.in-Err.is _ c.in-Malformed.is) c.put_refusal-in-Malformed.ensures

pub returns-in-Refused : goal.returns-in-Refused
returns-in-Refused c = refused (goal.at.returns-in-Refused c).After-solve_on-solved c.in-Err.is _ c.in-Refused.is
