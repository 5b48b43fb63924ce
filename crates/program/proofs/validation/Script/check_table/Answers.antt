-- `program::validation::Script::check_table` meets its contract.
use Prim.Native.Nat.{ℕ, ◌<◌}
use mathlib.Core.Path.{sym, refl, ap, ◌∙◌, ◌≡◌, subst}
use native.Mathlib.Numerals.{add-one}
use native.Mathlib.Omega.{arith}
use Rattle.program.specs.FirstSuch.{first_of}
use Rattle.program.specs.Asking.{ask_each}
use Rattle.program.specs.Parts.Counting.{Counted}
use Rattle.program.specs.File.{entry_count}
use Rattle.program.specs.Parts.Jumping.{NotedTo}
use Rattle.program.specs.Questions.{table_validity, entry_validity, table_uses}
use Rattle.program.specs.declared.Span.{Span}
use Rattle.program.proofs.Asking.{each_raised, each_more, unanswered}
use Rattle.program.proofs.Counting.{counted_none, counted_then}
use Rattle.program.proofs.Noting.{noted_none, noted_next}
use Rattle.program.proofs.Reading.{laid_count, laid_start}
use Rattle.program.proofs.validation.Script.check_table.Goals as goal

pub loop-n-init : goal.loop-n-init
unfolding ask_each first_of table_uses
loop-n-init c = (refl, counted_none _ _ (λ u n h. refl), noted_none)

pub check_entry-requires : goal.check_entry-requires
check_entry-requires c =
    ap (λ (x : Span). x.start) c.span_of-span.ensures ∙ laid_start _ _ c.args.self.laid_out.same c.args.table

pub returns-in_err-check_entry : goal.returns-in_err-check_entry
unfolding table_validity
returns-in_err-check_entry c =
    let l = c.loop-n in
    let count : c.span_of-span.result.count ≡ entry_count c.args.self.bytes.now c.args.table =
    ap (λ (x : Span). x.count) c.span_of-span.ensures ∙ laid_count _ _ c.args.self.laid_out.same c.args.table in
    let below : l.n < entry_count c.args.self.bytes.now c.args.table = omega arith in
    record {
      checked = record {
        valid = each_raised _ (entry_validity c.args.self.bytes.now c.args.table) l.n below l.invariant.0 c.check_entry.ensures.checked.valid c.from_residual.ensures.1 c.in_err-check_entry.was;
        counted = unanswered _ _ c.from_residual.ensures.1;
      };
      noted = unanswered _ _ c.from_residual.ensures.1;
    }

pub loop-n-preserved : goal.loop-n-preserved
unfolding table_uses
loop-n-preserved c =
    let l = c.loop-n in
    let told = c.check_entry.ensures.checked in (
      rw add-one (each_more _ l.n l.invariant.0 told.valid c.in_ok-check_entry.was),
      simp add-one (counted_then _ _ _ _ _ l.invariant.1 (told.counted c.in_ok-check_entry.was)),
      rw add-one (noted_next l.n l.invariant.2 c.check_entry.ensures.noted),
    )

pub returns : goal.returns
unfolding table_validity
returns c =
    let l = c.loop-n in
    let count = ap (λ (x : Span). x.count) c.span_of-span.ensures ∙ laid_count _ _ c.args.self.laid_out.same c.args.table in
    let all : l.n ≡ entry_count c.args.self.bytes.now c.args.table = omega arith in
    record {
      checked = record {
        valid = sym (ap (λ n. ask_each n (entry_validity c.args.self.bytes.now c.args.table)) (sym all) ∙ l.invariant.0);
        counted = λ fit. subst (λ (k : ℕ). Counted c.args.uses.now l.uses (λ u n. table_uses c.args.self.bytes.now u n c.args.table k)) all l.invariant.1;
      };
      noted = λ fit. subst (λ (k : ℕ). NotedTo c.args.self.bytes.now c.args.table k c.args.jumps.now l.jumps) all l.invariant.2;
    }
