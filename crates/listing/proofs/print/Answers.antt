-- As many bytes are written as were put, and they are the text.
use mathlib.Core.Path.{◌≡◌, sym, subst}
use Rattle.std.proofs.Common.{◌≤◌, length, take, length-take-le}
use Rattle.std.proofs.Math.Seq.{take-append_seam}
use Rattle.std.specs.Prelude.{OnOk}
use Rattle.std.specs.Io.KnownBytes.{Appends}
use Rattle.program.specs.Drawing.{over}
use Rattle.listing.specs.Text as spec
use Rattle.listing.proofs.Placing.{over_long}
use Rattle.listing.proofs.print.Goals as goal

pub slice_bounds-text-end : goal.slice_bounds-text-end
slice_bounds-text-end g c = rw (c.render-count.ensures.0, c.render-count.ensures.1) (over_long _ _)

pub slice_bounds-write_all-end : goal.slice_bounds-write_all-end
slice_bounds-write_all-end g c =
    let within : c.render-count.result ≤ length c.render-count.new.out = rw (c.render-count.ensures.0, c.render-count.ensures.1) (over_long _ _) in
    sym (length-take-le _ _ within)

pub returns : goal.returns
unfolding over
returns g c =
    let told : take c.render-count.result c.render-count.new.out ≡ spec.printed_text c.args.input.now =
    rw (c.render-count.ensures.0, c.render-count.ensures.1) (take-append_seam _ _) in
    subst (λ xs. OnOk c.write_all.result (Appends (g.W.Write.contents c.args.out.now) (g.W.Write.contents c.write_all.new.self) xs)) told c.write_all.ensures.bytes
