-- `set_table::put`: set by set.
use Rattle.std.proofs.Common.{◌≡◌, ◌≢◌, ℕ, ◌<◌, List, length, take, drop, arith, below_more, length-drop, length-take-le, get_or-set_other, get_or-set_same}
use Rattle.signs.proofs.Laws.{table_rows}
use Rattle.analysis.proofs.Tables.{table_put}
use Rattle.analysis.proofs.set_table.put.Goals as goal

pub loop-k-init : goal.loop-k-init
loop-k-init c i h = absurd (omega arith)

long : (old : List ℕ) → length old ≡ 3459 → length (take 320 (drop 3139 old)) ≡ 320
long old h = length-take-le 320 (drop 3139 old) (omega (arith, length-drop 3139 old))

pub loop-k-preserved : goal.loop-k-preserved
loop-k-preserved c =
    let l = c.loop-k in
    let sized = long c.args.code.now c.told-code in
    let inside : l.k < length l.place-items = omega arith in
    below_more _ _
    (λ i h. let ne : i ≢ l.k = omega arith in rw get_or-set_other (l.invariant i h))
    (rw (get_or-set_same, c.set_table-table.ensures) (table_rows _ (omega arith)))

pub returns : goal.returns
returns c =
    let l = c.loop-k in
    let sized = long c.args.code.now c.told-code in
    table_put c.args.code.now l.place-items c.requires (omega arith) (λ i h. l.invariant i (omega arith))
