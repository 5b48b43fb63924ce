-- `program::drawing::draw_fit` meets its contract.
use Prim.Native.Nat.{ℕ}
use mathlib.Core.List.{List}
use mathlib.Core.Path.{◌≡◌, refl, sym, ◌∙◌, ap}
use native.Mathlib.Omega.{arith}
use Rattle.std.specs.Prelude.{Ok, Err, ◌*◌, leb, length}
use Rattle.program.specs.Asking.{ask}
use Rattle.program.specs.Drawing.{drawn, drawn_by, drawn_buffer, drawn_buffer_by, draw_validity, over}
use Rattle.program.specs.Questions.{validity}
use Rattle.signs.proofs.Results.{handed_on}
use borrow.Author.Tests.{leb-true}
use Rattle.program.proofs.Asking.{ask_fit, passed}
use Rattle.program.specs.Parts.DrawingParts.{rows_in}
use Rattle.program.specs.Graph.{edge_count}
use Rattle.program.proofs.Drawings.{rows_all}
use Rattle.program.proofs.drawing.draw_fit.Goals as goal
use Rattle.program.proofs.drawing.draw_fit.Goals.{After-ask, After-edge_count-edges}

-- how many edges were drawn
edges : (c : After-edge_count-edges) → c.edge_count-edges.result ≡ edge_count c.args.construction c.args.s.now
edges c = c.edge_count-edges.ensures ∙ c.put_graph.ensures.edges

pub put_graph-requires : goal.put_graph-requires
put_graph-requires c = (c.requires, c.fit_layout-l.ensures, refl)

-- question 13 is all that is left to ask
asked : (c : After-ask) → validity c.args.s.now ≡ Ok tt → c.edge_count-edges.result ≡ edge_count c.args.construction c.args.s.now → c.ask.result ≡ draw_validity c.args.construction c.args.s.now c.args.buffer.now
unfolding draw_validity
asked c fit e = passed fit (c.ask.ensures ∙ ap (λ (n : ℕ). ask (leb (7 * n) (length c.args.buffer.now)) 13 0) e)

pub returns-in_err-ask : goal.returns-in_err-ask
unfolding drawn drawn_by drawn_buffer drawn_buffer_by
returns-in_err-ask c =
    let p = goal.at.returns-in_err-ask c in
    let no : draw_validity c.args.construction c.args.s.now c.args.buffer.now ≡ Err _ = sym (asked p.After-ask c.requires (edges p.After-edge_count-edges)) ∙ c.in_err-ask.was in
    rw no (handed_on _ c.from_residual.ensures.1, refl)

pub put_bytes-requires : goal.put_bytes-requires
put_bytes-requires c =
    let long = leb-true _ _ (ask_fit _ 13 0 (sym c.ask.ensures ∙ c.in_ok-ask.was)) in
    omega (arith, long, c.edge_count-edges.ensures)

pub returns : goal.returns
unfolding drawn drawn_by drawn_buffer drawn_buffer_by
returns c =
    let s = c.args.s.now in
    let b = c.args.buffer.now in
    let g = c.put_graph.ensures in
    let p = goal.at.returns c in
    let yes : draw_validity c.args.construction s b ≡ Ok tt = sym (asked p.After-ask c.requires (edges p.After-edge_count-edges)) ∙ c.in_ok-ask.was in
    rw yes
    (rw (c.node_count.ensures ∙ g.nodes, edges p.After-edge_count-edges), c.put_bytes.ensures ∙ ap (λ (x : List ℕ). over x b) (ap (rows_in _) g.edges ∙ rows_all _ s _ g))
