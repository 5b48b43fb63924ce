-- The cycle of calls {`program::prepared::graphing::draw_part`}: a part is lower than what it is a part of, so the measure is `bound`.
use Prim.Native.Nat.{ℕ, ◌<◌}
use mathlib.Core.List.{List, []}
use mathlib.Core.Path.{◌≡◌, refl, sym, subst}
use native.Mathlib.Omega.{arith}
use Rattle.program.specs.Graph.{Around, within}
use Rattle.program.specs.Parts.GraphingParts.{Strip, strip, fresh_of, next_of, part_at, Room, Drew}
use Rattle.program.specs.Parts.Prepared.{entries_in}
use Rattle.program.specs.Tree.{Entries}
use Rattle.program.specs.declared.CommandNode.{CommandNode}
use Rattle.program.proofs.Forms.{CommandParts, command_lower}
use Rattle.program.proofs.Rows.{taking, Taken, taken, first_as, rest_as, drawn_as, strip_part, first_grows, rest_grows, first_room, second_room, both_drawn, drew_only, drew_entries}
use Rattle.program.proofs.prepared.graphing.+draw_part.Goals as goal
use Rattle.program.proofs.prepared.graphing.+draw_part.Goals.{After-command_node-node}

-- where the entry is known
module _ (t : ℕ) (c : After-command_node-node t) where
  abbrev commands : Entries
  commands = entries_in [] c.args.graph.now

  abbrev fresh : ℕ
  fresh = fresh_of c.args.pen

  abbrev around : Around
  around = within c.args.around.now.first c.args.around.now.last

  -- the entry's numbers, and what drawing does with a part of them, from a pen on
  abbrev whole : Strip
  whole = strip c.args.around.now.construction around (part_at commands c.args.bound c.args.n) c.args.a c.args.b fresh

  abbrev Draws : Strip → ℕ → List ℕ → ℕ → Type 0
  Draws x pen after r = Drew x (next_of pen) c.args.graph.now after r

  module _ {k : CommandNode} (told : c.command_node-node.result ≡ k) where
    -- by what it is: the pen after the node that it takes, the first part from a fresh node on, and the rest
    abbrev pen : ℕ
    pen = taking k c.args.pen

    abbrev front : ℕ → Strip
    front = first_as c.args.around.now.construction commands around c.args.n k c.args.a c.args.b fresh

    abbrev rest_in : Entries → ℕ → Strip
    rest_in es = rest_as c.args.around.now.construction es around c.args.n k c.args.a c.args.b fresh

    abbrev rest : ℕ → Strip
    rest = rest_in commands

    same : whole ≡ drawn_as c.args.around.now.construction commands around c.args.n k c.args.a c.args.b fresh
    same = strip_part _ c.args.around.now.construction around _ _ (c.command_node-node.ensures []) told c.args.a c.args.b fresh

    room : Room (drawn_as c.args.around.now.construction commands around c.args.n k c.args.a c.args.b fresh) (next_of c.args.pen)
    room = rw same at c.requires

    fitting : Room (front (taking k fresh)) (next_of c.args.pen)
    unfolding drawn_as
    fitting = first_room (front (taking k fresh)) rest (rest_grows _ _ _ _ k _ _ _) room

    next : Taken k c.args.pen
    next = taken _ _ (omega (arith, fitting.nodes_fit, first_grows c.args.around.now.construction commands around c.args.n k c.args.a c.args.b fresh (taking k fresh)))

    first : Room (front (fresh_of pen)) (next_of pen)
    first = rw (next.fresh, next.next) fitting

    drew : {after : List ℕ} {r : ℕ} → Draws (front (fresh_of pen)) pen after r → Draws (front (taking k fresh)) c.args.pen after r
    drew d = rw (next.fresh, next.next) at d

    -- the first part leaves the commands as they are
    left : {after : List ℕ} {r : ℕ} → Draws (front (fresh_of pen)) pen after r → entries_in [] after ≡ commands
    left d = drew_entries (front (taking k fresh)) (omega (arith, fitting.words_fit)) (drew d)

    second : {after : List ℕ} {r : ℕ} → Draws (front (fresh_of pen)) pen after r → Room (rest_in (entries_in [] after) (fresh_of r)) (next_of r)
    unfolding drawn_as
    second {r = r} d = subst (λ (es : Entries). Room (rest_in es (fresh_of r)) (next_of r)) (sym (left d)) (second_room (front (taking k fresh)) rest room (drew d))

    both : {between after : List ℕ} {q r : ℕ} → Draws (front (fresh_of pen)) pen between q → Drew (rest_in (entries_in [] between) (fresh_of q)) (next_of q) between after r → Draws whole c.args.pen after r
    unfolding drawn_as
    both {between} {after} {q} {r} d e =
        let last = subst (λ (es : Entries). Drew (rest_in es (fresh_of q)) (next_of q) between after r) (left d) e in
        rw same (both_drawn (front (taking k fresh)) rest room (drew d) last)

    -- where the first part is all
    only : {after : List ℕ} {r : ℕ} → rest ≡ (λ f. record { words = []; fresh = f }) → Draws (front (fresh_of pen)) pen after r → Draws whole c.args.pen after r
    unfolding drawn_as
    only e d = rw (same, e) (drew_only (front (taking k fresh)) (drew d))

    -- an entry that has parts is lower
    lower : CommandParts k → c.args.n < t
    lower parts =
        let below = command_lower commands c.args.bound c.args.n (c.command_node-node.ensures []) told parts in
        omega (arith)

pub draw_edge-requires : goal.draw_edge-requires
unfolding taking first_as
draw_edge-requires t c = first t (goal.at.draw_edge-requires t c).After-command_node-node c.in-Skip.is

pub draw_edge-requires-in-Assign : goal.draw_edge-requires-in-Assign
unfolding taking first_as
draw_edge-requires-in-Assign t c = first t (goal.at.draw_edge-requires-in-Assign t c).After-command_node-node c.in-Assign.is

pub draw_edge-requires-in-Store : goal.draw_edge-requires-in-Store
unfolding taking first_as
draw_edge-requires-in-Store t c = first t (goal.at.draw_edge-requires-in-Store t c).After-command_node-node c.in-Store.is

pub overflow_add-pen : goal.overflow_add-pen
unfolding taking
overflow_add-pen t c = record { fits = omega (arith, (next t (goal.at.overflow_add-pen t c).After-command_node-node c.in-Sequence.is).fresh) }

pub draw_part-front-requires : goal.draw_part-front-requires
unfolding taking first_as
draw_part-front-requires t c =
    let told = c.in-Sequence.is in
    (lower t (goal.at.draw_part-front-requires t c).After-command_node-node told tt, first t (goal.at.draw_part-front-requires t c).After-command_node-node told)

pub draw_part-requires : goal.draw_part-requires
unfolding taking first_as rest_as
draw_part-requires t c =
    let told = c.in-Sequence.is in
    (lower t (goal.at.draw_part-requires t c).After-command_node-node told tt, second t (goal.at.draw_part-requires t c).After-command_node-node told c.draw_part-front.ensures)

pub draw_part-requires-in-Conditional : goal.draw_part-requires-in-Conditional
unfolding taking first_as
draw_part-requires-in-Conditional t c =
    let told = c.in-Conditional.is in
    (lower t (goal.at.draw_part-requires-in-Conditional t c).After-command_node-node told tt, first t (goal.at.draw_part-requires-in-Conditional t c).After-command_node-node told)

pub draw_part-body-requires : goal.draw_part-body-requires
unfolding taking first_as
draw_part-body-requires t c =
    let told = c.in-Iteration.is in
    (lower t (goal.at.draw_part-body-requires t c).After-command_node-node told tt, first t (goal.at.draw_part-body-requires t c).After-command_node-node told)

pub draw_edge-requires-in-Iteration : goal.draw_edge-requires-in-Iteration
unfolding taking first_as rest_as
draw_edge-requires-in-Iteration t c =
    let told = c.in-Iteration.is in
    second t (goal.at.draw_edge-requires-in-Iteration t c).After-command_node-node told c.draw_part-body.ensures

pub overflow_add-pen-in-Guarded : goal.overflow_add-pen-in-Guarded
unfolding taking
overflow_add-pen-in-Guarded t c = record { fits = omega (arith, (next t (goal.at.overflow_add-pen-in-Guarded t c).After-command_node-node c.in-Guarded.is).fresh) }

pub draw_guard-guard-requires : goal.draw_guard-guard-requires
unfolding taking first_as
draw_guard-guard-requires t c =
    let told = c.in-Guarded.is in
    first t (goal.at.draw_guard-guard-requires t c).After-command_node-node told

pub draw_part-requires-in-Guarded : goal.draw_part-requires-in-Guarded
unfolding taking first_as rest_as
draw_part-requires-in-Guarded t c =
    let told = c.in-Guarded.is in
    (lower t (goal.at.draw_part-requires-in-Guarded t c).After-command_node-node told tt, second t (goal.at.draw_part-requires-in-Guarded t c).After-command_node-node told c.draw_guard-guard.ensures)

pub draw_part-front-requires-in-Choice : goal.draw_part-front-requires-in-Choice
unfolding taking first_as
draw_part-front-requires-in-Choice t c =
    let told = c.in-Choice.is in
    (lower t (goal.at.draw_part-front-requires-in-Choice t c).After-command_node-node told tt, first t (goal.at.draw_part-front-requires-in-Choice t c).After-command_node-node told)

pub draw_part-requires-in-Choice : goal.draw_part-requires-in-Choice
unfolding taking first_as rest_as
draw_part-requires-in-Choice t c =
    let told = c.in-Choice.is in
    (lower t (goal.at.draw_part-requires-in-Choice t c).After-command_node-node told tt, second t (goal.at.draw_part-requires-in-Choice t c).After-command_node-node told c.draw_part-front-in-Choice.ensures)

pub draw_edge-requires-in-Jump : goal.draw_edge-requires-in-Jump
unfolding taking first_as
draw_edge-requires-in-Jump t c =
    let told = c.in-Jump.is in
    rw c.landing.ensures (first t (goal.at.draw_edge-requires-in-Jump t c).After-command_node-node told)

pub returns-in-Skip : goal.returns-in-Skip
unfolding taking first_as rest_as
returns-in-Skip t c =
    let told = c.in-Skip.is in
    only t (goal.at.returns-in-Skip t c).After-command_node-node told refl c.draw_edge.ensures

pub returns-in-Assign : goal.returns-in-Assign
unfolding taking first_as rest_as
returns-in-Assign t c =
    let told = c.in-Assign.is in
    only t (goal.at.returns-in-Assign t c).After-command_node-node told refl c.draw_edge-in-Assign.ensures

pub returns-in-Store : goal.returns-in-Store
unfolding taking first_as rest_as
returns-in-Store t c =
    let told = c.in-Store.is in
    only t (goal.at.returns-in-Store t c).After-command_node-node told refl c.draw_edge-in-Store.ensures

pub returns-in-Sequence : goal.returns-in-Sequence
unfolding taking first_as rest_as
returns-in-Sequence t c =
    let told = c.in-Sequence.is in
    both t (goal.at.returns-in-Sequence t c).After-command_node-node told c.draw_part-front.ensures c.draw_part.ensures

pub returns-in-Conditional : goal.returns-in-Conditional
unfolding taking first_as rest_as
returns-in-Conditional t c =
    let told = c.in-Conditional.is in
    only t (goal.at.returns-in-Conditional t c).After-command_node-node told refl c.draw_part-in-Conditional.ensures

pub returns-in-Iteration : goal.returns-in-Iteration
unfolding taking first_as rest_as
returns-in-Iteration t c =
    let told = c.in-Iteration.is in
    both t (goal.at.returns-in-Iteration t c).After-command_node-node told c.draw_part-body.ensures c.draw_edge-in-Iteration.ensures

pub returns-in-Guarded : goal.returns-in-Guarded
unfolding taking first_as rest_as
returns-in-Guarded t c =
    let told = c.in-Guarded.is in
    both t (goal.at.returns-in-Guarded t c).After-command_node-node told c.draw_guard-guard.ensures c.draw_part-in-Guarded.ensures

pub returns-in-Choice : goal.returns-in-Choice
unfolding taking first_as rest_as
returns-in-Choice t c =
    let told = c.in-Choice.is in
    both t (goal.at.returns-in-Choice t c).After-command_node-node told c.draw_part-front-in-Choice.ensures c.draw_part-in-Choice.ensures

pub returns-in-Jump : goal.returns-in-Jump
unfolding taking first_as rest_as
returns-in-Jump t c =
    let told = c.in-Jump.is in
    only t (goal.at.returns-in-Jump t c).After-command_node-node told refl (rw c.landing.ensures at c.draw_edge-in-Jump.ensures)
