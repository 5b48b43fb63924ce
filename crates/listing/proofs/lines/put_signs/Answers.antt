-- `lines::put_signs`: the signs passed are put.
use mathlib.Core.List.{List, flat_map}
use Prim.Native.Nat.{ℕ}
use native.Mathlib.Numerals.{add-one}
use native.Mathlib.Omega.{arith}
use lib.ListN.{get_or}
use Rattle.listing.specs.Parts.Writing.{Put}
use Rattle.listing.specs.Text.{ascii, labelled}
use Rattle.listing.proofs.Placing.{put_none, room_next, put_next, room_list, put_list, put_length}
use Rattle.listing.proofs.lines.put_signs.Goals as goal
use Rattle.listing.proofs.lines.put_signs.Goals.{After-loop-set}

-- a sign after a space, and the sign at a place
abbrev spaced : ℕ → List ℕ
spaced = labelled (ascii " ")

abbrev sign : List ℕ → ℕ → ℕ
sign signs i = get_or signs i 0

pub loop-set-init : goal.loop-set-init
loop-set-init c = put_none spaced (sign c.args.signs.now) c.args.at c.args.out.now

pub put_sign-after-requires : goal.put_sign-after-requires
put_sign-after-requires c =
    room_next spaced (sign c.args.signs.now) (room_list spaced c.args.signs.now c.requires) (omega arith) c.loop-set.invariant

pub loop-set-preserved : goal.loop-set-preserved
loop-set-preserved c =
    rw add-one (put_next spaced (sign c.args.signs.now) (room_list spaced c.args.signs.now c.requires) (omega arith) c.loop-set.invariant c.put_sign-after.ensures)

-- all of them at the end
whole : (c : After-loop-set) → (Put c.args.at (flat_map spaced c.args.signs.now) c.args.out.now c.loop-set.out c.loop-set.after)
whole c = put_list spaced c.args.signs.now {i = c.loop-set.set-index} (omega arith) c.loop-set.invariant

pub shape_of-out : goal.shape_of-out
shape_of-out c = put_length c.requires (whole (goal.at.shape_of-out c).After-loop-set)

pub returns : goal.returns
returns c = whole (goal.at.returns c).After-loop-set
