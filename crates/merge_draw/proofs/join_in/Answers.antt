-- `merge_draw::join_in` meets its contract: both sides and the joined line are read back from where they were written. Assumes nothing.
use Rattle.std.specs.Prelude.{Option}
use mathlib.Core.Path.{◌≡◌, sym}
use mathlib.Core.List.{List}
use Prim.Native.Nat.{◌*◌, ◌≤◌}
use native.Mathlib.Omega.{arith}
use lib.Ieee.{Float}
use lib.ListN.{length, take}
use lib.Seq.{length-take-le}
use borrow.Author.Rules.{rules}
use Rattle.polyline.specs.Polyline.{points, concat}
use Rattle.entities.specs.Records.{Line}
use Rattle.lookup.specs.Lookup.{row_at, points_or, side_line}
use Rattle.lookup.proofs.Center.{oriented-few}
use Rattle.merge_draw.proofs.Laws.{side-small, side-room, side-back, joined-room, joined_small, joined-reach, joined_back, joined-fits, line-drawn}
use Rattle.merge_draw.proofs.join_in.Goals as goal
use Rattle.merge_draw.proofs.join_in.Lts as lts
use Rattle.merge_draw.proofs.join_in.Reads as reads
use Rattle.merge_draw.proofs.join_in.Tie as tie

abbrev AtAfterPointsM : Type 0
AtAfterPointsM = lts.After-unwrap_or2 tie.the-claims reads.Pre reads.Post

abbrev AtAfterConcatSize : Type 0
AtAfterConcatSize = lts.After-concat tie.the-claims reads.Pre reads.Post

-- both sides, and what was written of them
abbrev join : AtAfterPointsM → Float
join c = c.args.join

abbrev one : AtAfterPointsM → Option Line
one c = side_line c.args.map.coordinates.now c.args.map.lanes.now c.args.map.boundaries.now c.args.i c.args.side

abbrev two : AtAfterPointsM → Option Line
two c = side_line c.args.map.coordinates.now c.args.map.lanes.now c.args.map.boundaries.now c.args.j c.args.side

abbrev a : AtAfterPointsM → Line
a c = points_or (one c)

abbrev b : AtAfterPointsM → Line
b c = points_or (two c)

abbrev oneOut : AtAfterPointsM → List Float
oneOut c = c.oriented_boundary.new.out

abbrev twoOut : AtAfterPointsM → List Float
twoOut c = c.oriented_boundary-2.new.out

abbrev ps : AtAfterPointsM → Line
ps c = points (take (c.unwrap_or-n.result * 3) (oneOut c))

abbrev qs : AtAfterPointsM → Line
qs c = points (take (c.unwrap_or-m.result * 3) (twoOut c))

few-one : (c : AtAfterPointsM) → length (a c) ≤ 256
few-one c = oriented-few c.args.map.coordinates.now c.args.map.boundaries.now (row_at 52 c.args.map.lanes.now c.args.i) c.args.side c.requires.0.drawable.boundaries_short

few-two : (c : AtAfterPointsM) → length (b c) ≤ 256
few-two c = oriented-few c.args.map.coordinates.now c.args.map.boundaries.now (row_at 52 c.args.map.lanes.now c.args.j) c.args.side c.requires.0.drawable.boundaries_short

small_one : (c : AtAfterPointsM) → c.unwrap_or-n.result * 3 ≤ 768
small_one c = side-small (one c) c.args.one.now (oneOut c) (few-one c) c.requires.1.0 c.oriented_boundary.ensures.1 c.oriented_boundary.result c.oriented_boundary.ensures.0 c.unwrap_or-n.result c.unwrap_or-n.ensures

small-two : (c : AtAfterPointsM) → c.unwrap_or-m.result * 3 ≤ 768
small-two c = side-small (two c) c.args.two.now (twoOut c) (few-two c) c.requires.1.1.0 c.oriented_boundary-2.ensures.1 c.oriented_boundary-2.result c.oriented_boundary-2.ensures.0 c.unwrap_or-m.result c.unwrap_or-m.ensures

room-one : (c : AtAfterPointsM) → c.unwrap_or-n.result * 3 ≤ length (oneOut c)
room-one c = side-room (one c) c.args.one.now (oneOut c) (few-one c) c.requires.1.0 c.oriented_boundary.ensures.1 c.oriented_boundary.result c.oriented_boundary.ensures.0 c.unwrap_or-n.result c.unwrap_or-n.ensures

room-two : (c : AtAfterPointsM) → c.unwrap_or-m.result * 3 ≤ length (twoOut c)
room-two c = side-room (two c) c.args.two.now (twoOut c) (few-two c) c.requires.1.1.0 c.oriented_boundary-2.ensures.1 c.oriented_boundary-2.result c.oriented_boundary-2.ensures.0 c.unwrap_or-m.result c.unwrap_or-m.ensures

back_one : (c : AtAfterPointsM) → ps c ≡ a c
back_one c = side-back (one c) c.args.one.now (oneOut c) (few-one c) c.requires.1.0 c.oriented_boundary.ensures.1 c.oriented_boundary.result c.oriented_boundary.ensures.0 c.unwrap_or-n.result c.unwrap_or-n.ensures

back-two : (c : AtAfterPointsM) → qs c ≡ b c
back-two c = side-back (two c) c.args.two.now (twoOut c) (few-two c) c.requires.1.1.0 c.oriented_boundary-2.ensures.1 c.oriented_boundary-2.result c.oriented_boundary-2.ensures.0 c.unwrap_or-m.result c.unwrap_or-m.ensures

-- the joined line, and what was written of it
abbrev lineOut : AtAfterConcatSize → List Float
lineOut c = c.concat-size.new.out

small_line : (c : AtAfterConcatSize) → c.concat-size.result * 3 ≤ 1536
small_line c = joined_small (join c.before.before) (a c.before.before) (b c.before.before) (ps c.before.before) (qs c.before.before) (back_one c.before.before) (back-two c.before.before) (few-one c.before.before) (few-two c.before.before) c.args.line.now c.requires.1.1.1 (lineOut c) c.concat-size.result c.concat-size.ensures.0 c.concat-size.ensures.1

room-line : (c : AtAfterConcatSize) → c.concat-size.result * 3 ≤ length (lineOut c)
room-line c = joined-reach (join c.before.before) (a c.before.before) (b c.before.before) (ps c.before.before) (qs c.before.before) (back_one c.before.before) (back-two c.before.before) (few-one c.before.before) (few-two c.before.before) c.args.line.now c.requires.1.1.1 (lineOut c) c.concat-size.result c.concat-size.ensures.0 c.concat-size.ensures.1

back-line : (c : AtAfterConcatSize) → points (take (c.concat-size.result * 3) (lineOut c)) ≡ concat (join c.before.before) (a c.before.before) (b c.before.before)
back-line c = joined_back (join c.before.before) (a c.before.before) (b c.before.before) (ps c.before.before) (qs c.before.before) (back_one c.before.before) (back-two c.before.before) (few-one c.before.before) (few-two c.before.before) c.args.line.now c.requires.1.1.1 (lineOut c) c.concat-size.result c.concat-size.ensures.0 c.concat-size.ensures.1

fits_line : (c : AtAfterConcatSize) → length (points (take (c.concat-size.result * 3) (lineOut c))) * 3 ≤ length c.args.out.now
fits_line c = joined-fits (join c.before.before) (a c.before.before) (b c.before.before) (ps c.before.before) (qs c.before.before) (back_one c.before.before) (back-two c.before.before) (few-one c.before.before) (few-two c.before.before) c.args.line.now c.requires.1.1.1 (lineOut c) c.concat-size.result c.concat-size.ensures.0 c.concat-size.ensures.1 c.args.out.now c.requires.0.room

pub overflow_mul-one_end : goal.overflow_mul-one_end
overflow_mul-one_end c = omega (arith, small_one c.before)

pub overflow_mul-two_end : goal.overflow_mul-two_end
overflow_mul-two_end c = omega (arith, small-two c.before)

pub slice_bounds-concat-end : goal.slice_bounds-concat-end
slice_bounds-concat-end c = room-one c.before

pub slice_bounds-concat-end-2 : goal.slice_bounds-concat-end-2
slice_bounds-concat-end-2 c = sym (length-take-le (c.unwrap_or-n.result * 3) (oneOut c.before) (room-one c.before))

pub slice_bounds-concat-end-3 : goal.slice_bounds-concat-end-3
slice_bounds-concat-end-3 c = room-two c.before

pub slice_bounds-concat-end-4 : goal.slice_bounds-concat-end-4
slice_bounds-concat-end-4 c = sym (length-take-le (c.unwrap_or-m.result * 3) (twoOut c.before) (room-two c.before))

pub concat-size-requires : goal.concat-size-requires
concat-size-requires c = joined-room (join c.before.before) (a c.before.before) (b c.before.before) (ps c.before.before) (qs c.before.before) (back_one c.before.before) (back-two c.before.before) (few-one c.before.before) (few-two c.before.before) c.args.line.now c.requires.1.1.1

pub overflow_mul-end : goal.overflow_mul-end
overflow_mul-end c = omega (arith, small_line c.before.before.before)

pub slice_bounds-put_line-end : goal.slice_bounds-put_line-end
slice_bounds-put_line-end c = room-line c.before.before.before

pub slice_bounds-put_line-end-2 : goal.slice_bounds-put_line-end-2
slice_bounds-put_line-end-2 c = sym (length-take-le (c.concat-size.result * 3) (lineOut c.before.before.before) (room-line c.before.before.before))

pub put_line-requires : goal.put_line-requires
put_line-requires c = fits_line c.before.before.before

pub returns : goal.returns
returns c = line-drawn (concat (join c.before.before.before.before.before.before.before.before.before) (a c.before.before.before.before.before.before.before.before.before) (b c.before.before.before.before.before.before.before.before.before)) (points (take (c.concat-size.result * 3) (lineOut c.before.before.before.before.before.before.before))) (back-line c.before.before.before.before.before.before.before) c.args.back c.put_line.result c.args.out.now c.put_line.new.out c.put_line.ensures.0 c.put_line.ensures.1
