-- `merge_draw::join_center` meets its contract: both lines are lent as they are stored. Assumes nothing.
use borrow.Author.Rules.{rules}
use native.Mathlib.Omega.{arith}
use mathlib.Core.Path.{refl}
use Rattle.polyline.specs.Polyline.{points}
use Rattle.tables.specs.View.{line_at}
use Rattle.lookup.specs.Lookup.{row_at}
use Rattle.lookup.proofs.Laws.{sorted-row}
use Rattle.merge_draw.proofs.Laws.{center_lent, center_few, center_is, joined-room, centers-drawn}
use Rattle.merge_draw.proofs.join_center.Goals as goal

pub overflow_mul-a : goal.overflow_mul-a
overflow_mul-a c = omega (arith, sorted-row 1024 52 c.args.lanes.now c.requires.sorted c.args.i c.requires.first)

pub overflow_add-a : goal.overflow_add-a
overflow_add-a c = omega (arith, sorted-row 1024 52 c.args.lanes.now c.requires.sorted c.args.i c.requires.first)

pub overflow_add-a-2 : goal.overflow_add-a-2
overflow_add-a-2 c = omega (arith, sorted-row 1024 52 c.args.lanes.now c.requires.sorted c.args.i c.requires.first)

pub overflow_mul-b : goal.overflow_mul-b
overflow_mul-b c = omega (arith, sorted-row 1024 52 c.args.lanes.now c.requires.sorted c.args.j c.requires.second)

pub overflow_add-b : goal.overflow_add-b
overflow_add-b c = omega (arith, sorted-row 1024 52 c.args.lanes.now c.requires.sorted c.args.j c.requires.second)

pub overflow_add-b-2 : goal.overflow_add-b-2
overflow_add-b-2 c = omega (arith, sorted-row 1024 52 c.args.lanes.now c.requires.sorted c.args.j c.requires.second)

pub overflow_add-a-3 : goal.overflow_add-a-3
overflow_add-a-3 c = omega (arith, sorted-row 1024 52 c.args.lanes.now c.requires.sorted c.args.i c.requires.first)

pub line_of-one-requires : goal.line_of-one-requires
line_of-one-requires c = (omega (arith, sorted-row 1024 52 c.args.lanes.now c.requires.sorted c.args.i c.requires.first), center_lent c.args.coordinates.now c.args.lanes.now c.args.i c.requires.first_has c.requires.centers c.requires.first)

pub overflow_add-b-3 : goal.overflow_add-b-3
overflow_add-b-3 c = omega (arith, sorted-row 1024 52 c.args.lanes.now c.requires.sorted c.args.j c.requires.second)

pub line_of-two-requires : goal.line_of-two-requires
line_of-two-requires c = (omega (arith, sorted-row 1024 52 c.args.lanes.now c.requires.sorted c.args.j c.requires.second), center_lent c.args.coordinates.now c.args.lanes.now c.args.j c.requires.second_has c.requires.centers c.requires.second)

pub concat-requires : goal.concat-requires
concat-requires c = joined-room c.args.join (points c.line_of-one.result.now) (points c.line_of-two.result.now) (points c.line_of-one.result.now) (points c.line_of-two.result.now) refl refl (center_few c.args.coordinates.now c.args.lanes.now c.args.i c.requires.first_has c.requires.centers c.requires.first c.line_of-one.result.now c.line_of-one.ensures) (center_few c.args.coordinates.now c.args.lanes.now c.args.j c.requires.second_has c.requires.centers c.requires.second c.line_of-two.result.now c.line_of-two.ensures) c.args.out.now c.requires.room

pub returns : goal.returns
returns c = centers-drawn c.args.join (line_at c.args.coordinates.now 7 (row_at 52 c.args.lanes.now c.args.i)) (line_at c.args.coordinates.now 7 (row_at 52 c.args.lanes.now c.args.j)) (points c.line_of-one.result.now) (points c.line_of-two.result.now) (center_is c.args.coordinates.now c.args.lanes.now c.args.i c.requires.first_has c.requires.centers c.requires.first c.line_of-one.result.now c.line_of-one.ensures) (center_is c.args.coordinates.now c.args.lanes.now c.args.j c.requires.second_has c.requires.centers c.requires.second c.line_of-two.result.now c.line_of-two.ensures) c.concat.result c.args.out.now c.concat.new.out c.concat.ensures.0 c.concat.ensures.1
