-- `merge_room::fits` meets its contract. Assumes nothing.
use native.Mathlib.Omega.{arith}
use Rattle.lookup.proofs.Laws.{sorted-few, sorted-room}
use Rattle.merge_gone.specs.Leaving.{fits_after}
use Rattle.merge_gone.proofs.Points.{ids_few}
use Rattle.merge_room.proofs.fits.Goals as goal

pub bounds-map-0 : goal.bounds-map-0
bounds-map-0 c = omega (arith, sorted-room 4096 5 c.args.map.boundaries.now c.requires.counting.leaving.boundaries_are_sorted)

pub overflow_add-rows : goal.overflow_add-rows
overflow_add-rows c = omega (arith, c.side_ids.ensures, c.side_ids-2.ensures, ids_few c.args.plan.left, ids_few c.args.plan.right)

pub overflow_add-rows-2 : goal.overflow_add-rows-2
overflow_add-rows-2 c = omega (arith, c.side_ids.ensures, c.side_ids-2.ensures, ids_few c.args.plan.left, ids_few c.args.plan.right, sorted-few 4096 5 c.args.map.boundaries.now c.requires.counting.leaving.boundaries_are_sorted)

pub points_after-points-requires : goal.points_after-points-requires
points_after-points-requires c = rw c.sides_of-sides.ensures c.requires.counting

pub rows_fit-requires : goal.rows_fit-requires
rows_fit-requires c = (omega arith, omega (arith, sorted-room 4096 5 c.args.map.boundaries.now c.requires.counting.leaving.boundaries_are_sorted))

pub returns : goal.returns
unfolding fits_after
returns c = rw (c.both-2.ensures, c.both.ensures, c.rows_fit.ensures, c.lines_fit.ensures, c.points_fit.ensures, c.points_after-points.ensures, c.sides_of-sides.ensures, c.side_ids.ensures, c.side_ids-2.ensures)
