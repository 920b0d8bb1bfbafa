-- `split_room::own_fits` meets its contract. Assumes nothing.
use native.Mathlib.Omega.{arith}
use Rattle.split_room.proofs.Places.{own_room, own-few, own-named}
use Rattle.split_room.proofs.own_fits.Goals as goal

pub overflow_add-to : goal.overflow_add-to
overflow_add-to c = omega (arith, own-few c.args.cut.now c.args.row.now c.requires.1.0 c.requires.0)

pub slice_bounds-count_named-end : goal.slice_bounds-count_named-end
slice_bounds-count_named-end c = omega (arith, own_room c.args.cut.now c.args.row.now c.requires.1.0 c.requires.0)

pub overflow_add-result : goal.overflow_add-result
overflow_add-result c = omega (arith, own-few c.args.cut.now c.args.row.now c.requires.1.0 c.requires.0, c.count_named.ensures.1)

pub returns : goal.returns
returns c = own-named c.args.cut.now c.args.row.now c.requires.1.0 c.requires.0 c.args.anchored c.if-anchored.false c.count_named.result c.count_named.ensures.0
