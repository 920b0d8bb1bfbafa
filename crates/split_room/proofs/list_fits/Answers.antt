-- `split_room::list_fits` meets its contract. Assumes nothing.
use native.Mathlib.Omega.{arith}
use Rattle.split_room.proofs.Places.{named-few, list-fits-is}
use Rattle.split_room.proofs.list_fits.Goals as goal

pub overflow_add-result : goal.overflow_add-result
overflow_add-result c = omega (arith, c.requires.1.1, named-few c.args.cut.now c.args.t.now c.args.at c.requires.1.0 c.count_cut.result c.count_cut.ensures)

pub returns : goal.returns
returns c = list-fits-is c.args.cut.now c.args.t.now c.args.at c.requires.1.0 c.count_cut.result c.count_cut.ensures
