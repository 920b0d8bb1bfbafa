use native.Mathlib.Omega.{arith}
use Rattle.lent.specs.Lent.{map_tables}
use Rattle.edit_split.proofs.Made.{measure-asks, decided-asks, next-fits, measured-asks, pieces_end}
use Rattle.edit_split.proofs.split_pieced.Goals as goal

pub measure-end-requires : goal.measure-end-requires
measure-end-requires c = measure-asks c.requires

pub decided-drawn-requires : goal.decided-drawn-requires
decided-drawn-requires c = decided-asks c.requires c.measure-end.result c.measure-end.new.lines c.measure-end.new.centers c.measure-end.ensures

pub overflow_add-cuts : goal.overflow_add-cuts
overflow_add-cuts c = omega (arith, next-fits c.requires c.measure-end.result c.measure-end.new.lines c.measure-end.new.centers c.measure-end.ensures c.decided-drawn.result c.decided-drawn.ensures)

pub split_measured-requires : goal.split_measured-requires
split_measured-requires c = measured-asks c.requires c.measure-end.result c.measure-end.new.lines c.measure-end.new.centers c.measure-end.ensures c.decided-drawn.result c.decided-drawn.ensures

pub returns-clause-made : goal.returns-clause-made
returns-clause-made c = pieces_end c.requires c.measure-end.result c.measure-end.new.lines c.measure-end.new.centers c.measure-end.ensures c.decided-drawn.result c.decided-drawn.ensures c.args.lists.now.created.now c.args.lists.now.modified.now c.args.lists.now.deleted.now c.args.lists.now.warnings.now (map_tables c.split_measured.new.map) c.split_measured.new.lists.created.now c.split_measured.new.lists.modified.now c.split_measured.new.lists.deleted.now c.split_measured.new.lists.warnings.now c.split_measured.result c.split_measured.ensures.made
