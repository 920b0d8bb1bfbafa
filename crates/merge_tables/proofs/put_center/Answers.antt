-- `merge_tables::put_center` meets its contract: three stores, or one. Assumes nothing.
use Rattle.merge_draw.proofs.Lanes.{center_put, center_off}
use Rattle.merge_tables.proofs.put_center.Goals as goal

pub returns-in-None : goal.returns-in-None
returns-in-None c = center_off c.args.row.now c.requires c.args.center c.in-None.is

pub returns-in-Some : goal.returns-in-Some
returns-in-Some c = center_put c.args.row.now c.requires c.args.center c.in-Some.line c.in-Some.is
