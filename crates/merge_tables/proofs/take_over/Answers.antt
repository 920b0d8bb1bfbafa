-- `merge_tables::take_over` meets its contract: store by store. Assumes nothing.
use Rattle.merge_draw.proofs.Lanes.{list-fits, taken-over}
use Rattle.merge_tables.proofs.take_over.Goals as goal

pub put_list-requires : goal.put_list-requires
put_list-requires c = list-fits c.args.row.now c.args.taken c.args.successors.now c.requires.0 c.requires.1 c.put_ref.new.row c.put_ref.ensures c.put_ref-2.new.row c.put_ref-2.ensures c.put_center.new.row c.put_center.ensures

pub returns : goal.returns
returns c = taken-over c.args.row.now c.args.taken c.args.successors.now c.requires.0 c.requires.1 c.put_ref.new.row c.put_ref.ensures c.put_ref-2.new.row c.put_ref-2.ensures c.put_center.new.row c.put_center.ensures c.put_list.new.row c.put_list.ensures
