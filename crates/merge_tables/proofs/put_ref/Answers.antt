-- `merge_tables::put_ref` meets its contract: two stores, or none. Assumes nothing.
use Rattle.merge_draw.proofs.Lanes.{ref-room, ref-put, ref-off}
use Rattle.merge_tables.proofs.put_ref.Goals as goal

pub bounds-row-k-in-Some : goal.bounds-row-k-in-Some
bounds-row-k-in-Some c = ref-room c.args.row.now c.args.k c.requires c.in-Some.id

pub returns-in-None : goal.returns-in-None
returns-in-None c = ref-off c.args.row.now c.args.k c.requires c.args.id c.in-None.is

pub returns-in-Some : goal.returns-in-Some
returns-in-Some c = ref-put c.args.row.now c.args.k c.requires c.args.id c.in-Some.id c.in-Some.is
