-- `split_second::second_half` meets its contract: store by store, from the row as it was. Assumes nothing.
use borrow.Author.Rules.{rules}
use Prim.Native.Nat.{◌+◌, ◌*◌}
use native.Mathlib.Omega.{arith}
use Rattle.store.proofs.Marks.{lane-marks}
use Rattle.split_rows.proofs.Written.{measure-near, beside-left, beside-right, before-asks, after-asks, successors-part, second-written}
use Rattle.split_second.proofs.second_half.Goals as goal

pub overflow_add-start-2 : goal.overflow_add-start-2
overflow_add-start-2 c = let a = c.args in omega (arith, measure-near a.pieces.now a.m a.cut.now a.next a.centers.now c.requires.0 (a.rank * 3) (omega (arith, c.requires.0.centers_room, c.requires.1.0)), measure-near a.pieces.now a.m a.cut.now a.next a.centers.now c.requires.0 (a.rank * 3 + 1) (omega (arith, c.requires.0.centers_room, c.requires.1.0)))

pub second_slot-requires : goal.second_slot-requires
second_slot-requires c = let a = c.args in (c.requires.0.cuts, beside-left a.pieces.now a.m a.cut.now a.next a.centers.now a.rank a.old.now a.row.now c.requires.1.1.0 c.requires.1.1.1.0 c.requires.1.1.1.1 c.half_ref-left.result c.half_ref-left.ensures c.half_ref-right.result c.half_ref-right.ensures c.second_head.new.row c.second_head.ensures c.put_center.new.row c.put_center.ensures)

pub second_slot-requires-2 : goal.second_slot-requires-2
second_slot-requires-2 c = let a = c.args in (c.requires.0.cuts, beside-right a.pieces.now a.m a.cut.now a.next a.centers.now a.rank a.old.now a.row.now c.requires.1.1.0 c.requires.1.1.1.0 c.requires.1.1.1.1 c.half_ref-left.result c.half_ref-left.ensures c.half_ref-right.result c.half_ref-right.ensures c.second_head.new.row c.second_head.ensures c.put_center.new.row c.put_center.ensures c.second_slot.new.row c.second_slot.ensures)

pub bounds-old-0 : goal.bounds-old-0
bounds-old-0 c = omega (arith, c.requires.1.1.1.0)

pub put_list-requires : goal.put_list-requires
put_list-requires c = let a = c.args in before-asks a.pieces.now a.m a.cut.now a.next a.centers.now a.rank a.old.now a.row.now c.requires.1.1.0 c.requires.1.1.1.0 c.requires.1.1.1.1 c.half_ref-left.result c.half_ref-left.ensures c.half_ref-right.result c.half_ref-right.ensures c.second_head.new.row c.second_head.ensures c.put_center.new.row c.put_center.ensures c.second_slot.new.row c.second_slot.ensures c.second_slot-2.new.row c.second_slot-2.ensures

pub bounds-old-35 : goal.bounds-old-35
bounds-old-35 c = omega (arith, c.requires.1.1.1.0)

pub overflow_add-to : goal.overflow_add-to
overflow_add-to c = let a = c.args in omega (arith, (lane-marks a.old.now c.requires.1.1.1.1).after)

pub slice_bounds-put_list-end-2 : goal.slice_bounds-put_list-end-2
slice_bounds-put_list-end-2 c = let a = c.args in omega (arith, (lane-marks a.old.now c.requires.1.1.1.1).after, c.requires.1.1.1.0)

pub put_list-requires-2 : goal.put_list-requires-2
put_list-requires-2 c = let a = c.args in after-asks a.pieces.now a.m a.cut.now a.next a.centers.now a.rank a.old.now a.row.now c.requires.1.1.0 c.requires.1.1.1.0 c.requires.1.1.1.1 c.half_ref-left.result c.half_ref-left.ensures c.half_ref-right.result c.half_ref-right.ensures c.second_head.new.row c.second_head.ensures c.put_center.new.row c.put_center.ensures c.second_slot.new.row c.second_slot.ensures c.second_slot-2.new.row c.second_slot-2.ensures c.put_list.new.row c.put_list.ensures _ (successors-part a.old.now)

pub returns : goal.returns
returns c = let a = c.args in second-written a.pieces.now a.m a.cut.now a.next a.centers.now a.rank a.old.now a.row.now c.requires.1.1.0 c.requires.1.1.1.0 c.requires.1.1.1.1 c.half_ref-left.result c.half_ref-left.ensures c.half_ref-right.result c.half_ref-right.ensures c.second_head.new.row c.second_head.ensures c.put_center.new.row c.put_center.ensures c.second_slot.new.row c.second_slot.ensures c.second_slot-2.new.row c.second_slot-2.ensures c.put_list.new.row c.put_list.ensures _ (successors-part a.old.now) c.put_list-2.new.row c.put_list-2.ensures
