-- `merge_rows::redraw_lanes` meets its contract: the rows that stay are as they were. Assumes nothing.
use borrow.Author.Rules.{rules}
use native.Mathlib.Omega.{arith}
use Rattle.merge_redraw.proofs.LaneRows.{lanes-room, linked-left, lanes_all}
use Rattle.merge_rows.proofs.redraw_lanes.Goals as goal

pub drop_rows-requires : goal.drop_rows-requires
drop_rows-requires c = (omega arith, lanes-room c.args.t.now c.requires.0)

pub merge_rows-requires : goal.merge_rows-requires
merge_rows-requires c =
    let a = c.args in
    (linked-left a.t.now c.requires.0 a.second c.drop_rows.new.t c.drop_rows.ensures, c.requires.1)

pub returns : goal.returns
returns c =
    let a = c.args in
    lanes_all a.t.now c.requires.0 a.second c.drop_rows.new.t c.drop_rows.ensures a.first a.taken a.successors.now c.merge_rows.new.t c.merge_rows.ensures
