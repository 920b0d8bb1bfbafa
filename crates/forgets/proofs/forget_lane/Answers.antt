-- `naming::forget_lane` meets its contract: the second list is where it was after the first is written, and the row as long. Assumes nothing.
use borrow.Author.Rules.{rules}
use Rattle.mentions.proofs.Going.{after-room, before-room, lane_forgot}
use Rattle.forgets.proofs.forget_lane.Goals as goal

pub forget-requires : goal.forget-requires
forget-requires c = after-room c.args.row.now c.args.id c.requires

pub forget-requires-2 : goal.forget-requires-2
forget-requires-2 c = before-room c.args.row.now c.args.id c.requires c.forget.new.row c.forget.ensures

pub returns : goal.returns
returns c =
    let a = c.args in
    let v = c.forget in
    let u = c.forget-2 in
    let p = c.free in
    let r = c.free-2 in
    lane_forgot a.row.now a.id c.requires v.new.row v.ensures u.new.row u.ensures p.new.row p.ensures r.new.row r.ensures
