-- `naming::replace_list` meets its contract: the lane goes where the other stands, else the list stays as long as it was. Assumes nothing.
use Rattle.mentions.proofs.Going.{replaced-there, replaced-read}
use Rattle.replaces.proofs.replace_list.Goals as goal

pub returns-then-lists_lane : goal.returns-then-lists_lane
returns-then-lists_lane c =
    let s = c in
    let a = s.args in
    let t = c.lists_lane in
    replaced-there a.row.now a.k a.to a.from s.requires t.result t.ensures c.forget.new.row c.if-lists_lane.true c.forget.ensures

pub returns : goal.returns
returns c =
    let s = c in
    let a = s.args in
    let t = c.lists_lane in
    replaced-read a.row.now a.k a.to a.from s.requires t.result t.ensures c.replace.new.ids c.if-lists_lane.false c.replace.ensures
