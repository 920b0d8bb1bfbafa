-- `split_marks::lane_touched` meets its contract: of a lane that is cut, and of another. Assumes nothing.
use Rattle.lists.proofs.Rows.{keys-one}
use Rattle.split_marks.proofs.Marks.{lane-cut, lane-other}
use Rattle.split_marks.proofs.lane_touched.Goals as goal

pub rank-found-requires : goal.rank-found-requires
rank-found-requires c = rw keys-one c.requires.0

pub returns-in-Some : goal.returns-in-Some
returns-in-Some c = let a = c.args in lane-cut a.cut.now a.t.now a.row c.rank-found.result c.rank-found.ensures c.in-Some.field-0 c.in-Some.is

pub returns-in-None : goal.returns-in-None
returns-in-None c = let a = c.args in lane-other a.cut.now a.t.now a.row c.rank-found.result c.rank-found.ensures c.in-None.is c.row_names.result c.row_names.ensures
