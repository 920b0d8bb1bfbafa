-- `split_touched::count_modified` meets its contract: those that are listed are as many as the marks. Assumes nothing.
use Rattle.split_touched.specs.Modified.{rows_of, marks_of, told}
use Rattle.split_touched.proofs.Counted.{counted-told}
use Rattle.split_touched.proofs.count_modified.Goals as goal

pub returns : goal.returns
returns c = counted-told (told c.args.cuts.cut.now c.args.cuts.marks.now c.args.cuts.pieces.now c.args.anchored.now c.args.past.now) (rows_of c.args.map.lanes.now c.args.map.boundaries.now c.args.map.roads.now c.args.map.junctions.now c.args.map.rules.now) (marks_of c.touch.new.marks.lanes c.touch.new.marks.boundaries c.touch.new.marks.roads c.touch.new.marks.junctions c.touch.new.marks.rules) c.touch.ensures.made c.count_marks.result c.count_marks-2.result c.count_marks-3.result c.count_marks-4.result c.count_marks-5.result c.count_marks.ensures.0 c.count_marks-2.ensures.0 c.count_marks-3.ensures.0 c.count_marks-4.ensures.0 c.count_marks-5.ensures.0
