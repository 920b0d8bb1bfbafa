use Rattle.split_touched.specs.Modified.{rows_of, marks_of, told, blank}
use Rattle.split_touched.proofs.Counted.{listed-room, listed-told, rows-listed}
use Rattle.split_touched.proofs.list_modified.Goals as goal

-- src/lib.rt:135:5
pub list_modified-requires : goal.list_modified-requires
list_modified-requires c = (rows-listed (rows_of c.args.map.lanes.now c.args.map.boundaries.now c.args.map.roads.now c.args.map.junctions.now c.args.map.rules.now) blank (marks_of c.touch.new.marks.lanes c.touch.new.marks.boundaries c.touch.new.marks.roads c.touch.new.marks.junctions c.touch.new.marks.rules) c.touch.ensures.as_long c.requires.0.every_row, listed-room (told c.args.cuts.cut.now c.args.cuts.marks.now c.args.cuts.pieces.now c.args.anchored.now c.args.past.now) (rows_of c.args.map.lanes.now c.args.map.boundaries.now c.args.map.roads.now c.args.map.junctions.now c.args.map.rules.now) (marks_of c.touch.new.marks.lanes c.touch.new.marks.boundaries c.touch.new.marks.roads c.touch.new.marks.junctions c.touch.new.marks.rules) c.touch.ensures.made c.args.modified.now c.requires.1)

-- src/lib.rt:97:1
pub returns : goal.returns
returns c = listed-told (told c.args.cuts.cut.now c.args.cuts.marks.now c.args.cuts.pieces.now c.args.anchored.now c.args.past.now) (rows_of c.args.map.lanes.now c.args.map.boundaries.now c.args.map.roads.now c.args.map.junctions.now c.args.map.rules.now) (marks_of c.touch.new.marks.lanes c.touch.new.marks.boundaries c.touch.new.marks.roads c.touch.new.marks.junctions c.touch.new.marks.rules) c.touch.ensures.made c.args.modified.now c.list_modified.new.modified c.list_modified.ensures
