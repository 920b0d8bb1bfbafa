-- `split_lists::list_modified` meets its contract: one kind behind the other. Assumes nothing.
use Rattle.split_lists.specs.Changes.{marked_ids, modified_by}
use Rattle.split_lists.proofs.Entities.{all_listed, room_1, room_2, room_3, room_4, room_5, kinds-listed}
use Rattle.split_lists.proofs.list_modified.Goals as goal

pub list_marked-a-requires : goal.list_marked-a-requires
unfolding modified_by
list_marked-a-requires c = (all_listed 52 1024 c.args.map.lanes.now c.args.marks.lanes.now c.requires.0.lanes_listed, room_1 (marked_ids 52 c.args.marks.lanes.now c.args.map.lanes.now) (marked_ids 5 c.args.marks.boundaries.now c.args.map.boundaries.now) (marked_ids 68 c.args.marks.roads.now c.args.map.roads.now) (marked_ids 69 c.args.marks.junctions.now c.args.map.junctions.now) (marked_ids 330 c.args.marks.rules.now c.args.map.rules.now) c.args.modified.now c.requires.1)

pub list_marked-b-requires : goal.list_marked-b-requires
unfolding modified_by
list_marked-b-requires c = (all_listed 5 4096 c.args.map.boundaries.now c.args.marks.boundaries.now c.requires.0.boundaries_listed, room_2 (marked_ids 52 c.args.marks.lanes.now c.args.map.lanes.now) (marked_ids 5 c.args.marks.boundaries.now c.args.map.boundaries.now) (marked_ids 68 c.args.marks.roads.now c.args.map.roads.now) (marked_ids 69 c.args.marks.junctions.now c.args.map.junctions.now) (marked_ids 330 c.args.marks.rules.now c.args.map.rules.now) c.args.modified.now c.requires.1 c.list_marked-a.result c.list_marked-a.new.out c.list_marked-a.ensures.0 c.list_marked-a.ensures.1)

pub list_marked-c-requires : goal.list_marked-c-requires
unfolding modified_by
list_marked-c-requires c = (all_listed 68 256 c.args.map.roads.now c.args.marks.roads.now c.requires.0.roads_listed, room_3 (marked_ids 52 c.args.marks.lanes.now c.args.map.lanes.now) (marked_ids 5 c.args.marks.boundaries.now c.args.map.boundaries.now) (marked_ids 68 c.args.marks.roads.now c.args.map.roads.now) (marked_ids 69 c.args.marks.junctions.now c.args.map.junctions.now) (marked_ids 330 c.args.marks.rules.now c.args.map.rules.now) c.args.modified.now c.requires.1 c.list_marked-a.result c.list_marked-a.new.out c.list_marked-a.ensures.0 c.list_marked-a.ensures.1 c.list_marked-b.result c.list_marked-b.new.out c.list_marked-b.ensures.0 c.list_marked-b.ensures.1)

pub list_marked-d-requires : goal.list_marked-d-requires
unfolding modified_by
list_marked-d-requires c = (all_listed 69 256 c.args.map.junctions.now c.args.marks.junctions.now c.requires.0.junctions_listed, room_4 (marked_ids 52 c.args.marks.lanes.now c.args.map.lanes.now) (marked_ids 5 c.args.marks.boundaries.now c.args.map.boundaries.now) (marked_ids 68 c.args.marks.roads.now c.args.map.roads.now) (marked_ids 69 c.args.marks.junctions.now c.args.map.junctions.now) (marked_ids 330 c.args.marks.rules.now c.args.map.rules.now) c.args.modified.now c.requires.1 c.list_marked-a.result c.list_marked-a.new.out c.list_marked-a.ensures.0 c.list_marked-a.ensures.1 c.list_marked-b.result c.list_marked-b.new.out c.list_marked-b.ensures.0 c.list_marked-b.ensures.1 c.list_marked-c.result c.list_marked-c.new.out c.list_marked-c.ensures.0 c.list_marked-c.ensures.1)

pub list_marked-requires : goal.list_marked-requires
unfolding modified_by
list_marked-requires c = (all_listed 330 512 c.args.map.rules.now c.args.marks.rules.now c.requires.0.rules_listed, room_5 (marked_ids 52 c.args.marks.lanes.now c.args.map.lanes.now) (marked_ids 5 c.args.marks.boundaries.now c.args.map.boundaries.now) (marked_ids 68 c.args.marks.roads.now c.args.map.roads.now) (marked_ids 69 c.args.marks.junctions.now c.args.map.junctions.now) (marked_ids 330 c.args.marks.rules.now c.args.map.rules.now) c.args.modified.now c.requires.1 c.list_marked-a.result c.list_marked-a.new.out c.list_marked-a.ensures.0 c.list_marked-a.ensures.1 c.list_marked-b.result c.list_marked-b.new.out c.list_marked-b.ensures.0 c.list_marked-b.ensures.1 c.list_marked-c.result c.list_marked-c.new.out c.list_marked-c.ensures.0 c.list_marked-c.ensures.1 c.list_marked-d.result c.list_marked-d.new.out c.list_marked-d.ensures.0 c.list_marked-d.ensures.1)

pub returns : goal.returns
unfolding modified_by
returns c = kinds-listed (marked_ids 52 c.args.marks.lanes.now c.args.map.lanes.now) (marked_ids 5 c.args.marks.boundaries.now c.args.map.boundaries.now) (marked_ids 68 c.args.marks.roads.now c.args.map.roads.now) (marked_ids 69 c.args.marks.junctions.now c.args.map.junctions.now) (marked_ids 330 c.args.marks.rules.now c.args.map.rules.now) c.args.modified.now c.requires.1 c.list_marked-a.result c.list_marked-a.new.out c.list_marked-a.ensures.0 c.list_marked-a.ensures.1 c.list_marked-b.result c.list_marked-b.new.out c.list_marked-b.ensures.0 c.list_marked-b.ensures.1 c.list_marked-c.result c.list_marked-c.new.out c.list_marked-c.ensures.0 c.list_marked-c.ensures.1 c.list_marked-d.result c.list_marked-d.new.out c.list_marked-d.ensures.0 c.list_marked-d.ensures.1 c.list_marked.result c.list_marked.new.out c.list_marked.ensures.0 c.list_marked.ensures.1
