use Rattle.edit_split.proofs.Parts.{pieces-ask, pieced, reach-asks}
use Rattle.edit_split.proofs.split_numbered.Goals as goal

-- src/lib.rt:132:9
pub list_pieces-many-requires : goal.list_pieces-many-requires
list_pieces-many-requires c = pieces-ask c.requires c.next_id-first.result c.next_id-first.ensures

-- src/lib.rt:133:9
pub lines_reach-reach-requires : goal.lines_reach-reach-requires
lines_reach-reach-requires c = reach-asks c.requires.plan

-- src/lib.rt:134:5
pub split_pieced-requires : goal.split_pieced-requires
split_pieced-requires c = pieced c.requires c.next_id-first.result c.next_id-first.ensures c.list_pieces-many.new.pieces c.list_pieces-many.result c.lines_reach-reach.result c.list_pieces-many.ensures c.lines_reach-reach.ensures
