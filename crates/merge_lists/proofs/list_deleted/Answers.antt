use borrow.Author.Rules.{rules}
use Rattle.merge_lists.proofs.Listed.{lane_room, gone-room, deleted-listed}
use Rattle.merge_lists.proofs.list_deleted.Goals as goal

-- src/lib.rt:122:9
pub list_ids-n-requires : goal.list_ids-n-requires
list_ids-n-requires c = let s = c in lane_room s.args.second s.args.gone.now s.args.deleted.now s.requires

-- src/lib.rt:123:5
pub list_ids-requires : goal.list_ids-requires
list_ids-requires c =
    let s = c in
    let l1 = c.list_ids-n in
    gone-room s.args.second s.args.gone.now s.args.deleted.now s.requires l1.result l1.new.out l1.ensures.0 l1.ensures.1

-- src/lib.rt:115:1
pub returns : goal.returns
returns c =
    let s = c in
    let l1 = c.list_ids-n in
    let l2 = c.list_ids in
    deleted-listed s.args.second s.args.gone.now s.args.deleted.now s.requires l1.result l1.new.out l1.ensures.0 l1.ensures.1 l2.result l2.new.out l2.ensures.0 l2.ensures.1
