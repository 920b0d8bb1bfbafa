use borrow.Author.Rules.{rules}
use Rattle.merge_lists.proofs.Listed.{first-asks, second-asks, both-joined}
use Rattle.merge_lists.proofs.joined_ids.Goals as goal

-- src/lib.rt:68:9
pub add_joined-n-requires : goal.add_joined-n-requires
add_joined-n-requires c = let s = c in let a = s.args in first-asks a.left a.left_id a.right a.right_id a.out.now s.requires

-- src/lib.rt:69:5
pub add_joined-requires : goal.add_joined-requires
add_joined-requires c = let s = c in let a = s.args in let m = c.add_joined-n in second-asks a.left a.left_id a.right a.right_id a.out.now s.requires m.result m.new.out m.ensures.0 m.ensures.1

-- src/lib.rt:58:1
pub returns : goal.returns
returns c = let s = c in let a = s.args in let m = c.add_joined-n in let n = c.add_joined in both-joined a.left a.left_id a.right a.right_id a.out.now s.requires m.result m.new.out m.ensures.0 m.ensures.1 n.result n.new.out n.ensures
