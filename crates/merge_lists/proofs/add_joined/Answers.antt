use borrow.Author.Rules.{rules}
use Rattle.merge_lists.proofs.Listed.{kept-none, fresh-none, in_place-put}
use Rattle.merge_lists.proofs.add_joined.Goals as goal

-- src/lib.rt:46:1
pub returns-in-Kept : goal.returns-in-Kept
returns-in-Kept c = let s = c in kept-none s.args.plan s.args.id s.args.n s.args.out.now s.requires.0 c.in-Kept.is

-- src/lib.rt:46:1
pub returns-in-InPlace : goal.returns-in-InPlace
returns-in-InPlace c = let s = c in let m = c.named in in_place-put s.args.plan s.args.id s.args.n s.args.out.now s.requires.0 c.in-InPlace.field-0 c.in-InPlace.is m.new.ids m.result m.ensures

-- src/lib.rt:46:1
pub returns-in-Fresh : goal.returns-in-Fresh
returns-in-Fresh c = let s = c in fresh-none s.args.plan s.args.id s.args.n s.args.out.now s.requires.0 c.in-Fresh.field-0 c.in-Fresh.is
