-- `follows::follow` meets its contract: the lane is absent, its mark decides, or the second half comes behind it. Assumes nothing.
use borrow.Author.Rules.{rules}
use Rattle.follows.proofs.Rows.{follow-absent, follow-past, follow-before, insert-may, follow-added}
use Rattle.follows.proofs.follow.Goals as goal

pub returns-then-p-n : goal.returns-then-p-n
returns-then-p-n c =
    let s = c in
    let f = c.first_place-p in
    follow-absent s.args.anchored s.args.past.now s.args.row.now s.args.id s.args.second s.requires f.result f.ensures c.if-p-n.true

pub returns-then-past-p : goal.returns-then-past-p
returns-then-past-p c =
    let s = c in
    let f = c.first_place-p in
    follow-past s.args.anchored s.args.past.now s.args.row.now s.args.id s.args.second s.requires f.result f.ensures c.if-p-n.false c.if-anchored.true c.if-past-p.true

pub returns-else-past-p : goal.returns-else-past-p
returns-else-past-p c =
    let s = c in
    let f = c.first_place-p in
    follow-before s.args.anchored s.args.past.now s.args.row.now s.args.id s.args.second s.requires f.result f.ensures c.if-p-n.false c.if-anchored.true c.if-past-p.false

pub insert_behind-requires : goal.insert_behind-requires
insert_behind-requires c =
    let s = c in
    let f = c.first_place-p in
    insert-may s.args.anchored s.args.past.now s.args.row.now s.args.id s.args.second s.requires f.result f.ensures c.if-p-n.false c.if-anchored.false

pub returns : goal.returns
returns c =
    let s = c in
    let f = c.first_place-p in
    let b = c.insert_behind in
    follow-added s.args.anchored s.args.past.now s.args.row.now s.args.id s.args.second s.requires f.result f.ensures c.if-p-n.false c.if-anchored.false b.new.slots b.ensures
