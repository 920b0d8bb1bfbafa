-- `unused::chosen` meets its contract. Assumes nothing.
use borrow.Author.Rules.{rules}
use Rattle.unused.proofs.Boundaries.{two-chosen, left-chosen, right-chosen, none-chosen}
use Rattle.unused.proofs.chosen.Goals as goal

pub returns-then-both : goal.returns-then-both
returns-then-both c = let a = c.args in two-chosen a.left a.right a.a a.b c.both.result c.both-2.result c.both.ensures c.both-2.ensures c.pair.result c.if-both.true c.pair.ensures

pub returns-then-a : goal.returns-then-a
returns-then-a c = let a = c.args in left-chosen a.left a.right a.a a.b c.both.result c.both-2.result c.both.ensures c.both-2.ensures a.left c.if-both.false c.if-a.true

pub returns-then-b : goal.returns-then-b
returns-then-b c = let a = c.args in right-chosen a.left a.right a.a a.b c.both.result c.both-2.result c.both.ensures c.both-2.ensures a.right c.if-both.false c.if-a.false c.if-b.true

pub returns : goal.returns
returns c = let a = c.args in none-chosen a.left a.right a.a a.b c.both.result c.both-2.result c.both.ensures c.both-2.ensures a.left a.right c.if-both.false c.if-a.false c.if-b.false
