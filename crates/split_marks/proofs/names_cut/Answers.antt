-- `split_marks::names_cut` meets its contract. The invariant: the list names a cut lane if those from here on do. Assumes nothing.
use mathlib.Core.Path.{sym, ◌∙◌}
use Rattle.lists.proofs.Rows.{keys-one}
use Rattle.split_marks.proofs.Marks.{names-found, names-other, names-end}
use Rattle.split_marks.proofs.names_cut.Goals as goal

pub rank-requires : goal.rank-requires
rank-requires c = rw keys-one c.requires

pub returns-then-is_some : goal.returns-then-is_some
returns-then-is_some c = let a = c.args in let t = c.loop-id in sym (t.invariant ∙ names-found a.cut.now a.ids.now t.id-index c.loop-id-test.true c.rank.result c.rank.ensures (sym c.is_some.ensures ∙ c.if-is_some.true))

pub loop-id-preserved : goal.loop-id-preserved
loop-id-preserved c = let a = c.args in let t = c.loop-id in t.invariant ∙ names-other a.cut.now a.ids.now t.id-index c.loop-id-test.true c.rank.result c.rank.ensures (sym c.is_some.ensures ∙ c.if-is_some.false)

pub returns : goal.returns
returns c = let a = c.args in let t = c.loop-id in sym (t.invariant ∙ names-end a.cut.now a.ids.now t.id-index c.loop-id-test.false)
