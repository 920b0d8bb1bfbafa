-- `lists::contains` meets its contract. The invariant: the id stands in the list where it stands in what is left. Assumes nothing.
use mathlib.Core.Path.{sym, ◌∙◌}
use lib.ListN.{get_or}
use borrow.Author.Tests.{eq-eqb, ne_eqb}
use Rattle.lists.proofs.Select.{has-step, has_end}
use Rattle.lists.proofs.contains.Goals as goal

pub returns-then-id-x : goal.returns-then-id-x
returns-then-id-x c =
    let ids = c.args.ids.now in
    let i = c.loop-x.x-index in
    sym (c.loop-x.invariant ∙ has-step c.args.id ids i c.loop-x-test.true ∙ rw (eq-eqb c.args.id (get_or ids i 0) c.if-id-x.true))

pub loop-x-preserved : goal.loop-x-preserved
loop-x-preserved c =
    let ids = c.args.ids.now in
    let i = c.loop-x.x-index in
    c.loop-x.invariant ∙ has-step c.args.id ids i c.loop-x-test.true ∙ rw (ne_eqb c.args.id (get_or ids i 0) c.if-id-x.false)

pub returns : goal.returns
returns c = sym (c.loop-x.invariant ∙ has_end c.args.id c.args.ids.now c.loop-x.x-index c.loop-x-test.false)
