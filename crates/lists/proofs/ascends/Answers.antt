-- `lists::ascends` meets its contract. The invariant: the list ascends where what is left from i on ascends from the id before i.
use mathlib.Core.Path.{sym, ◌∙◌}
use Prim.Native.Nat.{◌-◌}
use native.Mathlib.Omega.{arith}
use lib.ListN.{get_or}
use Rattle.lists.proofs.Select.{ascending-start, ascending-step, ascending_breaks, above-end}
use Rattle.lists.proofs.ascends.Goals as goal

pub loop-i-init : goal.loop-i-init
loop-i-init c = (omega arith, ascending-start c.args.ids.now)

pub returns-then-ids-i : goal.returns-then-ids-i
returns-then-ids-i c = sym (c.loop-i.invariant.1 ∙ ascending_breaks c.args.ids.now c.loop-i.i c.loop-i-test.true c.if-ids-i.true)

pub loop-i-preserved : goal.loop-i-preserved
loop-i-preserved c = (omega arith, c.loop-i.invariant.1 ∙ ascending-step c.args.ids.now c.loop-i.i c.loop-i-test.true c.if-ids-i.false)

pub returns : goal.returns
returns c =
    let ids = c.args.ids.now in
    let i = c.loop-i.i in
    sym (c.loop-i.invariant.1 ∙ above-end (get_or ids (i - 1) 0) ids i c.loop-i-test.false)
