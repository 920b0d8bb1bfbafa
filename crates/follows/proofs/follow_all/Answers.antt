-- `follows::follow_all` meets its contract. The invariant: the first r cut lanes are done, and the others make of the list what all make of it. Assumes
-- nothing.
use Prim.Native.Nat.{◌-◌}
use native.Mathlib.Omega.{arith}
use lib.ListN.{length}
use Rattle.follows.proofs.Rows.{Followed, followed-none, follow-may, followed-turn, followed-done}
use Rattle.follows.proofs.follow_all.Goals as goal

pub loop-r-init : goal.loop-r-init
loop-r-init c = followed-none c.args.anchored c.args.past.now c.args.next c.args.cut.now c.args.row.now c.requires.1

pub offset_bounds-cut-r : goal.offset_bounds-cut-r
offset_bounds-cut-r c = omega arith

pub bounds-cut-r : goal.bounds-cut-r
bounds-cut-r c = omega arith

pub overflow_add-next : goal.overflow_add-next
overflow_add-next c = omega (arith, c.requires.0.ids, c.loop-r-test.true)

pub follow-requires : goal.follow-requires
follow-requires c = follow-may c.args.anchored c.args.past.now c.args.next c.args.cut.now c.args.row.now c.requires.1 c.loop-r.row c.loop-r.r c.loop-r.invariant c.loop-r-test.true

pub loop-r-preserved : goal.loop-r-preserved
loop-r-preserved c = followed-turn c.args.anchored c.args.past.now c.args.next c.args.cut.now c.args.row.now c.requires.1 c.loop-r.row c.loop-r.r c.loop-r.invariant c.loop-r-test.true c.follow.new.row c.follow.ensures

pub shape_of-row : goal.shape_of-row
shape_of-row c = c.loop-r.invariant.long

pub returns : goal.returns
returns c = followed-done c.args.anchored c.args.past.now c.args.next c.args.cut.now c.args.row.now c.requires.1 c.loop-r.row c.loop-r.r c.loop-r.invariant c.loop-r-test.false
