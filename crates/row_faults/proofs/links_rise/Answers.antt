-- `row_faults::links_rise` meets its contract. A formed row's lists lie in the row; the parts lent are the lists. Assumes nothing.
use mathlib.Core.Path.{◌≡◌, sym, ◌∙◌}
use Prim.Native.Nat.{◌+◌, ◌-◌}
use native.Mathlib.Omega.{arith}
use lib.ListN.{get_or}
use Rattle.row_tests.proofs.Formed.{lane-before, lane-after}
use Rattle.row_faults.specs.Passes.{links_rise}
use Rattle.row_faults.proofs.links_rise.Goals as goal

pub overflow_add-before : goal.overflow_add-before
overflow_add-before c = omega (arith, lane-before c.args.w.now (sym c.lane_formed.ensures ∙ c.if-lane_formed.true))

pub overflow_add-after : goal.overflow_add-after
overflow_add-after c = omega (arith, lane-after c.args.w.now (sym c.lane_formed.ensures ∙ c.if-lane_formed.true))

pub slice_bounds-ascends-end : goal.slice_bounds-ascends-end
slice_bounds-ascends-end c = omega (arith, lane-before c.args.w.now (sym c.lane_formed.ensures ∙ c.if-lane_formed.true))

pub slice_bounds-ascends-end-then-lane_formed : goal.slice_bounds-ascends-end-then-lane_formed
slice_bounds-ascends-end-then-lane_formed c = omega (arith, lane-after c.args.w.now (sym c.lane_formed.ensures ∙ c.if-lane_formed.true))

pub returns-then-lane_formed : goal.returns-then-lane_formed
unfolding links_rise
returns-then-lane_formed c =
    let w = c.args.w.now in
    let e : 19 + get_or w 18 0 - 19 ≡ get_or w 18 0 = omega arith in
    let f : 36 + get_or w 35 0 - 36 ≡ get_or w 35 0 = omega arith in
    rw (c.both.ensures, c.ascends.ensures, c.ascends-then-lane_formed.ensures, e, f, ← c.lane_formed.ensures, c.if-lane_formed.true)

pub returns : goal.returns
unfolding links_rise
returns c = rw (← c.lane_formed.ensures, c.if-lane_formed.false)
