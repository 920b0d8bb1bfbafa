-- `row_faults::lane_named` meets its contract. A formed row's lists lie in the row; the parts lent are the lists. Assumes nothing.
use mathlib.Core.Path.{◌≡◌, sym, ◌∙◌}
use Prim.Native.Nat.{◌+◌, ◌-◌}
use native.Mathlib.Omega.{arith}
use lib.ListN.{get_or}
use Rattle.lists.proofs.Booleans.{and-fst}
use Rattle.row_tests.proofs.Formed.{lane-before, lane-after}
use Rattle.row_faults.specs.Passes.{lane_named}
use Rattle.row_faults.proofs.lane_named.Goals as goal

pub overflow_add-before : goal.overflow_add-before
overflow_add-before c = omega (arith, lane-before c.args.w.now (sym c.lane_formed.ensures ∙ and-fst c.lane_formed.result c.lane_numbers.result (sym c.both.ensures ∙ c.if-both.true)))

pub overflow_add-after : goal.overflow_add-after
overflow_add-after c = omega (arith, lane-after c.args.w.now (sym c.lane_formed.ensures ∙ and-fst c.lane_formed.result c.lane_numbers.result (sym c.both.ensures ∙ c.if-both.true)))

pub slice_bounds-all_at_most-end : goal.slice_bounds-all_at_most-end
slice_bounds-all_at_most-end c = omega (arith, lane-before c.args.w.now (sym c.lane_formed.ensures ∙ and-fst c.lane_formed.result c.lane_numbers.result (sym c.both.ensures ∙ c.if-both.true)))

pub slice_bounds-all_at_most-end-then-both : goal.slice_bounds-all_at_most-end-then-both
slice_bounds-all_at_most-end-then-both c = omega (arith, lane-after c.args.w.now (sym c.lane_formed.ensures ∙ and-fst c.lane_formed.result c.lane_numbers.result (sym c.both.ensures ∙ c.if-both.true)))

pub returns-then-both : goal.returns-then-both
unfolding lane_named
returns-then-both c =
    let w = c.args.w.now in
    let e : 19 + get_or w 18 0 - 19 ≡ get_or w 18 0 = omega arith in
    let f : 36 + get_or w 35 0 - 36 ≡ get_or w 35 0 = omega arith in
    rw (c.both-then-both.ensures, c.all_at_most.ensures, c.all_at_most-then-both.ensures, e, f, ← c.lane_formed.ensures, ← c.lane_numbers.ensures, ← c.both.ensures, c.if-both.true)

pub returns : goal.returns
unfolding lane_named
returns c = rw (← c.lane_formed.ensures, ← c.lane_numbers.ensures, ← c.both.ensures, c.if-both.false)
