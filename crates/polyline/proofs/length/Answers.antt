-- `polyline::length` meets its contract: the length is what is left added to the sum so far and the segment that is begun. Assumes nothing.
use Prim.Native.Nat.{◌≤◌, ◌<◌}
use mathlib.Core.Path.{◌≡◌, refl, sym, ◌∙◌}
use native.Mathlib.Omega.{arith}
use lib.Ieee.{add, neg, of_bits}
use lib.ListN.{length}
use Rattle.geometry.specs.Float.{◌+ᶠ◌}
use Rattle.geometry.specs.Point.{distance3}
use Rattle.polyline.specs.Polyline.{points, minus_zero}
use Rattle.polyline.proofs.Walk.{length_none, length-begins, length-goes, length-ends}
use Rattle.polyline.proofs.length.Goals as goal

-- the sum before the first segment, and the zero in its place
no_more : minus_zero +ᶠ minus_zero ≡ minus_zero
unfolding add of_bits
no_more = refl

pub returns-then-n-eq0 : goal.returns-then-n-eq0
unfolding neg of_bits
returns-then-n-eq0 c = length_none (points c.args.line.now) (omega arith)

pub loop-i-init : goal.loop-i-init
unfolding neg of_bits
loop-i-init c = (omega arith, (minus_zero, c.known-segment.ensures, rw (c.point-p.ensures, no_more) (length-begins (points c.args.line.now) (omega arith))))

pub finish-sum-requires : goal.finish-sum-requires
finish-sum-requires c = (c.loop-i.invariant.1.0, c.loop-i.invariant.1.1)

pub loop-i-preserved : goal.loop-i-preserved
loop-i-preserved c =
    let ps = points c.args.line.now in
    let i = c.loop-i.i in
    let p = c.loop-i.p in
    let inv = c.loop-i.invariant.1 in
    let h : i < length ps = omega arith in
    (omega arith, (distance3 p c.point-q.result, c.begin_distance-next.ensures, rw (c.finish-sum.ensures inv.0 inv.1, c.point-q.ensures) (inv.2 ∙ length-goes ps i (c.loop-i.sum +ᶠ inv.0) p h)))

pub finish-requires : goal.finish-requires
finish-requires c = (c.loop-i.invariant.1.0, c.loop-i.invariant.1.1)

pub returns : goal.returns
returns c =
    let ps = points c.args.line.now in
    let inv = c.loop-i.invariant.1 in
    let h : length ps ≤ c.loop-i.i = omega arith in
    rw (c.finish.ensures inv.0 inv.1) (sym (inv.2 ∙ length-ends ps c.loop-i.i (c.loop-i.sum +ᶠ inv.0) c.loop-i.p h))
