-- `stations::between_points` meets its contract: what was counted and what is left make the whole. Assumes nothing.
use Prim.Native.Nat.{◌+◌, ◌≤◌, ◌<◌}
use mathlib.Core.Path.{◌≡◌, sym, ap}
use native.Mathlib.Omega.{arith}
use lib.ListN.{length}
use Rattle.polyline.specs.Polyline.{points, optionally}
use Rattle.polyline.proofs.Lines.{between_none, between-begins, inner-goes, inner-ends, counts-on, optionally-few}
use Rattle.stations.proofs.between_points.Goals as goal

pub returns-then-n-eq0 : goal.returns-then-n-eq0
returns-then-n-eq0 c = sym (ap length (between_none c.args.from c.args.to (points c.args.line.now) (omega arith)))

pub loop-i-init : goal.loop-i-init
loop-i-init c = (omega arith, (omega arith, rw (c.point-p.ensures, ← between-begins c.args.from c.args.to (points c.args.line.now) (omega arith)) (omega arith)))

pub loop-i-preserved : goal.loop-i-preserved
loop-i-preserved c =
    let ps = points c.args.line.now in
    let l = c.loop-i in
    let q = c.point-q.result in
    let h : l.i < length ps = omega (arith, c.count-n.ensures, c.loop-i-test.true) in
    let f : c.if-inside.found ≡ l.found + length (optionally c.inside.result q) = elim c.if-inside.branch [
      | goal.then-inside w ↦ rw w.if-inside.true w.found-is
      | goal.else-inside w ↦ rw w.if-inside.false (omega (arith, w.found-is))
    ] in
    let g = rw (← c.point-q.ensures, ← c.distance-at.ensures, ← c.inside.ensures) at (inner-goes c.args.from c.args.to ps l.i l.at l.p h) in (
      omega (arith, c.loop-i-test.true),
      (
        omega (arith, l.invariant.1.0, f, optionally-few c.inside.result q),
        counts-on c.inside.result q _ l.found c.if-inside.found _ _ l.invariant.1.1 g f,
      ),
    )

pub returns : goal.returns
returns c =
    let ps = points c.args.line.now in
    let l = c.loop-i in
    let h : length ps ≤ l.i = omega (arith, c.count-n.ensures, c.loop-i-test.false) in
    let e = ap length (inner-ends c.args.from c.args.to ps l.i l.at l.p h) in
    omega (arith, e, l.invariant.1.1)
