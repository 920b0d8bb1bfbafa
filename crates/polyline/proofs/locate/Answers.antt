-- `polyline::locate` meets its contract: the place is the place on what is left. Assumes nothing.
use Prim.Native.Nat.{◌+◌, ◌≤◌, ◌<◌, ◌-◌}
use mathlib.Core.Path.{◌≡◌, sym, ◌∙◌}
use native.Mathlib.Omega.{arith}
use lib.ListN.{length}
use Rattle.polyline.specs.Polyline.{points}
use Rattle.polyline.proofs.Walk.{locate-none, locate-one, locate-before, locate-begins, locate-found, locate-goes, locate-ends}
use Rattle.polyline.proofs.locate.Goals as goal

pub returns-then-n-eq0 : goal.returns-then-n-eq0
returns-then-n-eq0 c = locate-none (points c.args.line.now) c.args.station (omega arith)

pub returns-then-n-eq1 : goal.returns-then-n-eq1
returns-then-n-eq1 c = locate-one (points c.args.line.now) c.args.station (omega arith)

pub returns-then-station : goal.returns-then-station
returns-then-station c = locate-before (points c.args.line.now) c.args.station (omega arith) c.if-station.true

pub loop-i-init : goal.loop-i-init
loop-i-init c = (omega arith, rw c.point-p.ensures (locate-begins (points c.args.line.now) c.args.station (omega arith) c.if-station.false))

pub returns-then-seg : goal.returns-then-seg
returns-then-seg c =
    let h : c.loop-i.i + 1 < length (points c.args.line.now) = omega (arith, c.count-n.ensures, c.loop-i-test.true) in
    let l = c.loop-i in
    let t = rw (c.distance-seg.ensures, c.point-q.ensures) at c.if-station-end.true in
    let u = rw (c.distance-seg.ensures, c.point-q.ensures) at c.if-seg.true in
    rw (c.held.ensures, c.distance-seg.ensures, c.point-q.ensures) (sym (l.invariant.1 ∙ locate-found (points c.args.line.now) l.i l.at c.args.station l.p h t u))

pub loop-i-preserved : goal.loop-i-preserved
loop-i-preserved c =
    let h : c.loop-i.i + 1 < length (points c.args.line.now) = omega (arith, c.count-n.ensures, c.loop-i-test.true) in
    let l = c.loop-i in
    let d = c.distance-seg.ensures in
    let q = c.point-q.ensures in (
      omega (arith, c.count-n.ensures, c.loop-i-test.true),
      rw (d, q) (l.invariant.1 ∙ locate-goes (points c.args.line.now) l.i l.at c.args.station l.p h
          (elim c.if-station-end.branch [
            | goal.then-station-end+else-seg w ↦ rw (rw (d, q) at w.if-station-end.true, rw (d, q) at w.if-seg.false)
            | goal.else-station-end w ↦ rw (rw (d, q) at w.if-station-end.false)
          ])),
    )

pub returns : goal.returns
returns c =
    let h : length (points c.args.line.now) ≤ c.loop-i.i + 1 = omega arith in
    let last : c.loop-i.i - 1 ≡ c.count-n.result - 2 = omega arith in
    rw (← last) (sym (c.loop-i.invariant.1 ∙ locate-ends (points c.args.line.now) c.loop-i.i c.loop-i.at c.args.station c.loop-i.p h))
