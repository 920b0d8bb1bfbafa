-- `nearest::nearest_point` meets its contract: the answer is the best so far against what is left. Assumes nothing.
use Rattle.std.specs.Prelude.{Some}
use Prim.Native.Nat.{◌+◌, ◌≤◌, ◌<◌}
use mathlib.Core.Path.{◌≡◌, sym, subst, ◌∙◌, ap}
use native.Mathlib.Omega.{arith}
use lib.ListN.{length}
use Rattle.geometry.specs.Float.{zeroᶠ}
use Rattle.geometry.specs.Point.{distance2, xy}
use Rattle.polyline.specs.Polyline.{points, candidate}
use Rattle.polyline.specs.declared.NearestPoint.{NearestPoint}
use Rattle.nearest.proofs.Squares.{kept, offers}
use Rattle.polyline.proofs.Walk.{nearest-none, nearest-one, nearest-begins, nearest-goes, nearest-ends}
use Rattle.nearest.proofs.nearest_point.Goals as goal

pub returns-then-n-eq0 : goal.returns-then-n-eq0
returns-then-n-eq0 c = nearest-none (points c.args.line.now) c.args.to (omega arith)

pub returns-then-n-eq1 : goal.returns-then-n-eq1
returns-then-n-eq1 c = rw (c.distance.ensures, c.xy.ensures, c.point-first.ensures) (nearest-one (points c.args.line.now) c.args.to (omega arith))

pub loop-i-init : goal.loop-i-init
loop-i-init c = (omega arith, (rw (c.candidate-best.ensures, c.distance-seg.ensures, c.point-p.ensures, c.point-first.ensures) (nearest-begins (points c.args.line.now) c.args.to (omega arith)), subst (λ (b : NearestPoint). b.distance ≡ distance2 (xy b.point) c.args.to) (sym c.candidate-best.ensures) (offers 0 zeroᶠ c.args.to c.point-first.result c.point-p.result)))

pub better-best-requires : goal.better-best-requires
better-best-requires c = (c.distance-step.ensures, c.loop-i.invariant.1.1)

pub loop-i-preserved : goal.loop-i-preserved
loop-i-preserved c =
    let h : c.loop-i.i + 1 < length (points c.args.line.now) = omega (arith, c.count-n.ensures, c.loop-i-test.true) in
    let l = c.loop-i in
    let b : c.better-best.result.distance ≡ distance2 (xy c.better-best.result.point) c.args.to =
    subst (λ (z : NearestPoint). z.distance ≡ distance2 (xy z.point) c.args.to) (sym c.better-best.ensures)
    (kept c.args.to l.best (candidate l.i l.at c.args.to l.p c.point-q.result) l.invariant.1.1 (offers l.i l.at c.args.to l.p c.point-q.result)) in
    (omega (arith, c.count-n.ensures, c.loop-i-test.true), (rw (c.better-best.ensures, c.distance-step.ensures, c.point-q.ensures) (l.invariant.1.0 ∙ ap Some (nearest-goes (points c.args.line.now) l.i l.at c.args.to l.best l.p h)), b))

pub returns : goal.returns
returns c =
    let h : length (points c.args.line.now) ≤ c.loop-i.i + 1 = omega (arith, c.count-n.ensures, c.loop-i-test.false) in
    let l = c.loop-i in
    sym (l.invariant.1.0 ∙ ap Some (nearest-ends (points c.args.line.now) l.i l.at c.args.to l.best l.p h))
