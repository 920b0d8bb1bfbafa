-- `polyline::point_at` meets its contract: a place lies on the line, so the next index does not wrap. Assumes nothing.
use native.Mathlib.Omega.{arith}
use mathlib.Core.Path.{sym, ◌∙◌}
use Rattle.polyline.specs.Polyline.{points}
use Rattle.polyline.proofs.Points.{length-points}
use Rattle.polyline.proofs.Walk.{locate-inside, point-at-none, point-at_in, point-at-last}
use Rattle.polyline.proofs.point_at.Goals as goal

pub returns-in_default : goal.returns-in_default
returns-in_default c = point-at-none (points c.args.line.now) c.args.station (sym c.locate-place.ensures ∙ c.in_default.is)

pub overflow_add-i : goal.overflow_add-i
overflow_add-i c =
    let e = sym c.locate-place.ensures ∙ c.in-Some.is in
    omega (arith, locate-inside (points c.args.line.now) c.args.station _ _ e, length-points c.args.line.now)

pub returns-then-i-count : goal.returns-then-i-count
returns-then-i-count c =
    let e = sym c.locate-place.ensures ∙ c.in-Some.is in
    rw (c.lerp.ensures, c.point-then-i-count.ensures, c.point.ensures) (point-at_in (points c.args.line.now) c.args.station _ _ e (omega (arith, c.count.ensures)))

pub returns : goal.returns
returns c =
    let e = sym c.locate-place.ensures ∙ c.in-Some.is in
    c.last.ensures ∙ point-at-last (points c.args.line.now) c.args.station _ _ e (omega (arith, c.count.ensures))
