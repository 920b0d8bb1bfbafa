-- `stations::centerline` meets its contract: what is left, written behind what was written, makes the whole. Assumes nothing.
use Rattle.std.specs.Prelude.{Option}
use Prim.Native.Nat.{◌+◌, ◌*◌, ◌-◌, ◌≤◌, ◌<◌}
use mathlib.Core.Path.{refl, sym, ap, ◌∙◌}
use mathlib.Core.List.{List, ◌++◌}
use native.Mathlib.Omega.{arith}
use lib.ListN.{length}
use Rattle.polyline.specs.Polyline.{points, optional, point_at, share, line_length, middle, centerline}
use Rattle.polyline.proofs.Points.{over_none}
use Rattle.polyline.proofs.Walk.{no-point}
use Rattle.polyline.proofs.Lines.{Left, begins, fits_more, goes_on, ends, point-at-one, middle-one, halved, halved-goes, halved-ends, centerline-some, centerline-begins, length-centerline}
use Rattle.geometry.specs.declared.Point3.{Point3}
use Rattle.stations.proofs.centerline.Goals as goal
use Rattle.stations.proofs.centerline.Lts as lts
use Rattle.stations.proofs.centerline.Reads as reads
use Rattle.stations.proofs.centerline.Tie as tie

abbrev AtInLoopI : Type 0
AtInLoopI = lts.In-loop tie.the-claims reads.Pre reads.Post goal.the-invariant-loop-i goal.the-decreases-loop-i

-- the two sides, the next point between them with what is left behind it, the room for all, and that neither side is empty
abbrev left-of : AtInLoopI → List Point3
left-of c = points c.args.left.now

abbrev right_of : AtInLoopI → List Point3
right_of c = points c.args.right.now

abbrev point-of : AtInLoopI → List Point3 → Option Point3
point-of c ps = point_at ps (share (line_length ps) c.loop-i.i (c.centerline_points-n.result - 1))

abbrev piece : AtInLoopI → List Point3
piece c = optional (middle (point-of c (left-of c)) (point-of c (right_of c)))

abbrev rest : AtInLoopI → List Point3
rest c = halved (left-of c) (right_of c) (c.centerline_points-n.result - 1) (c.loop-i.i + 1) (c.centerline_points-n.result - (c.loop-i.i + 1))

some : (c : AtInLoopI) → (0 < length (left-of c)) × (0 < length (right_of c))
some c = centerline-some (left-of c) (right_of c) (λ z. c.if-n-eq0.false (c.centerline_points-n.ensures ∙ z))

next : (c : AtInLoopI) → Left c.args.out.now c.loop-i.out 0 c.loop-i.i (centerline (left-of c) (right_of c)) (piece c ++ rest c)
next c = rw (halved-goes (left-of c) (right_of c) (c.centerline_points-n.result - 1) c.loop-i.i c.centerline_points-n.result (some c).0 (some c).1 c.loop-i-test.true) at c.loop-i.invariant.1

room : (c : AtInLoopI) → (0 + length (centerline (left-of c) (right_of c))) * 3 ≤ length c.args.out.now
room c = omega (arith, c.requires.1)

pub returns-then-n-eq0 : goal.returns-then-n-eq0
returns-then-n-eq0 c =
    let e = no-point (centerline (points c.args.left.now) (points c.args.right.now)) (omega arith) in
    rw e (refl, sym (over_none c.args.out.now 0))

pub loop-i-init : goal.loop-i-init
loop-i-init c =
    let ps = points c.args.left.now in
    let qs = points c.args.right.now in
    let w = c.centerline_points-n.result in
    let some = centerline-some ps qs (λ z. c.if-n-eq0.false (c.centerline_points-n.ensures ∙ z)) in
    let e = c.centerline_points-n.ensures ∙ length-centerline ps qs some.0 some.1 in
    (omega arith, rw (← centerline-begins ps qs w some.0 some.1 e) (begins c.args.out.now 0 (centerline ps qs)))

pub put_optional-requires : goal.put_optional-requires
put_optional-requires c =
    rw (c.middle.ensures, c.point_at.ensures, c.point_at-in-loop-i.ensures, c.share.ensures, c.share-in-loop-i.ensures, c.length-l.ensures, c.length-r.ensures)
    (fits_more _ _ _ _ (centerline (left-of c.before.before.before.before.before.before.before) (right_of c.before.before.before.before.before.before.before)) (piece c.before.before.before.before.before.before.before) (rest c.before.before.before.before.before.before.before) (room c.before.before.before.before.before.before.before) (next c.before.before.before.before.before.before.before))

pub loop-i-preserved : goal.loop-i-preserved
loop-i-preserved c =
    let one = middle-one _ _ (point-at-one (left-of c.before.before.before.before.before.before.before.before.before.before) _ (some c.before.before.before.before.before.before.before.before.before.before).0) (point-at-one (right_of c.before.before.before.before.before.before.before.before.before.before) _ (some c.before.before.before.before.before.before.before.before.before.before).1) in (
      omega (arith, c.loop-i-test.true),
      rw (c.put_optional.ensures.1, c.middle.ensures, c.point_at.ensures, c.point_at-in-loop-i.ensures, c.share.ensures, c.share-in-loop-i.ensures, c.length-l.ensures, c.length-r.ensures)
          (goes_on _ _ _ _ (centerline (left-of c.before.before.before.before.before.before.before.before.before.before) (right_of c.before.before.before.before.before.before.before.before.before.before)) (piece c.before.before.before.before.before.before.before.before.before.before) (rest c.before.before.before.before.before.before.before.before.before.before) (room c.before.before.before.before.before.before.before.before.before.before) (next c.before.before.before.before.before.before.before.before.before.before) (c.loop-i.i + 1) (ap (λ k. c.loop-i.i + k) one)),
    )

pub returns : goal.returns
returns c =
    let ps = points c.args.left.now in
    let qs = points c.args.right.now in
    let l = c.loop-i in
    let w = c.centerline_points-n.result in (
      c.centerline_points-n.ensures,
      ends c.args.out.now l.out 0 l.i (centerline ps qs) (rw (halved-ends ps qs (w - 1) l.i w c.loop-i-test.false) at l.invariant.1),
    )
