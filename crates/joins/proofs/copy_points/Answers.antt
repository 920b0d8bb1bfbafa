-- `joins::copy_points` meets its contract: what is left, written behind what was written, makes the whole. Assumes nothing.
use Prim.Native.Nat.{◌+◌, ◌≤◌, ◌<◌, ◌-◌}
use mathlib.Core.Path.{◌≡◌}
use mathlib.Core.List.{List, [], ◌∷◌, ◌++◌}
use native.Mathlib.Omega.{arith}
use lib.ListN.{length, drop}
use Rattle.polyline.specs.Polyline.{points}
use Rattle.polyline.proofs.Walk.{at, left-none, left-more}
use Rattle.polyline.proofs.Lines.{Left, begins, fits_more, goes_on, ends}
use Rattle.geometry.specs.declared.Point3.{Point3}
use Rattle.joins.proofs.copy_points.Goals as goal
use Rattle.joins.proofs.copy_points.Lts as lts
use Rattle.joins.proofs.copy_points.Reads as reads
use Rattle.joins.proofs.copy_points.Tie as tie

abbrev AtInLoopI : Type 0
AtInLoopI = lts.In-loop tie.the-claims reads.Pre reads.Post goal.the-invariant-loop-i goal.the-decreases-loop-i

-- the line, the points to write, and the next of them with what is left behind it
abbrev line_of : AtInLoopI → List Point3
line_of c = points c.args.line.now

abbrev whole : AtInLoopI → List Point3
whole c = drop c.args.from (line_of c)

next : (c : AtInLoopI) → Left c.args.out.now c.loop-i.out c.args.k (c.args.k + (c.loop-i.i - c.args.from)) (whole c)
    (at (line_of c) c.loop-i.i ∷ [] ++ drop (c.loop-i.i + 1) (line_of c))
next c =
    let h : c.loop-i.i < length (line_of c) = omega (arith, c.count-n.ensures) in
    rw (left-more (line_of c) c.loop-i.i h) at c.loop-i.invariant

pub loop-i-init : goal.loop-i-init
loop-i-init c =
    let here : c.args.k + (c.args.from - c.args.from) ≡ c.args.k = omega arith in
    rw here (begins c.args.out.now c.args.k (drop c.args.from (points c.args.line.now)))

pub put_point-requires : goal.put_point-requires
put_point-requires c =
    let r = fits_more _ _ _ _ (whole c.before.before.before) (at (line_of c.before.before.before) c.loop-i.i ∷ []) (drop (c.loop-i.i + 1) (line_of c.before.before.before)) c.requires (next c.before.before.before) in
    omega (arith, r)

pub loop-i-preserved : goal.loop-i-preserved
loop-i-preserved c =
    rw (c.put_point.ensures, c.point.ensures)
    (goes_on _ _ _ _ (whole c.before.before.before.before.before.before) (at (line_of c.before.before.before.before.before.before) c.loop-i.i ∷ []) (drop (c.loop-i.i + 1) (line_of c.before.before.before.before.before.before)) c.requires (next c.before.before.before.before.before.before) (c.args.k + (c.loop-i.i + 1 - c.args.from)) (omega (arith, c.loop-i.auto.i)))

pub returns : goal.returns
returns c =
    let ps = points c.args.line.now in
    let l = c.loop-i in
    let h : length ps ≤ l.i = omega (arith, c.count-n.ensures, c.loop-i-test.false) in
    ends c.args.out.now l.out c.args.k (c.args.k + (l.i - c.args.from)) (drop c.args.from ps) (rw (left-none ps l.i h) at l.invariant)
