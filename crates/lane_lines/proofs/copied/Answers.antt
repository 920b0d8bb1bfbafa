-- `lane_lines::copied` meets its contract: what is left, written behind what was written, makes the whole. Assumes nothing.
use mathlib.Core.Path.{refl}
use mathlib.Core.List.{List, [], ◌∷◌, ◌++◌}
use Prim.Native.Nat.{◌+◌, ◌*◌, ◌≤◌, ◌<◌}
use native.Mathlib.Omega.{arith}
use lib.ListN.{length, drop}
use Rattle.geometry.specs.declared.Point3.{Point3}
use Rattle.polyline.specs.Polyline.{points}
use Rattle.polyline.proofs.Walk.{at, left-none, left-more}
use Rattle.polyline.proofs.Lines.{Left, begins, fits_more, goes_on, ends}
use Rattle.lane_lines.proofs.copied.Goals as goal
use Rattle.lane_lines.proofs.copied.Lts as lts
use Rattle.lane_lines.proofs.copied.Reads as reads
use Rattle.lane_lines.proofs.copied.Tie as tie

abbrev AtInLoopI : Type 0
AtInLoopI = lts.In-loop tie.the-claims reads.Pre reads.Post goal.the-invariant-loop-i goal.the-decreases-loop-i

-- the line, the next point with what is left behind it, and the room for all
abbrev line_of : AtInLoopI → List Point3
line_of c = points c.args.line.now

abbrev rest : AtInLoopI → List Point3
rest c = drop (c.loop-i.i + 1) (line_of c)

next : (c : AtInLoopI) → Left c.args.out.now c.loop-i.out 0 c.loop-i.i (line_of c) (at (line_of c) c.loop-i.i ∷ [] ++ rest c)
next c =
    let h : c.loop-i.i < length (line_of c) = omega (arith, c.count-n.ensures) in
    rw (left-more (line_of c) c.loop-i.i h) at c.loop-i.invariant.1

room : (c : AtInLoopI) → (0 + length (line_of c)) * 3 ≤ length c.args.out.now
room c = omega (arith, c.requires)

pub loop-i-init : goal.loop-i-init
loop-i-init c = (omega arith, begins c.args.out.now 0 (points c.args.line.now))

pub point-requires : goal.point-requires
point-requires c = omega (arith, c.count-n.ensures, c.loop-i-test.true)

pub put_point-requires : goal.put_point-requires
put_point-requires c =
    let r = fits_more _ _ _ _ (line_of c.before.before.before) (at (line_of c.before.before.before) c.loop-i.i ∷ []) (rest c.before.before.before) (room c.before.before.before) (next c.before.before.before) in
    omega (arith, r)

pub loop-i-preserved : goal.loop-i-preserved
loop-i-preserved c = (
  omega (arith, c.loop-i-test.true),
  rw (c.put_point.ensures, c.point.ensures)
      (goes_on _ _ _ _ (line_of c.before.before.before.before.before.before) (at (line_of c.before.before.before.before.before.before) c.loop-i.i ∷ []) (rest c.before.before.before.before.before.before) (room c.before.before.before.before.before.before) (next c.before.before.before.before.before.before) (c.loop-i.i + 1) refl),
)

pub shape_of-out : goal.shape_of-out
shape_of-out c = c.loop-i.invariant.1.same

pub returns : goal.returns
returns c =
    let ps = points c.args.line.now in
    let l = c.loop-i in
    let h : length ps ≤ l.i = omega (arith, c.count-n.ensures, c.loop-i-test.false) in
    (c.count-n.ensures, ends c.args.out.now l.out 0 l.i ps (rw (left-none ps l.i h) at l.invariant.1))
