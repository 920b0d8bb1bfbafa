-- `joins::reversed` meets its contract: what is left at i is the first n - i points, backwards. Assumes nothing.
use Prim.Native.Nat.{◌+◌, ◌*◌, ◌≤◌, ◌<◌, ◌-◌}
use mathlib.Core.Path.{refl}
use mathlib.Core.List.{List, [], ◌∷◌, ◌++◌, reverse}
use native.Mathlib.Omega.{arith}
use lib.ListN.{length, take, length-reverse}
use Rattle.polyline.specs.Polyline.{points}
use Rattle.polyline.proofs.Walk.{at}
use Rattle.polyline.proofs.Lines.{reverse-begins, reverse-goes, reverse-ends, Left, begins, fits_more, goes_on, ends}
use Rattle.geometry.specs.declared.Point3.{Point3}
use Rattle.joins.proofs.reversed.Goals as goal
use Rattle.joins.proofs.reversed.Lts as lts
use Rattle.joins.proofs.reversed.Reads as reads
use Rattle.joins.proofs.reversed.Tie as tie

abbrev AtInLoopI : Type 0
AtInLoopI = lts.In-loop tie.the-claims reads.Pre reads.Post goal.the-invariant-loop-i goal.the-decreases-loop-i

-- the line, the next point with what is left behind it, and the room for all
abbrev line_of : AtInLoopI → List Point3
line_of c = points c.args.line.now

abbrev rest : AtInLoopI → List Point3
rest c = reverse (take (length (line_of c) - (c.loop-i.i + 1)) (line_of c))

abbrev point-of : AtInLoopI → Point3
point-of c = at (line_of c) (length (line_of c) - 1 - c.loop-i.i)

next : (c : AtInLoopI) → Left c.args.out.now c.loop-i.out 0 c.loop-i.i (reverse (line_of c)) (point-of c ∷ [] ++ rest c)
next c =
    let h : c.loop-i.i < length (line_of c) = omega (arith, c.count-n.ensures) in
    rw (reverse-goes (line_of c) c.loop-i.i h) at c.loop-i.invariant.1

room : (c : AtInLoopI) → (0 + length (reverse (line_of c))) * 3 ≤ length c.args.out.now
room c = omega (arith, length-reverse (line_of c), c.requires)

pub loop-i-init : goal.loop-i-init
loop-i-init c = (omega arith, rw (reverse-begins (points c.args.line.now)) (begins c.args.out.now 0 (reverse (points c.args.line.now))))

pub put_point-requires : goal.put_point-requires
put_point-requires c =
    let r = fits_more _ _ _ _ (reverse (line_of c.before.before.before)) (point-of c.before.before.before ∷ []) (rest c.before.before.before) (room c.before.before.before) (next c.before.before.before) in
    omega (arith, r)

pub loop-i-preserved : goal.loop-i-preserved
loop-i-preserved c = (
  omega (arith, c.loop-i-test.true),
  rw (c.put_point.ensures, c.point.ensures, c.count-n.ensures)
      (goes_on _ _ _ _ (reverse (line_of c.before.before.before.before.before.before)) (point-of c.before.before.before.before.before.before ∷ []) (rest c.before.before.before.before.before.before) (room c.before.before.before.before.before.before) (next c.before.before.before.before.before.before) (c.loop-i.i + 1) refl),
)

pub returns : goal.returns
returns c =
    let ps = points c.args.line.now in
    let l = c.loop-i in
    let h : length ps ≤ l.i = omega (arith, c.count-n.ensures, c.loop-i-test.false) in
    (c.count-n.ensures, ends c.args.out.now l.out 0 l.i (reverse ps) (rw (reverse-ends ps l.i h) at l.invariant.1))
