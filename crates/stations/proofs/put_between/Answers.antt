-- `stations::put_between` meets its contract: what is left, written behind what was written, makes the whole. Assumes nothing.
use mathlib.Core.Path.{refl, sym}
use native.Mathlib.Omega.{arith}
use native.Mathlib.Nat.{add-zero}
use lib.ListN.{length, drop}
use Rattle.polyline.specs.Polyline.{points, between, inner, inside, optionally}
use Rattle.polyline.proofs.Points.{over_none}
use Rattle.polyline.proofs.Lines.{between_none, between-begins, inner-goes, inner-ends, Left, begins, fits_more, goes_on, ends}
use Prim.Native.Nat.{◌+◌, ◌≤◌, ◌<◌}
use Rattle.geometry.specs.Float.{◌+ᶠ◌}
use mathlib.Core.List.{List, ◌++◌}
use lib.Ieee.{Float}
use Rattle.geometry.specs.Point.{distance3}
use Rattle.geometry.specs.declared.Point3.{Point3}
use Rattle.polyline.proofs.Walk.{at}
use Rattle.stations.proofs.put_between.Goals as goal
use Rattle.stations.proofs.put_between.Lts as lts
use Rattle.stations.proofs.put_between.Reads as reads
use Rattle.stations.proofs.put_between.Tie as tie

abbrev AtInLoopI : Type 0
AtInLoopI = lts.In-loop tie.the-claims reads.Pre reads.Post goal.the-invariant-loop-i goal.the-decreases-loop-i

-- the line, the next station, the points to write, and the next of them, if it is one, with what is left behind it
abbrev line_of : AtInLoopI → List Point3
line_of c = points c.args.line.now

abbrev here : AtInLoopI → Float
here c = c.loop-i.at +ᶠ distance3 c.loop-i.p (at (line_of c) c.loop-i.i)

abbrev whole : AtInLoopI → List Point3
whole c = between c.args.from c.args.to (line_of c)

abbrev piece : AtInLoopI → List Point3
piece c = optionally (inside c.args.from c.args.to (here c)) (at (line_of c) c.loop-i.i)

abbrev rest : AtInLoopI → List Point3
rest c = inner c.args.from c.args.to (here c) (at (line_of c) c.loop-i.i) (drop (c.loop-i.i + 1) (line_of c))

next : (c : AtInLoopI)
    → Left c.args.out.now c.loop-i.out c.args.k (c.args.k + c.loop-i.found) (whole c) (piece c ++ rest c)
next c =
    let h : c.loop-i.i < length (line_of c) = omega (arith, c.count-n.ensures) in
    rw (inner-goes c.args.from c.args.to (line_of c) c.loop-i.i c.loop-i.at c.loop-i.p h) at c.loop-i.invariant.1

pub returns-then-n-eq0 : goal.returns-then-n-eq0
returns-then-n-eq0 c = rw (between_none c.args.from c.args.to (points c.args.line.now) (omega arith)) (refl, sym (over_none c.args.out.now c.args.k))

pub loop-i-init : goal.loop-i-init
loop-i-init c =
    let ps = points c.args.line.now in
    (omega arith, rw (c.point-p.ensures, ← between-begins c.args.from c.args.to ps (omega arith), add-zero) (begins c.args.out.now c.args.k (between c.args.from c.args.to ps)))

pub overflow_add-k : goal.overflow_add-k
overflow_add-k c =
    let l = c.loop-i in
    omega (arith, l.invariant.1.total, c.requires, c.well_formed.1.1.1.0.0)

pub put_if-found-requires : goal.put_if-found-requires
put_if-found-requires c = rw (c.inside.ensures, c.distance-at.ensures, c.point-q.ensures) (fits_more _ _ _ _ (whole c.before.before.before.before.before) (piece c.before.before.before.before.before) (rest c.before.before.before.before.before) c.requires (next c.before.before.before.before.before))

pub overflow_add-found : goal.overflow_add-found
overflow_add-found c =
    let r = fits_more _ _ _ _ (whole c.before.before.before.before.before.before.before.before) (piece c.before.before.before.before.before.before.before.before) (rest c.before.before.before.before.before.before.before.before) c.requires (next c.before.before.before.before.before.before.before.before) in
    let e = rw (c.inside.ensures, c.distance-at.ensures, c.point-q.ensures) at c.put_if-found.ensures in
    omega (arith, r, e.0, c.loop-i.invariant.1.same, c.well_formed.1.1.1.0.0)

pub loop-i-preserved : goal.loop-i-preserved
loop-i-preserved c =
    let e = rw (c.inside.ensures, c.distance-at.ensures, c.point-q.ensures) at c.put_if-found.ensures in (
      omega (arith, c.loop-i-test.true),
      rw (e.1, c.distance-at.ensures, c.point-q.ensures)
          (goes_on _ _ _ _ (whole c.before.before.before.before.before.before.before.before) (piece c.before.before.before.before.before.before.before.before) (rest c.before.before.before.before.before.before.before.before) c.requires (next c.before.before.before.before.before.before.before.before) (c.args.k + (c.loop-i.found + c.put_if-found.result)) (omega (arith, e.0))),
    )

pub returns : goal.returns
returns c =
    let ps = points c.args.line.now in
    let l = c.loop-i in
    let h : length ps ≤ l.i = omega (arith, c.count-n.ensures, c.loop-i-test.false) in
    let f = rw (inner-ends c.args.from c.args.to ps l.i l.at l.p h) at l.invariant.1 in
    (omega (arith, f.total), ends c.args.out.now l.out c.args.k (c.args.k + l.found) _ f)
