-- `stations::resample_count` meets its contract: what is left, written behind what was written, makes the whole. Assumes nothing.
use Prim.Native.Nat.{ℕ, ◌+◌, ◌*◌, ◌-◌, ◌≤◌, ◌<◌}
use mathlib.Core.Path.{refl, sym, ap, ◌∙◌}
use mathlib.Core.List.{List, ◌++◌}
use native.Mathlib.Omega.{arith}
use lib.ListN.{length}
use Rattle.polyline.specs.Polyline.{points, optional, point_at, share, line_length, resample_from, resample_count}
use Rattle.polyline.proofs.Points.{over_none}
use Rattle.polyline.proofs.Lines.{Left, begins, fits_more, goes_on, ends, point-at-one, resample_begins, resample_goes, resample_ends, resample_empty, length_resample_count}
use Rattle.geometry.specs.declared.Point3.{Point3}
use Rattle.stations.proofs.resample_count.Goals as goal
use Rattle.stations.proofs.resample_count.Lts as lts
use Rattle.stations.proofs.resample_count.Reads as reads
use Rattle.stations.proofs.resample_count.Tie as tie

abbrev AtInLoopI : Type 0
AtInLoopI = lts.In-loop tie.the-claims reads.Pre reads.Post goal.the-invariant-loop-i goal.the-decreases-loop-i

-- the line, all points of it that are asked for, the next of them with what is left behind it, and the room for all
abbrev line_of : AtInLoopI → List Point3
line_of c = points c.args.line.now

abbrev parts : AtInLoopI → ℕ
parts c = c.max-wanted.result - 1

abbrev whole : AtInLoopI → List Point3
whole c = resample_count (line_of c) c.args.n

abbrev piece : AtInLoopI → List Point3
piece c = optional (point_at (line_of c) (share (line_length (line_of c)) c.loop-i.i (parts c)))

abbrev rest : AtInLoopI → List Point3
rest c = resample_from (line_of c) (parts c) (c.loop-i.i + 1) (c.max-wanted.result - (c.loop-i.i + 1))

next : (c : AtInLoopI) → Left c.args.out.now c.loop-i.out 0 c.loop-i.i (whole c) (piece c ++ rest c)
next c = rw (resample_goes (line_of c) (parts c) c.loop-i.i c.max-wanted.result c.loop-i-test.true) at c.loop-i.invariant.1

room : (c : AtInLoopI) → (0 + length (whole c)) * 3 ≤ length c.args.out.now
room c = omega (arith, c.requires.1)

pub returns-then-count-eq0 : goal.returns-then-count-eq0
returns-then-count-eq0 c = rw (resample_empty (points c.args.line.now) c.args.n (omega arith)) (refl, sym (over_none c.args.out.now 0))

pub loop-i-init : goal.loop-i-init
loop-i-init c = (omega arith, rw (← resample_begins (points c.args.line.now) c.args.n c.max-wanted.result c.max-wanted.ensures) (begins c.args.out.now 0 (resample_count (points c.args.line.now) c.args.n)))

pub put_optional-requires : goal.put_optional-requires
put_optional-requires c = rw (c.point_at.ensures, c.share.ensures, c.length-len.ensures) (fits_more _ _ _ _ (whole c.before.before.before.before) (piece c.before.before.before.before) (rest c.before.before.before.before) (room c.before.before.before.before) (next c.before.before.before.before))

pub loop-i-preserved : goal.loop-i-preserved
loop-i-preserved c =
    let some : 0 < length (line_of c.before.before.before.before.before.before.before) = omega (arith, c.count.ensures, c.if-count-eq0.false) in (
      omega (arith, c.loop-i-test.true),
      rw (c.put_optional.ensures.1, c.point_at.ensures, c.share.ensures, c.length-len.ensures)
          (goes_on _ _ _ _ (whole c.before.before.before.before.before.before.before) (piece c.before.before.before.before.before.before.before) (rest c.before.before.before.before.before.before.before) (room c.before.before.before.before.before.before.before) (next c.before.before.before.before.before.before.before) (c.loop-i.i + 1) (ap (λ k. c.loop-i.i + k) (point-at-one _ _ some))),
    )

pub returns : goal.returns
returns c =
    let ps = points c.args.line.now in
    let l = c.loop-i in
    let w = c.max-wanted.result in
    let some : 0 < length ps = omega (arith, c.count.ensures, c.if-count-eq0.false) in (
      c.max-wanted.ensures ∙ sym (length_resample_count ps c.args.n some),
      ends c.args.out.now l.out 0 l.i (resample_count ps c.args.n) (rw (resample_ends ps (w - 1) l.i w c.loop-i-test.false) at l.invariant.1),
    )
