-- `split_pieces::mark_cut` meets its contract. The invariant: the boundaries of the marked lanes before row j are marked.
use mathlib.Core.Path.{◌≡◌, refl, ap, ◌∙◌}
use mathlib.Core.Logic.{⊎_elim}
use Prim.Native.Nat.{◌-◌, ◌≤◌}
use native.Mathlib.Omega.{arith}
use lib.ListN.{length}
use Rattle.rules.specs.Names.{Left, Right}
use Rattle.tables.specs.View.{word}
use Rattle.lookup.proofs.Laws.{sorted-room, sorted-few}
use Rattle.split_pieces.proofs.Marks.{Marked, mark-begins, mark-none, mark-one, mark-ends, side-length}
use Rattle.split_pieces.proofs.mark_cut.Goals as goal

pub bounds-lanes-0 : goal.bounds-lanes-0
bounds-lanes-0 c = omega (arith, sorted-room 1024 52 c.args.lanes.now c.requires.0.0)

pub loop-j-init : goal.loop-j-init
loop-j-init c =
    let u = c.before.before.before.before.before.before in
    (omega arith, (refl, mark-begins u.args.seen.now u.args.lanes.now u.args.boundaries.now u.args.marks.now u.requires.1.1 u.requires.0.1.1))

pub bounds-seen-j : goal.bounds-seen-j
bounds-seen-j c = omega (arith, c.loop-j-test.true, c.requires.1.0)

pub mark_side-requires : goal.mark_side-requires
mark_side-requires c =
    let u = c.requires.0 in
    ((u.0, (u.1.0, omega (arith, u.1.1, c.loop-j.invariant.1.0))), c.loop-j-test.true)

pub mark_side-requires-then-seen-j : goal.mark_side-requires-then-seen-j
mark_side-requires-then-seen-j c =
    let u = c.requires.0 in
    let a = c.args in
    let t = c.loop-j in
    let e = side-length a.lanes.now t.j Left a.boundaries.now t.marks c.mark_side.new.marks c.mark_side.ensures in
    ((u.0, (u.1.0, omega (arith, u.1.1, t.invariant.1.0, e))), c.loop-j-test.true)

pub loop-j-preserved : goal.loop-j-preserved
loop-j-preserved c =
    let a = c.args in
    let p = c.requires in
    let t = c.loop-j in
    let l = c.loop-j-test.true in
    elim c.if-seen-j.branch [
      | goal.then-seen-j s ↦
          let x = s.mark_side.new.marks in
          let y = s.mark_side-then-seen-j.new.marks in
          let d = side-length a.lanes.now t.j Left a.boundaries.now t.marks x s.mark_side.ensures in
          let e = side-length a.lanes.now t.j Right a.boundaries.now x y s.mark_side-then-seen-j.ensures in
          (omega (arith, l), (ap length s.marks-is ∙ e ∙ d ∙ t.invariant.1.0, s.marks-is ∙ mark-one a.seen.now a.lanes.now a.boundaries.now a.marks.now t.j t.marks t.invariant.1.1 l p.1.0 p.0.1.0 s.if-seen-j.true x y s.mark_side.ensures s.mark_side-then-seen-j.ensures))
      | goal.else-seen-j s ↦ (omega (arith, l), (ap length s.marks-is ∙ t.invariant.1.0, s.marks-is ∙ mark-none a.seen.now a.lanes.now a.boundaries.now a.marks.now t.j t.marks t.invariant.1.1 l p.1.0 s.if-seen-j.false))
    ]

pub shape_of-marks : goal.shape_of-marks
shape_of-marks c = c.loop-j.invariant.1.0

pub returns : goal.returns
returns c =
    let a = c.args in
    let t = c.loop-j in
    mark-ends a.seen.now a.lanes.now a.boundaries.now a.marks.now t.j t.marks t.invariant.1.1 c.loop-j-test.false
