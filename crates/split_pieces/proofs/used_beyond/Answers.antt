-- `split_pieces::used_beyond` meets its contract. The invariant: no lane before row j that is not marked uses the boundary.
use mathlib.Core.Bool.{not}
use mathlib.Core.Path.{ap}
use mathlib.Core.Logic.{⊎_elim}
use Prim.Native.Nat.{◌-◌, ◌≤◌}
use native.Mathlib.Omega.{arith}
use Rattle.tables.specs.View.{word}
use Rattle.lookup.proofs.Laws.{sorted-room, sorted-few}
use Rattle.split_pieces.proofs.Beyond.{Unused, beyond-begins, beyond-marked, beyond-none, beyond-stops, beyond-ends}
use Rattle.split_pieces.proofs.used_beyond.Goals as goal

pub bounds-lanes-0 : goal.bounds-lanes-0
bounds-lanes-0 c = omega (arith, sorted-room 1024 52 c.args.lanes.now c.requires.0)

pub loop-j-init : goal.loop-j-init
loop-j-init c = (omega arith, beyond-begins c.args.seen.now c.args.lanes.now c.args.id)

pub bounds-seen-j : goal.bounds-seen-j
bounds-seen-j c = omega (arith, c.loop-j-test.true, c.requires.1)

pub row_uses-requires : goal.row_uses-requires
row_uses-requires c = (c.requires.0, c.loop-j-test.true)

pub returns-then-row_uses : goal.returns-then-row_uses
returns-then-row_uses c = beyond-stops c.args.seen.now c.args.lanes.now c.args.id c.loop-j.j c.loop-j.invariant.1 c.loop-j-test.true c.requires.1 (ap not c.if-not-seen-j.true) c.row_uses.result c.row_uses.ensures c.if-row_uses.true

pub loop-j-preserved : goal.loop-j-preserved
loop-j-preserved c =
    let u = c.before.before.before.before.before.before.before.before in
    let t = c.loop-j in
    let l = c.loop-j-test.true in
    elim c.if-not-seen-j.branch [
      | goal.then-not-seen-j+else-row_uses s ↦ (omega (arith, l), beyond-none u.args.seen.now u.args.lanes.now u.args.id t.j t.invariant.1 l u.requires.1 (ap not s.if-not-seen-j.true) s.row_uses.result s.row_uses.ensures s.if-row_uses.false)
      | goal.else-not-seen-j s ↦ (omega (arith, l), beyond-marked u.args.seen.now u.args.lanes.now u.args.id t.j t.invariant.1 l u.requires.1 (ap not s.if-not-seen-j.false))
    ]

pub returns : goal.returns
returns c = beyond-ends c.args.seen.now c.args.lanes.now c.args.id c.loop-j.j c.loop-j.invariant.1 c.loop-j-test.false
