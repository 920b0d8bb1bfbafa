-- `split_cross::cross_all` meets its contract. The invariant: the boundaries of the marked lanes before row j cross the cut.
use mathlib.Core.Path.{◌≡◌, sym, ◌∙◌}
use mathlib.Core.Logic.{⊎_elim}
use Prim.Native.Nat.{◌-◌, ◌≤◌}
use native.Mathlib.Omega.{arith}
use borrow.Author.Rules.{rules}
use Rattle.rules.specs.Edit.{passed}
use Rattle.tables.specs.View.{word}
use Rattle.lookup.proofs.Laws.{sorted-room}
use Rattle.split_plan.specs.Placing.{row_crosses, all_pass}
use Rattle.split_plan.proofs.Turns.{first_rows, cross-begins, cross-none, cross-one, cross-stops, cross-ends}
use Rattle.split_cross.proofs.cross_all.Goals as goal

pub bounds-map-0 : goal.bounds-map-0
bounds-map-0 c = omega (arith, sorted-room 1024 52 c.args.map.lanes.now c.args.map.drawable.lanes_are_sorted)

pub loop-j-init : goal.loop-j-init
loop-j-init c = (omega arith, cross-begins (row_crosses c.args.map.coordinates.now c.args.map.boundaries.now c.args.point) c.args.seen.now c.args.map.lanes.now)

pub bounds-seen-j : goal.bounds-seen-j
bounds-seen-j c = omega arith

pub row_crosses-requires : goal.row_crosses-requires
row_crosses-requires c = c.loop-j-test.true

pub returns-in_err-row_crosses : goal.returns-in_err-row_crosses
returns-in_err-row_crosses c =
    let stops = cross-stops (row_crosses c.args.map.coordinates.now c.args.map.boundaries.now c.args.point) c.args.seen.now c.args.map.lanes.now c.loop-j.j c.loop-j.invariant.1 c.loop-j-test.true c.requires c.if-seen-j.true _ (sym c.in_err-row_crosses.was ∙ c.row_crosses.ensures) in
    search rules

pub loop-j-preserved : goal.loop-j-preserved
loop-j-preserved c =
    elim c.if-seen-j.branch [
      | goal.then-seen-j+in_ok-row_crosses s ↦ (omega arith, cross-one (row_crosses c.args.map.coordinates.now c.args.map.boundaries.now c.args.point) c.args.seen.now c.args.map.lanes.now c.loop-j.j c.loop-j.invariant.1 c.loop-j-test.true c.requires s.if-seen-j.true (sym s.in_ok-row_crosses.was ∙ s.row_crosses.ensures))
      | goal.else-seen-j s ↦ (omega arith, cross-none (row_crosses c.args.map.coordinates.now c.args.map.boundaries.now c.args.point) c.args.seen.now c.args.map.lanes.now c.loop-j.j c.loop-j.invariant.1 c.loop-j-test.true c.requires s.if-seen-j.false)
    ]

pub returns : goal.returns
returns c = cross-ends (row_crosses c.args.map.coordinates.now c.args.map.boundaries.now c.args.point) c.args.seen.now c.args.map.lanes.now c.loop-j.j c.loop-j.invariant.1 c.loop-j-test.false
