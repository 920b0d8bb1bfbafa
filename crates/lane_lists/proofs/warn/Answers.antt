-- `lane_lists::warn` meets its contract. The invariant: the rules of the first i rows are warned of. Assumes nothing.
use Prim.Native.Nat.{◌+◌, ◌*◌, ◌-◌, ◌≤◌}
use native.Mathlib.Omega.{arith}
use lib.ListN.{length}
use mathlib.Core.Path.{refl}
use Rattle.mentions.specs.declared.Rows.TheVariants.{Orphans}
use Rattle.mentions.proofs.Turns.{formed-some, formed-few, lent-room, lent-formed}
use Rattle.lane_lists.proofs.Warned.{Warned, warned-none, warned-length, warned-room, warned-turn, warned-all}
use Rattle.lane_lists.proofs.warn.Goals as goal
use Rattle.lane_lists.proofs.warn.Lts as lts
use Rattle.lane_lists.proofs.warn.Reads as reads
use Rattle.lane_lists.proofs.warn.Tie as tie

abbrev AtInLoopI : Type 0
AtInLoopI = lts.In-loop tie.the-claims reads.Pre reads.Post goal.the-invariant-loop-i goal.the-decreases-loop-i

-- row i lies within the table
row : (c : AtInLoopI) → 1 + c.loop-i.i * 330 + 330 ≤ length c.args.rules.now
row c = lent-room Orphans c.args.rules.now c.requires.0 330 refl c.loop-i.i c.loop-i-test.true

pub bounds-rules-0 : goal.bounds-rules-0
bounds-rules-0 c = omega (arith, formed-some Orphans c.args.rules.now c.requires.0)

pub loop-i-init : goal.loop-i-init
loop-i-init c = warned-none c.args.lane c.args.rules.now c.args.warnings.now c.requires.1

pub overflow_mul-row : goal.overflow_mul-row
overflow_mul-row c = omega (arith, row c.before)

pub overflow_add-row : goal.overflow_add-row
overflow_add-row c = omega (arith, row c.before)

pub overflow_add-end : goal.overflow_add-end
overflow_add-end c = omega (arith, row c.before)

pub offset_bounds-rules-row : goal.offset_bounds-rules-row
offset_bounds-rules-row c = omega (arith, row c.before)

pub slice_bounds-names_lane-count : goal.slice_bounds-names_lane-count
slice_bounds-names_lane-count c = omega arith

pub names_lane-on-requires : goal.names_lane-on-requires
names_lane-on-requires c = lent-formed Orphans c.args.rules.now c.requires.0 330 refl c.loop-i.i c.loop-i-test.true

pub offset_bounds-rules-row-in-loop-i : goal.offset_bounds-rules-row-in-loop-i
offset_bounds-rules-row-in-loop-i c = omega (arith, row c.before.before.before)

pub bounds-rules-row : goal.bounds-rules-row
bounds-rules-row c = omega (arith, row c.before.before.before.before)

pub warn_where-place-requires : goal.warn_where-place-requires
warn_where-place-requires c =
    let a = c.args in
    let l = c.loop-i in
    let b = c.names_lane-on in
    warned-room a.lane a.rules.now a.warnings.now c.requires.1 l.warnings l.i l.place l.invariant c.loop-i-test.true b.result b.ensures

pub loop-i-preserved : goal.loop-i-preserved
loop-i-preserved c =
    let a = c.args in
    let l = c.loop-i in
    let b = c.names_lane-on in
    let p = c.warn_where-place in
    warned-turn a.lane a.rules.now a.warnings.now c.requires.1 l.warnings l.i l.place l.invariant c.loop-i-test.true b.result b.ensures p.new.warnings p.result p.ensures.0 p.ensures.1

pub shape_of-warnings : goal.shape_of-warnings
shape_of-warnings c =
    let a = c.args in
    let l = c.loop-i in
    warned-length a.lane a.rules.now a.warnings.now c.requires.1 l.warnings l.i l.place l.invariant

pub returns : goal.returns
returns c =
    let a = c.args in
    let l = c.loop-i in
    warned-all a.lane a.rules.now a.warnings.now c.requires.1 l.warnings l.i l.place l.invariant c.loop-i-test.false

pub slice_bounds-names_lane-end : goal.slice_bounds-names_lane-end
slice_bounds-names_lane-end c = omega (arith, lent-room Orphans c.args.rules.now c.requires.0 330 refl c.loop-i.i c.loop-i-test.true)
