-- `naming::count` meets its contract. The invariant: what is counted are the ids of the first i rows. Assumes nothing.
use mathlib.Core.Path.{◌≡◌, sym, ap, ◌∙◌}
use Prim.Native.Nat.{◌+◌, ◌*◌, ◌-◌, ◌≤◌}
use native.Mathlib.Omega.{arith}
use borrow.Author.Rules.{rules}
use lib.ListN.{length}
use mathlib.Core.Logic.{⊎_elim}
use Rattle.mentions.proofs.Turns.{formed-some, formed-few, lent-room, lent-formed, named_of, named_none, named-few, named-all, count-on, count-off}
use Rattle.mentions.proofs.count.Goals as goal
use Rattle.mentions.proofs.count.Lts as lts
use Rattle.mentions.proofs.count.Reads as reads
use Rattle.mentions.proofs.count.Tie as tie

abbrev AtInLoopI : Type 0
AtInLoopI = lts.In-loop tie.the-claims reads.Pre reads.Post goal.the-invariant-loop-i goal.the-decreases-loop-i

-- row i lies within the table
row : (c : AtInLoopI) → 1 + c.loop-i.i * c.row_words-s.result + c.row_words-s.result ≤ length c.args.t.now
row c =
    let a = c.args in
    let s = c.row_words-s in
    lent-room a.rows a.t.now c.requires s.result s.ensures c.loop-i.i c.loop-i-test.true

pub bounds-t-0 : goal.bounds-t-0
bounds-t-0 c = omega (arith, formed-some c.args.rows c.args.t.now c.requires)

pub loop-i-init : goal.loop-i-init
loop-i-init c = (omega arith, sym (ap length (named_none c.args.rows c.args.id c.args.t.now)))

pub overflow_mul-at : goal.overflow_mul-at
overflow_mul-at c = omega (arith, row c.before)

pub overflow_add-at : goal.overflow_add-at
overflow_add-at c = omega (arith, row c.before)

pub overflow_add-end : goal.overflow_add-end
overflow_add-end c = omega (arith, row c.before)

pub offset_bounds-t-at : goal.offset_bounds-t-at
offset_bounds-t-at c = omega (arith, row c.before)

pub slice_bounds-names_lane-count : goal.slice_bounds-names_lane-count
slice_bounds-names_lane-count c = omega arith

pub slice_bounds-names_lane-start : goal.slice_bounds-names_lane-start
slice_bounds-names_lane-start c = omega arith

pub slice_bounds-names_lane-end : goal.slice_bounds-names_lane-end
slice_bounds-names_lane-end c = omega (arith, row c.before)

pub names_lane-requires : goal.names_lane-requires
names_lane-requires c = lent-formed c.args.rows c.args.t.now c.requires c.row_words-s.result c.row_words-s.ensures c.loop-i.i c.loop-i-test.true

pub overflow_add-count : goal.overflow_add-count
overflow_add-count c = omega (arith, c.loop-i.invariant.0, c.loop-i.invariant.1, named-few c.args.rows c.args.id c.args.t.now c.loop-i.i, formed-few c.args.rows c.args.t.now c.requires)

pub loop-i-preserved : goal.loop-i-preserved
loop-i-preserved c =
    let a = c.args in
    let l = c.loop-i in
    let s = c.row_words-s in
    let b = c.names_lane in
    elim c.if-names_lane.branch [
      | goal.then-names_lane z ↦ (omega (arith, c.loop-i-test.true), count-on a.rows a.id a.t.now s.result s.ensures l.i b.result b.ensures l.count c.if-names_lane.count l.invariant.1 z.if-names_lane.true z.count-is)
      | goal.else-names_lane z ↦ (omega (arith, c.loop-i-test.true), count-off a.rows a.id a.t.now s.result s.ensures l.i b.result b.ensures l.count c.if-names_lane.count l.invariant.1 z.if-names_lane.false z.count-is)
    ]

pub returns : goal.returns
returns c =
    let a = c.args in
    let l = c.loop-i in
    l.invariant.1 ∙ ap length (named-all a.rows a.id a.t.now l.i (omega (arith, l.invariant.0, c.loop-i-test.false)))
