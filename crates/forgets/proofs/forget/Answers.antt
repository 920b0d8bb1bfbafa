-- `naming::forget` meets its contract. The invariant: the first i rows have forgotten the lane, and the others are as they were.
use Prim.Native.Nat.{◌+◌, ◌*◌, ◌-◌, ◌≤◌}
use native.Mathlib.Omega.{arith}
use borrow.Author.Rules.{rules}
use lib.ListN.{length}
use Rattle.mentions.proofs.Turns.{formed-some, formed-few, lent-room}
use Rattle.mentions.specs.Naming.{forgets}
use Rattle.mentions.proofs.Going.{forgets-length}
use Rattle.mentions.proofs.Whole.{Changed, changed-none, changed-length, changed-room, changed-formed, changed-turn, changed-all}
use Rattle.forgets.proofs.forget.Goals as goal
use Rattle.forgets.proofs.forget.Lts as lts
use Rattle.forgets.proofs.forget.Reads as reads
use Rattle.forgets.proofs.forget.Tie as tie

abbrev AtInLoopI : Type 0
AtInLoopI = lts.In-loop tie.the-claims reads.Pre reads.Post goal.the-invariant-loop-i goal.the-decreases-loop-i

-- row i lies within the table, as it was and as it is
room : (c : AtInLoopI) → 1 + c.loop-i.i * c.row_words-s.result + c.row_words-s.result ≤ length c.args.t.now
room c =
    let a = c.args in
    let s = c.row_words-s in
    lent-room a.rows a.t.now c.requires s.result s.ensures c.loop-i.i c.loop-i-test.true

row : (c : AtInLoopI) → 1 + c.loop-i.i * c.row_words-s.result + c.row_words-s.result ≤ length c.loop-i.t
row c =
    let a = c.args in
    let l = c.loop-i in
    let s = c.row_words-s in
    changed-room a.rows (forgets a.rows a.id) (forgets-length a.rows a.id) a.t.now c.requires l.t l.i l.invariant s.result s.ensures c.loop-i-test.true

pub bounds-t-0 : goal.bounds-t-0
bounds-t-0 c = omega (arith, formed-some c.args.rows c.args.t.now c.requires)

pub loop-i-init : goal.loop-i-init
loop-i-init c = changed-none c.args.rows (forgets c.args.rows c.args.id) (forgets-length c.args.rows c.args.id) c.args.t.now c.requires

pub overflow_mul-at : goal.overflow_mul-at
overflow_mul-at c = omega (arith, room c)

pub overflow_add-at : goal.overflow_add-at
overflow_add-at c = omega (arith, room c)

pub overflow_add-end : goal.overflow_add-end
overflow_add-end c = omega (arith, room c)

pub offset_bounds-t-at : goal.offset_bounds-t-at
offset_bounds-t-at c = omega (arith, room c)

pub slice_bounds-forget_row-count : goal.slice_bounds-forget_row-count
slice_bounds-forget_row-count c = omega arith

pub slice_bounds-forget_row-start : goal.slice_bounds-forget_row-start
slice_bounds-forget_row-start c = omega arith

pub slice_bounds-forget_row-end : goal.slice_bounds-forget_row-end
slice_bounds-forget_row-end c = omega (arith, row c)

pub forget_row-requires : goal.forget_row-requires
forget_row-requires c =
    let a = c.args in
    let l = c.loop-i in
    let s = c.row_words-s in
    changed-formed a.rows (forgets a.rows a.id) (forgets-length a.rows a.id) a.t.now c.requires l.t l.i l.invariant s.result s.ensures c.loop-i-test.true

pub loop-i-preserved : goal.loop-i-preserved
loop-i-preserved c =
    let a = c.args in
    let l = c.loop-i in
    let s = c.row_words-s in
    let f = c.forget_row in
    changed-turn a.rows (forgets a.rows a.id) (forgets-length a.rows a.id) a.t.now c.requires l.t l.i l.invariant s.result s.ensures c.loop-i-test.true f.new.row f.ensures

pub shape_of-t : goal.shape_of-t
shape_of-t c =
    let a = c.args in
    let l = c.loop-i in
    changed-length a.rows (forgets a.rows a.id) (forgets-length a.rows a.id) a.t.now c.requires l.t l.i l.invariant

pub returns : goal.returns
returns c =
    let a = c.args in
    let l = c.loop-i in
    changed-all a.rows (forgets a.rows a.id) (forgets-length a.rows a.id) a.t.now c.requires l.t l.i l.invariant c.loop-i-test.false
