-- `naming::list` meets its contract. The invariant: the ids of the first i rows are listed. Assumes nothing.
use mathlib.Core.Path.{ap, ◌∙◌}
use Prim.Native.Nat.{◌+◌, ◌*◌, ◌-◌, ◌≤◌}
use native.Mathlib.Omega.{arith}
use borrow.Author.Rules.{rules}
use lib.ListN.{length}
use Rattle.entities.specs.Types.{kind_number}
use Rattle.mentions.proofs.Turns.{formed-some, formed-few, lent-room, words-some, lent-formed, Listed, list-none, list_length, list-room, list-turn, list_all}
use Rattle.mentions.proofs.list.Goals as goal
use Rattle.mentions.proofs.list.Lts as lts
use Rattle.mentions.proofs.list.Reads as reads
use Rattle.mentions.proofs.list.Tie as tie

abbrev AtInLoopI : Type 0
AtInLoopI = lts.In-loop tie.the-claims reads.Pre reads.Post goal.the-invariant-loop-i goal.the-decreases-loop-i

-- row i lies within the table
row : (c : AtInLoopI) → 1 + c.loop-i.i * c.row_words-s.result + c.row_words-s.result ≤ length c.args.t.now
row c =
    let a = c.args in
    let s = c.row_words-s in
    lent-room a.rows a.t.now c.requires.0 s.result s.ensures c.loop-i.i c.loop-i-test.true

pub bounds-t-0 : goal.bounds-t-0
bounds-t-0 c = omega (arith, formed-some c.args.rows c.args.t.now c.requires.0)

pub loop-i-init : goal.loop-i-init
loop-i-init c = list-none c.args.rows c.args.id c.args.t.now c.args.out.now c.args.at c.requires.1

pub overflow_mul-row : goal.overflow_mul-row
overflow_mul-row c = omega (arith, row c.before)

pub overflow_add-row : goal.overflow_add-row
overflow_add-row c = omega (arith, row c.before)

pub overflow_add-end : goal.overflow_add-end
overflow_add-end c = omega (arith, row c.before)

pub offset_bounds-t-row : goal.offset_bounds-t-row
offset_bounds-t-row c = omega (arith, row c.before)

pub slice_bounds-names_lane-count : goal.slice_bounds-names_lane-count
slice_bounds-names_lane-count c = omega arith

pub slice_bounds-names_lane-start : goal.slice_bounds-names_lane-start
slice_bounds-names_lane-start c = omega arith

pub slice_bounds-names_lane-end : goal.slice_bounds-names_lane-end
slice_bounds-names_lane-end c = omega (arith, row c.before)

pub names_lane-on-requires : goal.names_lane-on-requires
names_lane-on-requires c = lent-formed c.args.rows c.args.t.now c.requires.0 c.row_words-s.result c.row_words-s.ensures c.loop-i.i c.loop-i-test.true

pub offset_bounds-t-row-in-loop-i : goal.offset_bounds-t-row-in-loop-i
offset_bounds-t-row-in-loop-i c = omega (arith, row c.before.before.before)

pub bounds-t-row : goal.bounds-t-row
bounds-t-row c = omega (arith, row c.before.before.before.before, words-some c.args.rows, c.row_words-s.ensures)

pub put_where-place-requires : goal.put_where-place-requires
put_where-place-requires c =
    let a = c.args in
    let l = c.loop-i in
    let s = c.row_words-s in
    let b = c.names_lane-on in
    list-room a.rows a.id a.t.now a.out.now a.at c.requires.1 l.out l.i l.place l.invariant s.result s.ensures c.loop-i-test.true b.result b.ensures

pub loop-i-preserved : goal.loop-i-preserved
loop-i-preserved c =
    let a = c.args in
    let l = c.loop-i in
    let s = c.row_words-s in
    let b = c.names_lane-on in
    let p = c.put_where-place in
    list-turn a.rows a.id a.t.now a.out.now a.at c.requires.1 l.out l.i l.place l.invariant s.result s.ensures c.loop-i-test.true b.result b.ensures c.from-kind.result (c.from-kind.ensures ∙ ap kind_number c.row_kind.ensures) p.new.out p.result p.ensures.0 p.ensures.1

pub shape_of-out : goal.shape_of-out
shape_of-out c =
    let a = c.args in
    let l = c.loop-i in
    list_length a.rows a.id a.t.now a.out.now a.at c.requires.1 l.out l.i l.place l.invariant

pub returns : goal.returns
returns c =
    let a = c.args in
    let l = c.loop-i in
    list_all a.rows a.id a.t.now a.out.now a.at c.requires.1 l.out l.i l.place l.invariant c.loop-i-test.false
