-- `store::drop_rows` meets its contract. Assumes nothing.
use lib.ListN.{length-set}
use mathlib.Core.Path.{ap}
use native.Mathlib.Omega.{arith}
use Rattle.tables.specs.View.{word}
use mathlib.Core.Bool.{not}
use Rattle.lists.specs.Select.{has}
use Rattle.store.proofs.Turns.{moved_none, moved-few, moved_length, next-inside, moved-turn, moved_all}
use Rattle.lists.proofs.Rows.{row_within}
use Rattle.store.proofs.drop_rows.Goals as goal

pub loop-i-init : goal.loop-i-init
loop-i-init c = moved_none c.args.s (λ i. not (has i c.args.gone.now)) c.args.t.now c.requires.1

pub overflow_mul-id : goal.overflow_mul-id
overflow_mul-id c = omega (arith, row_within c.loop-i.i (word 0 c.args.t.now) c.args.s c.loop-i-test.true, c.requires.1)

pub overflow_add-id : goal.overflow_add-id
overflow_add-id c = omega (arith, row_within c.loop-i.i (word 0 c.args.t.now) c.args.s c.loop-i-test.true, c.requires.1)

pub offset_bounds-t-i : goal.offset_bounds-t-i
offset_bounds-t-i c = omega (arith, row_within c.loop-i.i (word 0 c.args.t.now) c.args.s c.loop-i-test.true, c.requires.1)

pub bounds-t-i : goal.bounds-t-i
bounds-t-i c =
    let a = c.args in
    let l = c.loop-i in
    omega (arith, c.requires.0, next-inside a.s (λ i. not (has i c.args.gone.now)) a.t.now c.requires.1 l.t l.i l.kept l.invariant c.loop-i-test.true)

pub keep_row-kept-requires : goal.keep_row-kept-requires
keep_row-kept-requires c =
    let a = c.args in
    let l = c.loop-i in
    (c.requires.0, (next-inside a.s (λ i. not (has i c.args.gone.now)) a.t.now c.requires.1 l.t l.i l.kept l.invariant c.loop-i-test.true, moved-few a.s (λ i. not (has i c.args.gone.now)) a.t.now c.requires.1 l.t l.i l.kept l.invariant))

pub loop-i-preserved : goal.loop-i-preserved
loop-i-preserved c =
    let a = c.args in
    let l = c.loop-i in
    let k = c.keep_row-kept in
    moved-turn a.s (λ i. not (has i a.gone.now)) a.t.now c.requires.1 l.t l.i l.kept l.invariant c.requires.0 c.loop-i-test.true (not c.contains-stay.result) (ap not c.contains-stay.ensures) k.new.t k.result k.ensures.0 k.ensures.1

pub bounds-t-0-2 : goal.bounds-t-0-2
bounds-t-0-2 c =
    let a = c.args in
    let l = c.loop-i in
    omega (arith, moved_length a.s (λ i. not (has i c.args.gone.now)) a.t.now c.requires.1 l.t l.i l.kept l.invariant, c.requires.1)

pub shape_of-t : goal.shape_of-t
shape_of-t c =
    let a = c.args in
    let l = c.loop-i in
    simp length-set (moved_length a.s (λ i. not (has i c.args.gone.now)) a.t.now c.requires.1 l.t l.i l.kept l.invariant)

pub returns : goal.returns
returns c =
    let a = c.args in
    let l = c.loop-i in
    moved_all a.s (λ i. not (has i c.args.gone.now)) a.t.now c.requires.1 l.t l.i l.kept l.invariant (omega (arith, c.loop-i-test.false))
