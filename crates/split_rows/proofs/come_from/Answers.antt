-- `split_rows::come_from` meets its contract: the loop keeps those that stay at the front of the list and the second halves beside it. Assumes nothing.
use Prim.Native.Nat.{◌-◌}
use mathlib.Core.Path.{◌≡◌, refl, ◌∙◌}
use native.Mathlib.Omega.{arith}
use Rattle.tables.specs.View.{word}
use Rattle.split_rows.proofs.Coming.{Coming, coming-none, coming-bounds, coming-cut, coming-stays, coming-done}
use Rattle.split_rows.proofs.Slots.{cut-asks, second_fits}
use lib.ListN.{replicate}
use lib.Seq.{length-take-le}
use mathlib.Core.Logic.{⊎_elim}
use borrow.Author.Rules.{rules}
use Rattle.split_rows.proofs.come_from.Goals as goal

pub bounds-row-18 : goal.bounds-row-18
bounds-row-18 c = omega (arith, c.requires.1.words)

pub loop-i-init : goal.loop-i-init
loop-i-init c = let a = c.args in (coming-none a.cut.now a.next a.row.now (replicate 16 0) c.requires.0 c.requires.1 refl, refl)

pub overflow_add-id : goal.overflow_add-id
overflow_add-id c = let a = c.args in let l = c.loop-i in omega (arith, l.invariant.0.upto, l.invariant.1, coming-bounds a.cut.now a.next a.row.now (replicate 16 0) c.requires.0 c.requires.1 refl l.row l.seconds l.left l.came l.i l.invariant.0)

pub offset_bounds-row-i : goal.offset_bounds-row-i
offset_bounds-row-i c = let a = c.args in let l = c.loop-i in omega (arith, l.invariant.0.upto, l.invariant.1, coming-bounds a.cut.now a.next a.row.now (replicate 16 0) c.requires.0 c.requires.1 refl l.row l.seconds l.left l.came l.i l.invariant.0)

pub bounds-row-i : goal.bounds-row-i
bounds-row-i c = let a = c.args in let l = c.loop-i in omega (arith, l.invariant.0.upto, l.invariant.1, coming-bounds a.cut.now a.next a.row.now (replicate 16 0) c.requires.0 c.requires.1 refl l.row l.seconds l.left l.came l.i l.invariant.0)

pub find_row-found-requires : goal.find_row-found-requires
find_row-found-requires c = cut-asks c.args.cut.now c.args.next c.requires.0

pub overflow_add-seconds : goal.overflow_add-seconds
overflow_add-seconds c = record { fits = second_fits c.args.cut.now c.args.next c.requires.0 _ c.find_row-found.result c.find_row-found.ensures c.in-Some.r c.in-Some.is }

pub offset_bounds-seconds-came : goal.offset_bounds-seconds-came
offset_bounds-seconds-came c = let a = c.args in let l = c.loop-i in omega (arith, l.invariant.0.upto, l.invariant.1, coming-bounds a.cut.now a.next a.row.now (replicate 16 0) c.requires.0 c.requires.1 refl l.row l.seconds l.left l.came l.i l.invariant.0)

pub bounds-seconds-came : goal.bounds-seconds-came
bounds-seconds-came c = let a = c.args in let l = c.loop-i in omega (arith, l.invariant.0.upto, l.invariant.1, coming-bounds a.cut.now a.next a.row.now (replicate 16 0) c.requires.0 c.requires.1 refl l.row l.seconds l.left l.came l.i l.invariant.0)

pub overflow_add-came : goal.overflow_add-came
overflow_add-came c = let a = c.args in let l = c.loop-i in omega (arith, l.invariant.0.upto, l.invariant.1, coming-bounds a.cut.now a.next a.row.now (replicate 16 0) c.requires.0 c.requires.1 refl l.row l.seconds l.left l.came l.i l.invariant.0)

pub overflow_add-row : goal.overflow_add-row
overflow_add-row c = let a = c.args in let l = c.loop-i in omega (arith, l.invariant.0.upto, l.invariant.1, coming-bounds a.cut.now a.next a.row.now (replicate 16 0) c.requires.0 c.requires.1 refl l.row l.seconds l.left l.came l.i l.invariant.0)

pub offset_bounds-row-left : goal.offset_bounds-row-left
offset_bounds-row-left c = let a = c.args in let l = c.loop-i in omega (arith, l.invariant.0.upto, l.invariant.1, coming-bounds a.cut.now a.next a.row.now (replicate 16 0) c.requires.0 c.requires.1 refl l.row l.seconds l.left l.came l.i l.invariant.0)

pub bounds-row-left : goal.bounds-row-left
bounds-row-left c = let a = c.args in let l = c.loop-i in omega (arith, l.invariant.0.upto, l.invariant.1, coming-bounds a.cut.now a.next a.row.now (replicate 16 0) c.requires.0 c.requires.1 refl l.row l.seconds l.left l.came l.i l.invariant.0)

pub overflow_add-left : goal.overflow_add-left
overflow_add-left c = let a = c.args in let l = c.loop-i in omega (arith, l.invariant.0.upto, l.invariant.1, coming-bounds a.cut.now a.next a.row.now (replicate 16 0) c.requires.0 c.requires.1 refl l.row l.seconds l.left l.came l.i l.invariant.0)

pub loop-i-preserved : goal.loop-i-preserved
loop-i-preserved c = let a = c.args in let l = c.loop-i in (
  elim c.match-found.branch [
    | goal.in-Some x ↦ coming-cut a.cut.now a.next a.row.now (replicate 16 0) c.requires.0 c.requires.1 refl l.row l.seconds l.left l.came l.i l.invariant.0 (omega (arith, c.loop-i-test, l.invariant.1)) c.find_row-found.result c.find_row-found.ensures c.match-found.row c.match-found.seconds c.match-found.left c.match-found.came x.in-Some.r x.in-Some.is x.row-is x.seconds-is x.left-is x.came-is
    | goal.in-None x ↦ coming-stays a.cut.now a.next a.row.now (replicate 16 0) c.requires.0 c.requires.1 refl l.row l.seconds l.left l.came l.i l.invariant.0 (omega (arith, c.loop-i-test, l.invariant.1)) c.find_row-found.result c.find_row-found.ensures c.match-found.row c.match-found.seconds c.match-found.left c.match-found.came x.in-None.is x.row-is x.seconds-is x.left-is x.came-is
  ],
  l.invariant.1,
)

pub slice_bounds-seconds-end : goal.slice_bounds-seconds-end
slice_bounds-seconds-end c = let a = c.args in let l = c.loop-i in omega (arith, l.invariant.0.upto, l.invariant.1, coming-bounds a.cut.now a.next a.row.now (replicate 16 0) c.requires.0 c.requires.1 refl l.row l.seconds l.left l.came l.i l.invariant.0)

pub slice_bounds-copy-end : goal.slice_bounds-copy-end
slice_bounds-copy-end c = let a = c.args in let l = c.loop-i in let s = length-take-le l.came l.seconds (omega (arith, l.invariant.0.upto, l.invariant.1, coming-bounds a.cut.now a.next a.row.now (replicate 16 0) c.requires.0 c.requires.1 refl l.row l.seconds l.left l.came l.i l.invariant.0)) in omega (arith, s)

pub overflow_add-left-2 : goal.overflow_add-left-2
overflow_add-left-2 c = let a = c.args in let l = c.loop-i in omega (arith, l.invariant.0.upto, l.invariant.1, coming-bounds a.cut.now a.next a.row.now (replicate 16 0) c.requires.0 c.requires.1 refl l.row l.seconds l.left l.came l.i l.invariant.0)

pub copy-requires : goal.copy-requires
copy-requires c = let a = c.args in let l = c.loop-i in let s = length-take-le l.came l.seconds (omega (arith, l.invariant.0.upto, l.invariant.1, coming-bounds a.cut.now a.next a.row.now (replicate 16 0) c.requires.0 c.requires.1 refl l.row l.seconds l.left l.came l.i l.invariant.0)) in omega (arith, s, l.invariant.0.upto, l.invariant.1, coming-bounds a.cut.now a.next a.row.now (replicate 16 0) c.requires.0 c.requires.1 refl l.row l.seconds l.left l.came l.i l.invariant.0)

pub shape_of-row : goal.shape_of-row
shape_of-row c = let a = c.args in let l = c.loop-i in omega (arith, c.copy.auto.to, c.requires.1.words, coming-bounds a.cut.now a.next a.row.now (replicate 16 0) c.requires.0 c.requires.1 refl l.row l.seconds l.left l.came l.i l.invariant.0)

pub returns : goal.returns
returns c = let a = c.args in let l = c.loop-i in c.copy.ensures ∙ coming-done a.cut.now a.next a.row.now (replicate 16 0) c.requires.0 c.requires.1 refl l.row l.seconds l.left l.came l.i l.invariant.0 (omega (arith, c.loop-i-test, l.invariant.1))
