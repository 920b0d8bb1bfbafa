-- `once::each_once` meets its contract. The invariant: the ids before i are distinct, and the mark of each is set. An id whose mark is not set
use mathlib.Core.Path.{refl, sym, ◌∙◌}
use mathlib.Core.Bool.{false}
use mathlib.Core.Logic.{⊎_elim}
use Prim.Native.Nat.{◌-◌}
use native.Mathlib.Nat.{mod-lt}
use native.Mathlib.Omega.{arith}
use lib.ListN.{length, get_or, replicate}
use lib.Seq.{length-take-le}
use Rattle.once.proofs.Once.{Walked, walked_none, unmarked-lacks, walked_more, repeats, walked_all}
use Rattle.once.proofs.each_once.Goals as goal

pub loop-i-init : goal.loop-i-init
loop-i-init c = walked_none c.args.ids.now (replicate 509 false) refl

pub offset_bounds-ids-i : goal.offset_bounds-ids-i
offset_bounds-ids-i c = omega arith

pub bounds-ids-i : goal.bounds-ids-i
bounds-ids-i c = omega arith

pub bounds-seen-mark : goal.bounds-seen-mark
bounds-seen-mark c = mod-lt (get_or c.args.ids.now c.loop-i.i 0) (omega arith)

pub slice_bounds-contains-end : goal.slice_bounds-contains-end
slice_bounds-contains-end c = sym (length-take-le _ _ (omega arith))

pub offset_bounds-ids-i-then-seen-mark : goal.offset_bounds-ids-i-then-seen-mark
offset_bounds-ids-i-then-seen-mark c = omega arith

pub bounds-ids-i-then-seen-mark : goal.bounds-ids-i-then-seen-mark
bounds-ids-i-then-seen-mark c = omega arith

pub contains-requires : goal.contains-requires
contains-requires c = tt

pub returns-then-contains : goal.returns-then-contains
returns-then-contains c =
    let ids = c.args.ids.now in
    sym (repeats ids c.loop-i.i c.loop-i-test.true (sym c.contains.ensures ∙ c.if-contains.true))

pub bounds-seen-mark-in-loop-i : goal.bounds-seen-mark-in-loop-i
bounds-seen-mark-in-loop-i c = mod-lt (get_or c.args.ids.now c.loop-i.i 0) (omega arith)

pub loop-i-preserved : goal.loop-i-preserved
loop-i-preserved c =
    let ids = c.args.ids.now in
    let t = c.loop-i in
    walked_more ids t.seen t.i c.loop-i-test.true t.invariant
    (elim c.if-seen-mark.branch [
      | goal.then-seen-mark+else-contains s ↦ sym s.contains.ensures ∙ s.if-contains.false
      | goal.else-seen-mark s ↦ unmarked-lacks ids t.seen t.i (get_or ids t.i 0) t.invariant s.if-seen-mark.false
    ])

pub returns : goal.returns
returns c = sym (walked_all c.args.ids.now c.loop-i.seen c.loop-i.i c.loop-i-test.false c.loop-i.invariant)
