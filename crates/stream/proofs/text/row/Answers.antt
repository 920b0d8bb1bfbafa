use mathlib.Core.Path.{refl, sym, ◌∙◌}
use native.Mathlib.Omega.{arith}
use Prim.Native.Nat.{◌≤◌}
use lib.ListN.{length, get_or}
use Rattle.stream.proofs.Texts.{row-begins, row-turn, row_ends, short}
use lib.Seq.{length-take-le}
use Rattle.stream.proofs.text.row.Goals as goal

pub loop-n-init : goal.loop-n-init
loop-n-init c = (omega arith, (refl, (omega arith, row-begins _ _)))

pub spaced-at-requires : goal.spaced-at-requires
spaced-at-requires c = omega (arith, c.requires)

pub loop-n-preserved : goal.loop-n-preserved
loop-n-preserved c =
    let i = c.loop-n.invariant in
    let s = c.spaced-at in
    let h = c.loop-n-test.true in (
      omega arith,
      (
        s.auto.out ∙ i.1.0,
        (
          omega (arith, s.ensures.1, short (get_or c.args.numbers.now c.loop-n.n-index 0), i.1.1.0),
          row-turn _ _ _ _ _ _ _ h (omega (arith, c.requires, i.1.0, i.1.1.0)) s.ensures i.1.1.1,
        ),
      ),
    )

pub shape_of-out : goal.shape_of-out
shape_of-out c = c.loop-n.invariant.1.0

pub returns : goal.returns
returns c =
    let i = c.loop-n.invariant in
    let e = row_ends _ _ _ _ _ c.loop-n-test.false i.1.1.1 in
    let l : c.loop-n.at ≤ length c.loop-n.out = omega (arith, c.requires, i.1.0, i.1.1.0, i.0) in
    (e.0, (e.1, (l, sym (length-take-le _ _ l))))
