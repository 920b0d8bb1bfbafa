use mathlib.Core.Path.{refl}
use native.Mathlib.Omega.{arith}
use lib.ListN.{length, length-set}
use Rattle.stream.specs.Numbers.{read_by, behind_all}
use Rattle.stream.proofs.Tables.{begins, begins-behind, turn, turn-behind, ends, ends-behind}
use Rattle.stream.proofs.fill.Goals as goal

pub loop-place-init : goal.loop-place-init
loop-place-init g c =
    let f = g.T.Item.of_word in
    (omega arith, (refl, (begins f _ c.args.table.now _ _, begins-behind f _ _ _)))

pub loop-place-preserved : goal.loop-place-preserved
loop-place-preserved g c =
    let f = g.T.Item.of_word in
    let s = c.args.s.now in
    let n = length c.args.table.now in
    let l = c.loop-place in
    let r = c.number-n in
    let h = c.loop-place-test.true in
    let whole = read_by f n s c.args.from in
    let end = behind_all n s c.args.from in (
      omega arith,
      (
        simp length-set l.invariant.1.0,
        (
          turn f s n l.place-index l.at r.result h r.ensures l.place-items whole c.of_word.result l.invariant.1.0 c.of_word.ensures l.invariant.1.1.0,
          turn-behind f s n l.place-index l.at r.result h r.ensures end l.invariant.1.1.1,
        ),
      ),
    )

pub returns : goal.returns
returns g c =
    let f = g.T.Item.of_word in
    let s = c.args.s.now in
    let n = length c.args.table.now in
    let l = c.loop-place in
    let h = c.loop-place-test.false in
    let whole = read_by f n s c.args.from in
    let end = behind_all n s c.args.from in
    (ends f s n l.place-index l.at h l.place-items whole l.invariant.1.0 l.invariant.1.1.0, ends-behind f s n l.place-index l.at h end l.invariant.1.1.1)
