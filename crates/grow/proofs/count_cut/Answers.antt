-- `grow::count_cut` meets its contract. The invariant: the count is that of the cut ids before i.
use mathlib.Core.Path.{◌≡◌, refl, ap, ◌∙◌}
use Prim.Native.Nat.{◌<◌}
use native.Mathlib.Omega.{arith}
use lib.ListN.{length, get_or}
use Rattle.lists.specs.Select.{keep, has}
use Rattle.lists.proofs.Rows.{keys-one, there, one_has}
use Rattle.lists.proofs.Turns.{count-one, count_none}
use Rattle.grow.proofs.count_cut.Goals as goal

pub loop-i-init : goal.loop-i-init
unfolding keep
loop-i-init c = (omega arith, (omega arith, refl))

pub rank-requires : goal.rank-requires
rank-requires c = rw keys-one c.requires.1

pub loop-i-preserved : goal.loop-i-preserved
loop-i-preserved c =
    let a = c.args in
    let t = c.loop-i in
    let w = a.ids.now in
    let cut = a.cut.now in
    let f = c.rank in
    let h : t.i < length w = omega arith in
    let p = one_has (get_or w t.i 0) cut f.result f.ensures in
    elim c.match-rank.branch [
      | goal.in-Some s ↦ (omega arith, (omega arith, s.count-is ∙ count-one (λ k. has k cut) w t.i t.count 0 h t.invariant.1.1 (p ∙ ap there s.in-Some.is)))
      | goal.in_default s ↦ (omega arith, (omega arith, s.count-is ∙ count_none (λ k. has k cut) w t.i t.count 0 h t.invariant.1.1 (p ∙ ap there s.in_default.is)))
    ]

pub returns : goal.returns
returns c =
    let e : c.loop-i.i ≡ c.args.n = omega arith in
    rw e at c.loop-i.invariant.1.1
