-- `in_place::shift_down` meets its contract. The invariant: the first i floats are moved, and nothing else has changed. Assumes nothing.
use mathlib.Core.Path.{◌≡◌, refl, ◌∙◌, ap}
use native.Mathlib.Omega.{arith}
use Prim.Native.Nat.{ℕ}
use lib.ListN.{take, drop, length-set}
use lib.Ieee.{nan}
use Rattle.lists.specs.Rows.{over}
use Rattle.layout.proofs.Laws.{copy_start}
use Rattle.in_place.proofs.Shifts.{down_step}
use Rattle.in_place.proofs.shift_down.Goals as goal

pub loop-i-init : goal.loop-i-init
loop-i-init c = let a = c.args in (omega arith, (refl, copy_start a.c.now a.c.now a.at a.start))

pub loop-i-preserved : goal.loop-i-preserved
loop-i-preserved c =
    let a = c.args in
    let l = c.loop-i in
    (omega arith, (simp length-set l.invariant.1.0, down_step a.c.now l.c a.at a.start nan l.i l.invariant.1.1 (omega arith) (omega arith)))

pub returns : goal.returns
returns c =
    let a = c.args in
    let l = c.loop-i in
    let e : l.i ≡ a.n = omega arith in
    l.invariant.1.1 ∙ ap (λ (k : ℕ). over a.c.now a.at (take k (drop a.start a.c.now))) e
