-- `in_place::shift_up` meets its contract. The invariant: the floats from i on are moved, and nothing else has changed. Assumes nothing.
use mathlib.Core.Path.{refl}
use native.Mathlib.Omega.{arith}
use Prim.Native.Nat.{◌-◌}
use lib.ListN.{length-set}
use lib.Ieee.{nan}
use Rattle.in_place.proofs.Shifts.{up_step, up_start, up-end}
use Rattle.in_place.proofs.shift_up.Goals as goal

pub loop-i-init : goal.loop-i-init
loop-i-init c = let a = c.args in (omega arith, (refl, up_start a.c.now a.at a.start a.n))

pub loop-i-preserved : goal.loop-i-preserved
loop-i-preserved c =
    let a = c.args in
    let l = c.loop-i in
    (omega arith, (simp length-set l.invariant.1.0, up_step a.c.now l.c a.at a.start nan a.n (l.i - 1) l.i (omega arith) (omega arith) l.invariant.1.1 (omega arith) (omega arith)))

pub returns : goal.returns
returns c =
    let a = c.args in
    let l = c.loop-i in
    up-end a.c.now l.c a.at a.start a.n l.i (omega arith) l.invariant.1.1
