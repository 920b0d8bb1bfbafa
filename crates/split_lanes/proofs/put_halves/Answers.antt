-- `split_lanes::put_halves` meets its contract: the invariant says that the second halves of the marked lanes before row i stand behind the last row. Assumes nothing.
use native.Mathlib.Omega.{arith}
use Prim.Native.Nat.{◌-◌}
use mathlib.Core.Logic.{⊎_elim}
use mathlib.Core.Path.{◌∙◌, ap}
use lib.ListN.{length}
use Rattle.row_tests.proofs.Tables.{table-room, table-few}
use Rattle.split_tables.proofs.Halving.{Halving, halving_none, seen-there, halving_skip, halving_few, halving_asks, halving_turn, halving_all}
use Rattle.split_lanes.proofs.put_halves.Goals as goal

pub bounds-t-0 : goal.bounds-t-0
bounds-t-0 c = let a = c.args in omega (arith, table-room 1024 52 a.t.now c.requires.counts)

pub loop-i-init : goal.loop-i-init
loop-i-init c = let a = c.args in halving_none a.pieces.now a.m a.cut.now a.next a.centers.now a.seen.now a.t.now c.requires

pub bounds-seen-i : goal.bounds-seen-i
bounds-seen-i c = let a = c.args in let l = c.loop-i in seen-there a.pieces.now a.m a.cut.now a.next a.centers.now a.seen.now a.t.now c.requires l.t l.rank l.i l.invariant c.loop-i-test.true

pub overflow_add-n : goal.overflow_add-n
overflow_add-n c = let a = c.args in let l = c.loop-i in omega (arith, halving_few a.pieces.now a.m a.cut.now a.next a.centers.now a.seen.now a.t.now c.requires l.t l.rank l.i l.invariant c.loop-i-test.true c.if-seen-i.true, c.requires.room)

pub put_half-requires : goal.put_half-requires
put_half-requires c = let a = c.args in let l = c.loop-i in halving_asks a.pieces.now a.m a.cut.now a.next a.centers.now a.seen.now a.t.now c.requires l.t l.rank l.i l.invariant c.loop-i-test.true c.if-seen-i.true

pub overflow_add-rank : goal.overflow_add-rank
overflow_add-rank c = let a = c.args in let l = c.loop-i in omega (arith, halving_few a.pieces.now a.m a.cut.now a.next a.centers.now a.seen.now a.t.now c.requires l.t l.rank l.i l.invariant c.loop-i-test.true c.if-seen-i.true, c.requires.room)

pub loop-i-preserved : goal.loop-i-preserved
loop-i-preserved c = let a = c.args in let l = c.loop-i in ⊎_elim (λ x. halving_turn a.pieces.now a.m a.cut.now a.next a.centers.now a.seen.now a.t.now c.requires l.t l.rank l.i l.invariant c.loop-i-test.true x.if-seen-i.true c.if-seen-i.t c.if-seen-i.rank (ap length x.t-is ∙ x.put_half.auto.t) x.rank-is (x.t-is ∙ x.put_half.ensures)) (λ x. halving_skip a.pieces.now a.m a.cut.now a.next a.centers.now a.seen.now a.t.now c.requires l.t l.rank l.i l.invariant c.loop-i-test.true x.if-seen-i.false c.if-seen-i.t c.if-seen-i.rank x.t-is x.rank-is) c.if-seen-i.branch-raw

pub shape_of-t : goal.shape_of-t
shape_of-t c = let a = c.args in let l = c.loop-i in l.invariant.long

pub returns : goal.returns
returns c = let a = c.args in let l = c.loop-i in halving_all a.pieces.now a.m a.cut.now a.next a.centers.now a.seen.now a.t.now c.requires l.t l.rank l.i l.invariant c.loop-i-test.false
