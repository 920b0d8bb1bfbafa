-- `split_tables::add_rows` meets its contract: the invariant says that the new rows of the marked boundaries before row x are there. Assumes nothing.
use native.Mathlib.Omega.{arith}
use mathlib.Core.Logic.{⊎_elim}
use mathlib.Core.Path.{◌∙◌, ap}
use lib.ListN.{length}
use Rattle.row_tests.proofs.Tables.{table-room}
use Rattle.split_tables.proofs.Adding.{added_none, mark-there, added-skip, added-few, added-asks, added-turn, added-all}
use Rattle.split_tables.proofs.add_rows.Goals as goal

pub bounds-t-0 : goal.bounds-t-0
bounds-t-0 c = let a = c.args in omega (arith, table-room 4096 5 a.t.now c.requires.counts)

pub loop-x-init : goal.loop-x-init
loop-x-init c = let a = c.args in added_none a.pieces.now a.m a.lines.now a.marks.now a.t.now c.requires

pub bounds-marks-x : goal.bounds-marks-x
bounds-marks-x c = let a = c.args in let l = c.loop-x in mark-there a.pieces.now a.m a.lines.now a.marks.now a.t.now c.requires l.t l.j l.x l.invariant c.loop-x-test.true

pub add_row-requires : goal.add_row-requires
add_row-requires c = let a = c.args in let l = c.loop-x in added-asks a.pieces.now a.m a.lines.now a.marks.now a.t.now c.requires l.t l.j l.x l.invariant c.loop-x-test.true c.if-marks-x.true

pub overflow_add-j : goal.overflow_add-j
overflow_add-j c = let a = c.args in let l = c.loop-x in omega (arith, added-few a.pieces.now a.m a.lines.now a.marks.now a.t.now c.requires l.t l.j l.x l.invariant c.loop-x-test.true c.if-marks-x.true, c.requires.pieces_room)

pub loop-x-preserved : goal.loop-x-preserved
loop-x-preserved c = let a = c.args in let l = c.loop-x in ⊎_elim (λ x. added-turn a.pieces.now a.m a.lines.now a.marks.now a.t.now c.requires l.t l.j l.x l.invariant c.loop-x-test.true x.if-marks-x.true c.if-marks-x.t c.if-marks-x.j (ap length x.t-is ∙ x.add_row.auto.t) x.j-is (x.t-is ∙ x.add_row.ensures)) (λ x. added-skip a.pieces.now a.m a.lines.now a.marks.now a.t.now c.requires l.t l.j l.x l.invariant c.loop-x-test.true x.if-marks-x.false c.if-marks-x.t c.if-marks-x.j x.t-is x.j-is) c.if-marks-x.branch-raw

pub shape_of-t : goal.shape_of-t
shape_of-t c = let a = c.args in let l = c.loop-x in l.invariant.long

pub returns : goal.returns
returns c = let a = c.args in let l = c.loop-x in added-all a.pieces.now a.m a.lines.now a.marks.now a.t.now c.requires l.t l.j l.x l.invariant c.loop-x-test.false
