-- `row_faults::rises_at` meets its contract. Two rows lie in the table; the first has none before it. Assumes nothing.
use Prim.Native.Nat.{◌-◌}
use native.Mathlib.Omega.{arith}
use Rattle.row_tests.proofs.Tables.{row_room}
use Rattle.row_faults.proofs.First.{id-first, id-later}
use Rattle.row_faults.proofs.rises_at.Goals as goal

pub returns-then-i-eq0 : goal.returns-then-i-eq0
returns-then-i-eq0 c = id-first c.args.row c.args.t.now c.requires.0 c.args.i c.if-i-eq0.true

pub overflow_mul-result : goal.overflow_mul-result
overflow_mul-result c = omega (arith, row_room c.args.limit c.args.row c.args.t.now c.requires.1.0 (c.args.i - 1) (omega (arith, c.requires.1.1)), row_room c.args.limit c.args.row c.args.t.now c.requires.1.0 c.args.i c.requires.1.1)

pub overflow_add-result : goal.overflow_add-result
overflow_add-result c = omega (arith, row_room c.args.limit c.args.row c.args.t.now c.requires.1.0 (c.args.i - 1) (omega (arith, c.requires.1.1)), row_room c.args.limit c.args.row c.args.t.now c.requires.1.0 c.args.i c.requires.1.1)

pub offset_bounds-t-i : goal.offset_bounds-t-i
offset_bounds-t-i c = omega (arith, row_room c.args.limit c.args.row c.args.t.now c.requires.1.0 (c.args.i - 1) (omega (arith, c.requires.1.1)), row_room c.args.limit c.args.row c.args.t.now c.requires.1.0 c.args.i c.requires.1.1)

pub bounds-t-i : goal.bounds-t-i
bounds-t-i c = omega (arith, row_room c.args.limit c.args.row c.args.t.now c.requires.1.0 (c.args.i - 1) (omega (arith, c.requires.1.1)), row_room c.args.limit c.args.row c.args.t.now c.requires.1.0 c.args.i c.requires.1.1)

pub overflow_mul-result-2 : goal.overflow_mul-result-2
overflow_mul-result-2 c = omega (arith, row_room c.args.limit c.args.row c.args.t.now c.requires.1.0 (c.args.i - 1) (omega (arith, c.requires.1.1)), row_room c.args.limit c.args.row c.args.t.now c.requires.1.0 c.args.i c.requires.1.1)

pub overflow_add-result-2 : goal.overflow_add-result-2
overflow_add-result-2 c = omega (arith, row_room c.args.limit c.args.row c.args.t.now c.requires.1.0 (c.args.i - 1) (omega (arith, c.requires.1.1)), row_room c.args.limit c.args.row c.args.t.now c.requires.1.0 c.args.i c.requires.1.1)

pub offset_bounds-t-i-2 : goal.offset_bounds-t-i-2
offset_bounds-t-i-2 c = omega (arith, row_room c.args.limit c.args.row c.args.t.now c.requires.1.0 (c.args.i - 1) (omega (arith, c.requires.1.1)), row_room c.args.limit c.args.row c.args.t.now c.requires.1.0 c.args.i c.requires.1.1)

pub bounds-t-i-2 : goal.bounds-t-i-2
bounds-t-i-2 c = omega (arith, row_room c.args.limit c.args.row c.args.t.now c.requires.1.0 (c.args.i - 1) (omega (arith, c.requires.1.1)), row_room c.args.limit c.args.row c.args.t.now c.requires.1.0 c.args.i c.requires.1.1)

pub returns : goal.returns
returns c = id-later c.args.row c.args.t.now c.requires.0 c.args.i c.if-i-eq0.false c.requires.1.1
