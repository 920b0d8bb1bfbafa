-- `lookup::links` meets its contract: the list lies in row i. Assumes nothing.
use Prim.Native.Nat.{◌+◌, ◌*◌, ◌≤◌, ◌<◌}
use native.Mathlib.Omega.{arith}
use lib.ListN.{length, get_or}
use Rattle.row_tests.proofs.Lanes.{ids_at_lem}
use Rattle.lookup.proofs.Laws.{sorted-row, word_in}
use Rattle.lookup.proofs.links.Goals as goal
use Rattle.lookup.proofs.links.Lts as lts
use Rattle.lookup.proofs.links.Reads as reads

abbrev AtStart : Type 0
AtStart = lts.Start reads.Pre reads.Post

room : (c : AtStart) → (1 + c.args.i * 52 + 52 ≤ length c.args.lanes.now) × (c.args.column + 1 + get_or c.args.lanes.now (1 + c.args.i * 52 + c.args.column) 0 ≤ 52)
room c =
    let k : c.args.column < 52 = omega (arith, c.requires.1.1) in
    (sorted-row 1024 52 c.args.lanes.now c.requires.0 c.args.i c.requires.1.0, rw (word_in 52 c.args.lanes.now c.args.i c.args.column k) c.requires.1.1)

pub overflow_mul-at : goal.overflow_mul-at
overflow_mul-at c = omega (arith, room c.before)

pub overflow_add-at : goal.overflow_add-at
overflow_add-at c = omega (arith, room c.before)

pub overflow_add-at-2 : goal.overflow_add-at-2
overflow_add-at-2 c = omega (arith, room c.before)

pub overflow_add-from : goal.overflow_add-from
overflow_add-from c = omega (arith, room c.before)

pub offset_bounds-lanes-at : goal.offset_bounds-lanes-at
offset_bounds-lanes-at c = omega (arith, room c.before)

pub bounds-lanes-at : goal.bounds-lanes-at
bounds-lanes-at c = omega (arith, room c.before.before)

pub overflow_add-to : goal.overflow_add-to
overflow_add-to c = omega (arith, room c.before.before)

pub offset_bounds-lanes-from : goal.offset_bounds-lanes-from
offset_bounds-lanes-from c = omega (arith, room c.before.before)

pub slice_bounds-result-end : goal.slice_bounds-result-end
slice_bounds-result-end c = omega (arith, room c.before.before)

pub returns : goal.returns
returns c = ids_at_lem c.args.lanes.now c.args.i c.args.column (room c.before.before.before).1
