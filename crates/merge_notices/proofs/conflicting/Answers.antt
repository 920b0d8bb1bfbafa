use native.Mathlib.Omega.{arith}
use Rattle.lookup.proofs.Laws.{sorted-row}
use Rattle.merge_notices.proofs.Noted.{conflict-noted}
use Rattle.merge_notices.proofs.conflicting.Goals as goal

-- src/lib.rt:144:27
pub overflow_mul-first : goal.overflow_mul-first
overflow_mul-first c = let s = c in omega (arith, sorted-row 1024 52 s.args.lanes.now s.requires.0 s.args.i s.requires.1.0)

-- src/lib.rt:144:23
pub overflow_add-first : goal.overflow_add-first
overflow_add-first c = let s = c in omega (arith, sorted-row 1024 52 s.args.lanes.now s.requires.0 s.args.i s.requires.1.0)

-- src/lib.rt:144:17
pub offset_bounds-lanes-i : goal.offset_bounds-lanes-i
offset_bounds-lanes-i c = let s = c in omega (arith, sorted-row 1024 52 s.args.lanes.now s.requires.0 s.args.i s.requires.1.0)

-- src/lib.rt:144:17
pub bounds-lanes-i : goal.bounds-lanes-i
bounds-lanes-i c = let s = c in omega (arith, sorted-row 1024 52 s.args.lanes.now s.requires.0 s.args.i s.requires.1.0)

-- src/lib.rt:145:28
pub overflow_mul-second : goal.overflow_mul-second
overflow_mul-second c = let s = c in omega (arith, sorted-row 1024 52 s.args.lanes.now s.requires.0 s.args.j s.requires.1.1)

-- src/lib.rt:145:24
pub overflow_add-second : goal.overflow_add-second
overflow_add-second c = let s = c in omega (arith, sorted-row 1024 52 s.args.lanes.now s.requires.0 s.args.j s.requires.1.1)

-- src/lib.rt:145:18
pub offset_bounds-lanes-j : goal.offset_bounds-lanes-j
offset_bounds-lanes-j c = let s = c in omega (arith, sorted-row 1024 52 s.args.lanes.now s.requires.0 s.args.j s.requires.1.1)

-- src/lib.rt:145:18
pub bounds-lanes-j : goal.bounds-lanes-j
bounds-lanes-j c = let s = c in omega (arith, sorted-row 1024 52 s.args.lanes.now s.requires.0 s.args.j s.requires.1.1)

-- src/lib.rt:140:1
pub returns : goal.returns
returns c = let s = c in conflict-noted s.args.lanes.now s.args.i s.args.j c.conflict.result c.conflict.ensures c.pair_where.result c.pair_where.ensures
