-- `lookup::line_of` meets its contract: the line lies among the points stored. Assumes nothing.
use Prim.Native.Nat.{◌+◌}
use native.Mathlib.Omega.{arith}
use lib.ListN.{get_or}
use Rattle.lookup.proofs.Laws.{stored-room, line-empty, line-part}
use Rattle.lookup.proofs.line_of.Goals as goal

pub returns-then-size-eq0 : goal.returns-then-size-eq0
returns-then-size-eq0 c = line-empty c.args.coordinates.now (get_or c.args.table.now c.args.at 0) (get_or c.args.table.now (c.args.at + 1) 0) c.if-size-eq0.true

pub overflow_mul-from : goal.overflow_mul-from
overflow_mul-from c = omega (arith, stored-room c.args.coordinates.now (get_or c.args.table.now c.args.at 0) (get_or c.args.table.now (c.args.at + 1) 0) c.requires.1 c.if-size-eq0.false)

pub overflow_mul-to : goal.overflow_mul-to
overflow_mul-to c = omega (arith, stored-room c.args.coordinates.now (get_or c.args.table.now c.args.at 0) (get_or c.args.table.now (c.args.at + 1) 0) c.requires.1 c.if-size-eq0.false)

pub overflow_add-to : goal.overflow_add-to
overflow_add-to c = omega (arith, stored-room c.args.coordinates.now (get_or c.args.table.now c.args.at 0) (get_or c.args.table.now (c.args.at + 1) 0) c.requires.1 c.if-size-eq0.false)

pub offset_bounds-coordinates-from : goal.offset_bounds-coordinates-from
offset_bounds-coordinates-from c = omega (arith, stored-room c.args.coordinates.now (get_or c.args.table.now c.args.at 0) (get_or c.args.table.now (c.args.at + 1) 0) c.requires.1 c.if-size-eq0.false)

pub returns : goal.returns
returns c = line-part c.args.coordinates.now (get_or c.args.table.now c.args.at 0) (get_or c.args.table.now (c.args.at + 1) 0)
