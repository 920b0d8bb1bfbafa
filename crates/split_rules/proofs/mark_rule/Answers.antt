-- `split_rules::mark_rule` meets its contract: its lanes are lent, and marked where there is an anchor. Assumes nothing.
use mathlib.Core.Path.{refl, ap}
use Prim.Native.Nat.{◌+◌, ◌*◌, ◌-◌}
use native.Mathlib.Omega.{arith}
use lib.ListN.{length, get_or}
use Rattle.tables.specs.View.{ids_at}
use Rattle.row_tests.proofs.Tables.{table-few}
use Rattle.lookup.specs.Lookup.{row_at}
use Rattle.split_rules.specs.Past.{anchor_of}
use Rattle.split_rules.proofs.Passing.{rule-there, rule-few, ids-lent, ids_few, rule-none, rule-some}
use Rattle.split_rules.proofs.mark_rule.Goals as goal

pub returns-in_default : goal.returns-in_default
returns-in_default c = let a = c.args in rule-none a.join a.map.coordinates.now a.map.lanes.now a.map.boundaries.now a.point a.cut.now a.stations.now (anchor_of a.map.coordinates.now a.stop_lines.now a.crosswalks.now a.cut.now (row_at 330 a.rules.now a.i)) (ids_at 5 (row_at 330 a.rules.now a.i)) a.past.now c.anchor_of-found.result c.anchor_of-found.ensures c.in_default.is

pub overflow_mul-from : goal.overflow_mul-from
overflow_mul-from c = let a = c.args in let p = c.requires in omega (arith, table-few 512 330 a.rules.now p.counts, p.row, rule-there a.rules.now p.counts a.i p.row p.formed, rule-few a.rules.now p.counts a.i p.row p.formed)

pub overflow_add-from : goal.overflow_add-from
overflow_add-from c = let a = c.args in let p = c.requires in omega (arith, table-few 512 330 a.rules.now p.counts, p.row, rule-there a.rules.now p.counts a.i p.row p.formed, rule-few a.rules.now p.counts a.i p.row p.formed)

pub overflow_add-from-2 : goal.overflow_add-from-2
overflow_add-from-2 c = let a = c.args in let p = c.requires in omega (arith, table-few 512 330 a.rules.now p.counts, p.row, rule-there a.rules.now p.counts a.i p.row p.formed, rule-few a.rules.now p.counts a.i p.row p.formed)

pub overflow_add-from-3 : goal.overflow_add-from-3
overflow_add-from-3 c = let a = c.args in let p = c.requires in omega (arith, table-few 512 330 a.rules.now p.counts, p.row, rule-there a.rules.now p.counts a.i p.row p.formed, rule-few a.rules.now p.counts a.i p.row p.formed)

pub offset_bounds-rules-from : goal.offset_bounds-rules-from
offset_bounds-rules-from c = let a = c.args in let p = c.requires in omega (arith, table-few 512 330 a.rules.now p.counts, p.row, rule-there a.rules.now p.counts a.i p.row p.formed, rule-few a.rules.now p.counts a.i p.row p.formed)

pub bounds-rules-from : goal.bounds-rules-from
bounds-rules-from c = let a = c.args in let p = c.requires in omega (arith, table-few 512 330 a.rules.now p.counts, p.row, rule-there a.rules.now p.counts a.i p.row p.formed, rule-few a.rules.now p.counts a.i p.row p.formed)

pub overflow_add-to : goal.overflow_add-to
overflow_add-to c = let a = c.args in let p = c.requires in omega (arith, table-few 512 330 a.rules.now p.counts, p.row, rule-there a.rules.now p.counts a.i p.row p.formed, rule-few a.rules.now p.counts a.i p.row p.formed)

pub offset_bounds-rules-from-2 : goal.offset_bounds-rules-from-2
offset_bounds-rules-from-2 c = let a = c.args in let p = c.requires in omega (arith, table-few 512 330 a.rules.now p.counts, p.row, rule-there a.rules.now p.counts a.i p.row p.formed, rule-few a.rules.now p.counts a.i p.row p.formed)

pub slice_bounds-mark_lanes-end : goal.slice_bounds-mark_lanes-end
slice_bounds-mark_lanes-end c = let a = c.args in let p = c.requires in omega (arith, table-few 512 330 a.rules.now p.counts, p.row, rule-there a.rules.now p.counts a.i p.row p.formed, rule-few a.rules.now p.counts a.i p.row p.formed)

pub mark_lanes-requires : goal.mark_lanes-requires
mark_lanes-requires c = let a = c.args in let p = c.requires in let n = get_or a.rules.now (1 + a.i * 330 + 5 + 1 - 1) 0 in (p.ascend, (p.stationed, omega (arith, ap length (ids-lent a.rules.now p.counts a.i p.row p.formed n refl), ids_few a.rules.now p.counts a.i p.row p.formed, p.marks)))

pub returns : goal.returns
returns c = let a = c.args in let p = c.requires in rule-some a.join a.map.coordinates.now a.map.lanes.now a.map.boundaries.now a.point a.cut.now a.stations.now (anchor_of a.map.coordinates.now a.stop_lines.now a.crosswalks.now a.cut.now (row_at 330 a.rules.now a.i)) (ids_at 5 (row_at 330 a.rules.now a.i)) a.past.now c.anchor_of-found.result c.anchor_of-found.ensures c.in-Some.anchor c.in-Some.is _ _ c.mark_lanes.ensures (ids-lent a.rules.now p.counts a.i p.row p.formed _ refl)
