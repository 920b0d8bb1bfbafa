use mathlib.Core.Bool.{not}
use native.Mathlib.Omega.{arith}
use mathlib.Core.Path.{sym, ◌∙◌, ap}
use Rattle.step.specs.Step.{lent_of}
use Rattle.edit_split.proofs.Parts.{mark-asks, count-asks, cut_small, lanes-there, boundaries-there, no-ids, no_rows, off, on}
use Rattle.edit_split.proofs.Parts.{both_told, numbered}
use Rattle.edit_split.proofs.split_planned.Goals as goal

-- src/lib.rt:188:5
pub mark_cut-requires : goal.mark_cut-requires
mark_cut-requires c = mark-asks c.requires

-- src/lib.rt:189:9
pub count_ids-ids-requires : goal.count_ids-ids-requires
count_ids-ids-requires c = count-asks c.requires c.mark_cut.new.marks c.mark_cut.auto.marks

-- src/lib.rt:190:33
pub overflow_add-ids : goal.overflow_add-ids
overflow_add-ids c = omega (arith, (cut_small c.requires).0, c.count_ids-ids.ensures.1)

-- src/lib.rt:191:9
pub returns-then-not-ids_left-clause-made : goal.returns-then-not-ids_left-clause-made
returns-then-not-ids_left-clause-made c = no-ids (lent_of c.args.counter c.args.map.now.lanes.now c.args.map.now.boundaries.now c.args.map.now.roads.now c.args.map.now.junctions.now c.args.map.now.rules.now c.args.map.now.stop_lines.now c.args.map.now.crosswalks.now c.args.map.now.coordinates.now c.args.lists.now.created.now c.args.lists.now.modified.now c.args.lists.now.deleted.now c.args.lists.now.warnings.now) c.requires c.mark_cut.new.marks c.mark_cut.ensures c.count_ids-ids.result c.count_ids-ids.ensures.0 (sym c.ids_left.ensures ∙ off c.ids_left.result (ap not c.if-not-ids_left.true))

-- src/lib.rt:193:13
pub bounds-lanes-0 : goal.bounds-lanes-0
bounds-lanes-0 c = omega (arith, lanes-there c.requires)

-- src/lib.rt:193:13
pub overflow_add-n : goal.overflow_add-n
overflow_add-n c = omega (arith, (cut_small c.requires).0, (cut_small c.requires).1.0)

-- src/lib.rt:194:13
pub bounds-boundaries-0 : goal.bounds-boundaries-0
bounds-boundaries-0 c = omega (arith, boundaries-there c.requires)

-- src/lib.rt:194:13
pub overflow_add-b : goal.overflow_add-b
overflow_add-b c = omega (arith, c.count_ids-ids.ensures.1, (cut_small c.requires).1.1)

-- src/lib.rt:195:9
pub rows_fit-lanes_fit-requires : goal.rows_fit-lanes_fit-requires
rows_fit-lanes_fit-requires c = (omega arith, lanes-there c.requires)

-- src/lib.rt:198:9
pub rows_fit-requires : goal.rows_fit-requires
rows_fit-requires c = (omega arith, boundaries-there c.requires)

-- src/lib.rt:200:9
pub returns-then-not-both-clause-made : goal.returns-then-not-both-clause-made
returns-then-not-both-clause-made c = no_rows (lent_of c.args.counter c.args.map.now.lanes.now c.args.map.now.boundaries.now c.args.map.now.roads.now c.args.map.now.junctions.now c.args.map.now.rules.now c.args.map.now.stop_lines.now c.args.map.now.crosswalks.now c.args.map.now.coordinates.now c.args.lists.now.created.now c.args.lists.now.modified.now c.args.lists.now.deleted.now c.args.lists.now.warnings.now) c.requires c.mark_cut.new.marks c.mark_cut.ensures c.count_ids-ids.result c.count_ids-ids.ensures.0 (sym c.ids_left.ensures ∙ on c.ids_left.result (ap not c.if-not-ids_left.false)) (sym (both_told c.rows_fit-lanes_fit.result c.rows_fit.result _ _ c.both.result c.rows_fit-lanes_fit.ensures c.rows_fit.ensures c.both.ensures) ∙ off c.both.result (ap not c.if-not-both.true))

-- src/lib.rt:202:5
pub split_numbered-requires : goal.split_numbered-requires
split_numbered-requires c = numbered (lent_of c.args.counter c.args.map.now.lanes.now c.args.map.now.boundaries.now c.args.map.now.roads.now c.args.map.now.junctions.now c.args.map.now.rules.now c.args.map.now.stop_lines.now c.args.map.now.crosswalks.now c.args.map.now.coordinates.now c.args.lists.now.created.now c.args.lists.now.modified.now c.args.lists.now.deleted.now c.args.lists.now.warnings.now) c.requires c.mark_cut.new.marks c.mark_cut.ensures c.count_ids-ids.result c.count_ids-ids.ensures.0 (sym c.ids_left.ensures ∙ on c.ids_left.result (ap not c.if-not-ids_left.false)) (sym (both_told c.rows_fit-lanes_fit.result c.rows_fit.result _ _ c.both.result c.rows_fit-lanes_fit.ensures c.rows_fit.ensures c.both.ensures) ∙ on c.both.result (ap not c.if-not-both.false))
