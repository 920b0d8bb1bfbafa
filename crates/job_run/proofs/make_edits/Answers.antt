-- `job_run::make_edits` meets its contract, edit by edit. Assumes nothing.
use borrow.Author.Rules.{rules}
use native.Mathlib.Omega.{arith}
use mathlib.Core.Path.{◌≡◌, refl, ap, ◌∙◌}
use Prim.Native.Nat.{◌-◌, ◌≤◌}
use lib.ListN.{length, get_or, length-map}
use Rattle.lent.specs.Lent.{map_tables, view_rows}
use Rattle.step.specs.Run.{Held}
use Rattle.job_run.proofs.Same.{same-refl, same-trans, same-lists-refl, same-lists-trans}
use Rattle.job_run.proofs.Running.{Running, running-begins, running-ends, running-room, running-stops, running-turns, turn-few, marks-long}
use Rattle.job_run.proofs.make_edits.Goals as goal

pub loop-i-init : goal.loop-i-init
loop-i-init c =
    (running-begins c.args.tolerance (view_rows c.args.old) c.args.job (record { counter = c.args.counter; tables = map_tables c.args.map.now }) c.args.marks.now c.args.rows c.args.lists.now.warnings.now c.requires.0, (same-refl _, same-lists-refl _))

pub offset_bounds-job-i : goal.offset_bounds-job-i
offset_bounds-job-i c = omega (arith, c.loop-i-test.true, c.requires.1.0)

pub bounds-job-i : goal.bounds-job-i
bounds-job-i c = omega (arith, c.loop-i-test.true, c.requires.1.0)

pub make_edit-turn-requires : goal.make_edit-turn-requires
make_edit-turn-requires c =
    (c.loop-i.invariant.0.along.sane, (c.requires.1.1.0, (marks-long c.args.tolerance (view_rows c.args.old) c.args.job (record { counter = c.args.counter; tables = map_tables c.args.map.now }) c.args.marks.now c.args.rows c.args.lists.now.warnings.now (record { counter = c.loop-i.next; tables = map_tables c.loop-i.map }) c.loop-i.marks c.loop-i.lists.warnings.now c.loop-i.told c.loop-i.i c.loop-i.invariant.0 ∙ c.requires.1.1.1.0, (running-room c.args.tolerance (view_rows c.args.old) c.args.job (record { counter = c.args.counter; tables = map_tables c.args.map.now }) c.args.marks.now c.args.rows c.args.lists.now.warnings.now (record { counter = c.loop-i.next; tables = map_tables c.loop-i.map }) c.loop-i.marks c.loop-i.lists.warnings.now c.loop-i.told c.loop-i.i c.loop-i.invariant.0 (omega (arith, c.requires.1.0, c.well_formed)) c.loop-i-test.true c.requires.1.1.1.1.0 c.row_for-at.result c.row_for-at.ensures, (c.loop-i.invariant.1.1.created_length ∙ c.requires.1.1.1.1.1.0, (c.loop-i.invariant.1.1.modified_length ∙ c.requires.1.1.1.1.1.1.0, c.loop-i.invariant.1.1.deleted_length ∙ c.requires.1.1.1.1.1.1.1))))))

pub overflow_add-result : goal.overflow_add-result
overflow_add-result c = omega (arith, c.loop-i-test.true, c.requires.1.0)

pub shape_of-marks-in-Err : goal.shape_of-marks-in-Err
shape_of-marks-in-Err c = c.make_edit-turn.auto.marks ∙ marks-long c.args.tolerance (view_rows c.args.old) c.args.job (record { counter = c.args.counter; tables = map_tables c.args.map.now }) c.args.marks.now c.args.rows c.args.lists.now.warnings.now (record { counter = c.loop-i.next; tables = map_tables c.loop-i.map }) c.loop-i.marks c.loop-i.lists.warnings.now c.loop-i.told c.loop-i.i c.loop-i.invariant.0

pub returns-in-Err-clause-made : goal.returns-in-Err-clause-made
returns-in-Err-clause-made c =
    running-stops c.args.tolerance (view_rows c.args.old) c.args.job (record { counter = c.args.counter; tables = map_tables c.args.map.now }) c.args.marks.now c.args.rows c.args.lists.now.warnings.now (record { counter = c.loop-i.next; tables = map_tables c.loop-i.map }) c.loop-i.marks c.loop-i.lists.warnings.now c.loop-i.told c.loop-i.i c.loop-i.invariant.0 (omega (arith, c.requires.1.0, c.well_formed)) c.loop-i-test.true c.requires.1.1.1.1.0 c.row_for-at.result c.row_for-at.ensures (map_tables c.make_edit-turn.new.map) c.make_edit-turn.new.marks c.make_edit-turn.new.lists.warnings.now c.make_edit-turn.result c.make_edit-turn.ensures.made _ c.in-Err.is

pub overflow_add-told : goal.overflow_add-told
overflow_add-told c =
    omega (arith, turn-few c.args.tolerance (view_rows c.args.old) c.args.job (record { counter = c.args.counter; tables = map_tables c.args.map.now }) c.args.marks.now c.args.rows c.args.lists.now.warnings.now (record { counter = c.loop-i.next; tables = map_tables c.loop-i.map }) c.loop-i.marks c.loop-i.lists.warnings.now c.loop-i.told c.loop-i.i c.loop-i.invariant.0 (omega (arith, c.requires.1.0, c.well_formed)) c.loop-i-test.true c.requires.1.1.1.1.0 c.row_for-at.result c.row_for-at.ensures (map_tables c.make_edit-turn.new.map) c.make_edit-turn.new.marks c.make_edit-turn.new.lists.warnings.now c.make_edit-turn.result c.make_edit-turn.ensures.made c.in-Ok.done.counter c.in-Ok.done.warnings c.in-Ok.is, c.loop-i.invariant.0.few, c.loop-i-test.true, c.requires.1.0)

pub loop-i-preserved : goal.loop-i-preserved
loop-i-preserved c =
    (running-turns c.args.tolerance (view_rows c.args.old) c.args.job (record { counter = c.args.counter; tables = map_tables c.args.map.now }) c.args.marks.now c.args.rows c.args.lists.now.warnings.now (record { counter = c.loop-i.next; tables = map_tables c.loop-i.map }) c.loop-i.marks c.loop-i.lists.warnings.now c.loop-i.told c.loop-i.i c.loop-i.invariant.0 (omega (arith, c.requires.1.0, c.well_formed)) c.loop-i-test.true c.requires.1.1.1.1.0 c.row_for-at.result c.row_for-at.ensures (map_tables c.make_edit-turn.new.map) c.make_edit-turn.new.marks c.make_edit-turn.new.lists.warnings.now c.make_edit-turn.result c.make_edit-turn.ensures.made c.in-Ok.done.counter c.in-Ok.done.warnings c.in-Ok.is c.make_edit-turn.ensures.same_lists.warnings_length, (same-trans c.loop-i.invariant.1.0 c.make_edit-turn.ensures.same, same-lists-trans c.loop-i.invariant.1.1 c.make_edit-turn.ensures.same_lists))

pub shape_of-marks : goal.shape_of-marks
shape_of-marks c = marks-long c.args.tolerance (view_rows c.args.old) c.args.job (record { counter = c.args.counter; tables = map_tables c.args.map.now }) c.args.marks.now c.args.rows c.args.lists.now.warnings.now (record { counter = c.loop-i.next; tables = map_tables c.loop-i.map }) c.loop-i.marks c.loop-i.lists.warnings.now c.loop-i.told c.loop-i.i c.loop-i.invariant.0

pub returns-clause-made : goal.returns-clause-made
returns-clause-made c =
    running-ends c.args.tolerance (view_rows c.args.old) c.args.job (record { counter = c.args.counter; tables = map_tables c.args.map.now }) c.args.marks.now c.args.rows c.args.lists.now.warnings.now (record { counter = c.loop-i.next; tables = map_tables c.loop-i.map }) c.loop-i.marks c.loop-i.lists.warnings.now c.loop-i.told c.loop-i.i c.loop-i.invariant.0 (omega (arith, c.requires.1.0, c.well_formed)) (omega (arith, c.loop-i-test.false))

pub returns-in-Err-clause-same : goal.returns-in-Err-clause-same
returns-in-Err-clause-same c = same-trans c.loop-i.invariant.1.0 c.make_edit-turn.ensures.same

pub returns-in-Err-clause-same_lists : goal.returns-in-Err-clause-same_lists
returns-in-Err-clause-same_lists c = same-lists-trans c.loop-i.invariant.1.1 c.make_edit-turn.ensures.same_lists

pub returns-clause-same : goal.returns-clause-same
returns-clause-same c = c.loop-i.invariant.1.0

pub returns-clause-same_lists : goal.returns-clause-same_lists
returns-clause-same_lists c = c.loop-i.invariant.1.1
