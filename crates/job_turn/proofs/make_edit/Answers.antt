-- `job_turn::make_edit` meets its contract: the warnings are lent from row `at` on, and what the call leaves is read off. Assumes nothing.
use mathlib.Core.Path.{refl}
use Prim.Native.Nat.{◌-◌, ◌*◌, ◌≤◌}
use native.Mathlib.Omega.{arith}
use lib.ListN.{length}
use borrow.Rule.Slice.PartMut.{mid_of, same_len_mid}
use Rattle.lent.specs.Lent.{map_tables, view_rows}
use Rattle.step.specs.Step.{Lent}
use Rattle.job_turn.proofs.Ends.{Fits, room_fits, may-mark, made_as}
use Rattle.step.proofs.Counter.{counter-word}
use Rattle.job_turn.proofs.make_edit.Goals as goal
use Rattle.job_turn.proofs.make_edit.Goals.{Start}

-- what is lent
abbrev lent : Start → Lent
lent s =
    record {
      counter = s.args.counter;
      tables = map_tables s.args.map.now;
      created = s.args.lists.now.created.now;
      modified = s.args.lists.now.modified.now;
      deleted = s.args.lists.now.deleted.now;
      warnings = mid_of (s.args.at * 10) (length s.args.lists.now.warnings.now - s.args.at * 10) s.args.lists.now.warnings.now;
    }

fits : (s : Start) → Fits s.args.tolerance s.args.command (lent s)
fits s =
    room_fits s.args.tolerance s.args.command (lent s) s.requires.0 s.requires.1.1.1.1.0 s.requires.1.1.1.1.1.0 s.requires.1.1.1.1.1.1 s.args.at
    s.args.lists.now.warnings.now refl s.requires.1.1.1.0

-- the part begins within the warnings
begins : (s : Start) → s.args.at * 10 ≤ length s.args.lists.now.warnings.now
begins s = omega (arith, s.requires.1.1.1.0)

pub overflow_mul-first : goal.overflow_mul-first
overflow_mul-first c = omega (arith, begins (goal.at.overflow_mul-first c).Start, c.well_formed)

pub offset_bounds-warnings-first : goal.offset_bounds-warnings-first
offset_bounds-warnings-first c = omega (arith, begins (goal.at.offset_bounds-warnings-first c).Start, c.well_formed)

pub slice_bounds-answered-count : goal.slice_bounds-answered-count
slice_bounds-answered-count c = omega (arith, begins (goal.at.slice_bounds-answered-count c).Start)

pub answered-answer-requires : goal.answered-answer-requires
answered-answer-requires c = c.requires.0

pub mark_all-requires : goal.mark_all-requires
mark_all-requires c =
    let s = (goal.at.mark_all-requires c).Start in
    let d = c.answered-answer in
    (c.requires.1.0, (c.requires.1.1.0, may-mark s.args.tolerance s.args.command (lent s) _ d.result d.ensures.made s.requires.0 (fits s) c.answer_counts-n.result c.answer_counts-n.ensures d.auto.modified))

pub turn_of-requires : goal.turn_of-requires
turn_of-requires c =
    let s = (goal.at.turn_of-requires c).Start in
    let d = c.answered-answer in
    counter-word s.args.tolerance s.args.command (lent s) _ d.result d.ensures.made (omega (arith, s.well_formed))

pub returns-clause-made : goal.returns-clause-made
returns-clause-made c =
    let s = (goal.at.returns-clause-made c).Start in
    let d = c.answered-answer in
    let m = c.mark_all in
    let n = c.answer_counts-n in
    made_as s.args.tolerance s.args.command (lent s) _ d.result d.ensures.made s.requires.0 (fits s) (view_rows c.args.old) c.args.marks.now m.new.marks s.args.at s.args.lists.now.warnings.now _ n.result c.turn_of.result n.ensures m.ensures (begins s) refl refl c.turn_of.ensures

pub slice_bounds-answered-start : goal.slice_bounds-answered-start
slice_bounds-answered-start c = omega (arith, begins (goal.at.slice_bounds-answered-start c).Start)

pub returns-clause-same_lists : goal.returns-clause-same_lists
returns-clause-same_lists c =
    let d = c.answered-answer in
    record {
      created = refl;
      modified = refl;
      deleted = refl;
      warnings = refl;
      created_length = d.auto.created;
      modified_length = d.auto.modified;
      deleted_length = d.auto.deleted;
      warnings_length = same_len_mid (c.args.at * 10) (length c.args.lists.now.warnings.now - c.args.at * 10) c.args.lists.now.warnings.now d.new.warnings d.auto.warnings;
    }
