-- `row_returns::slot_returned` meets its contract. By the three ways out: the slot is empty, its lane is absent, its lane is there. Assumes nothing.
use Rattle.std.specs.Prelude.{Some}
use mathlib.Core.Path.{◌≡◌, ◌∙◌}
use Prim.Native.Nat.{◌+◌, ◌*◌, ◌≤◌}
use native.Mathlib.Omega.{arith}
use lib.ListN.{length, drop, get_or}
use Rattle.lists.specs.Rows.{keys, row_with}
use Rattle.tables.specs.View.{word}
use Rattle.row_tests.proofs.Lanes.{lanes-some, search-may, search-gives, lane-found, lane_room, slot-within, answer-within, slot-none, slot-absent, slot-there}
use Rattle.row_returns.proofs.slot_returned.Goals as goal
use Rattle.row_returns.proofs.slot_returned.Goals.{In-Some}
use Rattle.row_returns.proofs.slot_returned.Lts as lts
use Rattle.row_returns.proofs.slot_returned.Reads as reads
use Rattle.row_returns.proofs.slot_returned.Tie as tie

abbrev AtStart : Type 0
AtStart = lts.Start tie.the-claims reads.Pre reads.Post

abbrev AtAfterAnswerPlace : Type 0
AtAfterAnswerPlace = lts.After-answer_place tie.the-claims reads.Pre reads.Post

-- the row lies in the table, and the slot in the row
room : (c : AtStart) → 1 + c.args.i * 52 + 52 ≤ length c.args.t.now
room c = lane_room c.args.t.now c.requires.0 c.args.i c.requires.1.1

slot : (c : AtStart) → c.args.k + 2 ≤ 52
slot c = slot-within c.args.k c.requires.1.0

-- the row that is found is one of the rows, and the answering slot lies in it
at : (c : In-Some) → row_with (get_or c.args.t.now (1 + c.args.i * 52 + c.args.k + 1) 0) (keys 52 (word 0 c.args.t.now) (drop 1 c.args.t.now)) ≡ Some c.in-Some.j
at c = search-gives c.args.t.now c.requires.0 (get_or c.args.t.now (1 + c.args.i * 52 + c.args.k + 1) 0) c.find_row-found.result c.find_row-found.ensures ∙ c.in-Some.is

there : (c : In-Some) → 1 + c.in-Some.j * 52 + 52 ≤ length c.args.t.now
there c = lane_room c.args.t.now c.requires.0 c.in-Some.j (lane-found c.args.t.now c.requires.0 (get_or c.args.t.now (1 + c.args.i * 52 + c.args.k + 1) 0) c.in-Some.j (at c))

answer : (c : AtAfterAnswerPlace) → c.answer_place.result + 2 ≤ 52
answer c = rw c.answer_place.ensures (answer-within c.args.k (get_or c.args.t.now (1 + c.args.i * 52 + c.args.k) 0) c.requires.1.0)

pub overflow_mul-at : goal.overflow_mul-at
overflow_mul-at c = omega (arith, room c.before.before)

pub overflow_add-at : goal.overflow_add-at
overflow_add-at c = omega (arith, room c.before.before)

pub overflow_add-mark : goal.overflow_add-mark
overflow_add-mark c = omega (arith, room c.before.before, slot c.before.before)

pub offset_bounds-t-at : goal.offset_bounds-t-at
offset_bounds-t-at c = omega (arith, room c.before.before, slot c.before.before)

pub bounds-t-at : goal.bounds-t-at
bounds-t-at c = omega (arith, room c.before.before.before, slot c.before.before.before)

pub returns-then-mark-eq0 : goal.returns-then-mark-eq0
returns-then-mark-eq0 c = slot-none c.args.t.now c.args.i c.args.k (slot c.before.before.before.before) c.if-mark-eq0.true

pub bounds-t-0 : goal.bounds-t-0
bounds-t-0 c = omega (arith, lanes-some c.args.t.now c.requires.0)

pub slice_bounds-find_row-count : goal.slice_bounds-find_row-count
slice_bounds-find_row-count c = omega (arith, lanes-some c.args.t.now c.requires.0)

pub slice_bounds-find_row-start : goal.slice_bounds-find_row-start
slice_bounds-find_row-start c = omega (arith, lanes-some c.args.t.now c.requires.0)

pub overflow_add-at-2 : goal.overflow_add-at-2
overflow_add-at-2 c = omega (arith, room c.before.before.before.before.before.before, slot c.before.before.before.before.before.before)

pub overflow_add-at-3 : goal.overflow_add-at-3
overflow_add-at-3 c = omega (arith, room c.before.before.before.before.before.before, slot c.before.before.before.before.before.before)

pub offset_bounds-t-at-2 : goal.offset_bounds-t-at-2
offset_bounds-t-at-2 c = omega (arith, room c.before.before.before.before.before.before, slot c.before.before.before.before.before.before)

pub bounds-t-at-2 : goal.bounds-t-at-2
bounds-t-at-2 c = omega (arith, room c.before.before.before.before.before.before.before, slot c.before.before.before.before.before.before.before)

pub find_row-found-requires : goal.find_row-found-requires
find_row-found-requires c = search-may c.args.t.now c.requires.0

pub returns-in_default : goal.returns-in_default
returns-in_default c = slot-absent c.args.t.now c.args.i c.args.k (slot c.before.before.before.before.before.before.before.before.before) c.if-mark-eq0.false (search-gives c.args.t.now c.requires.0 (get_or c.args.t.now (1 + c.args.i * 52 + c.args.k + 1) 0) c.find_row-found.result c.find_row-found.ensures ∙ c.in_default.is)

pub overflow_mul-answer : goal.overflow_mul-answer
overflow_mul-answer c = omega (arith, there c)

pub overflow_add-answer : goal.overflow_add-answer
overflow_add-answer c = omega (arith, there c)

pub overflow_add-answer-2 : goal.overflow_add-answer-2
overflow_add-answer-2 c = omega (arith, there (goal.at.overflow_add-answer-2 c).In-Some, answer c.before)

pub offset_bounds-t-answer : goal.offset_bounds-t-answer
offset_bounds-t-answer c = omega (arith, there (goal.at.offset_bounds-t-answer c).In-Some, answer c.before)

pub bounds-t-answer : goal.bounds-t-answer
bounds-t-answer c = omega (arith, there (goal.at.bounds-t-answer c).In-Some, answer c.before.before)

pub overflow_add-answer-3 : goal.overflow_add-answer-3
overflow_add-answer-3 c = omega (arith, there (goal.at.overflow_add-answer-3 c).In-Some, answer c.before.before)

pub offset_bounds-t-answer-2 : goal.offset_bounds-t-answer-2
offset_bounds-t-answer-2 c = omega (arith, there (goal.at.offset_bounds-t-answer-2 c).In-Some, answer c.before.before)

pub bounds-t-answer-2 : goal.bounds-t-answer-2
bounds-t-answer-2 c = omega (arith, there (goal.at.bounds-t-answer-2 c).In-Some, answer c.before.before.before)

pub offset_bounds-t-at-3 : goal.offset_bounds-t-at-3
offset_bounds-t-at-3 c = omega (arith, room c.before.before.before.before.before.before.before.before.before.before.before.before)

pub bounds-t-at-3 : goal.bounds-t-at-3
bounds-t-at-3 c = omega (arith, room c.before.before.before.before.before.before.before.before.before.before.before.before.before)

pub returns : goal.returns
returns c = c.both.ensures ∙ slot-there c.args.t.now c.args.i c.args.k (slot c.before.before.before.before.before.before.before.before.before.before.before.before.before.before) c.if-mark-eq0.false c.in-Some.j c.answer_place.result (answer c.before.before.before.before.before) (at (goal.at.returns c).In-Some) c.answer_place.ensures
