-- `link_tests::slot_returned` meets its contract. By the three ways out: the slot is empty, its lane is absent, its lane is there. Assumes nothing.
use Rattle.std.specs.Prelude.{Some}
use mathlib.Core.Path.{◌≡◌, ◌∙◌}
use mathlib.Core.Bool.{true}
use mathlib.Core.List.{List}
use Prim.Native.Nat.{ℕ, ◌+◌, ◌*◌, ◌≤◌}
use native.Mathlib.Omega.{arith}
use lib.ListN.{length, get_or}
use Rattle.lists.specs.Rows.{row_with}
use Rattle.row_tests.specs.Returned.{searchable}
use Rattle.row_tests.proofs.Lanes.{lane-found, lane_room, slot-within, answer-within, slot-none, slot-absent, slot-there}
use Rattle.link_tests.specs.Met.{lane_ids}
use Rattle.link_tests.proofs.Steps.{ids-ready, id-found}
use Rattle.link_tests.proofs.slot_returned.Goals as goal
use Rattle.link_tests.proofs.slot_returned.Goals.{In-Some}
use Rattle.link_tests.proofs.slot_returned.Lts as lts
use Rattle.link_tests.proofs.slot_returned.Reads as reads
use Rattle.link_tests.proofs.slot_returned.Tie as tie

abbrev AtStart : Type 0
AtStart = lts.Start tie.the-claims reads.Pre reads.Post

abbrev AtAfterFindIdFound : Type 0
AtAfterFindIdFound = lts.After-find_id tie.the-claims reads.Pre reads.Post

abbrev AtAfterAnswerPlace : Type 0
AtAfterAnswerPlace = lts.After-answer_place tie.the-claims reads.Pre reads.Post

abbrev words : (c : AtStart) → List ℕ
words c = c.args.t.now

sorted : (c : AtStart) → searchable (words c) ≡ true
sorted c = c.requires.0.sorted

-- the row lies in the table, and the slot in the row
room : (c : AtStart) → 1 + c.args.i * 52 + 52 ≤ length (words c)
room c = lane_room (words c) (sorted c) c.args.i c.requires.1.1

slot : (c : AtStart) → c.args.k + 2 ≤ 52
slot c = slot-within c.args.k c.requires.1.0

-- the lane that the slot names, and what the search gives
abbrev named : (c : AtStart) → ℕ
named c = get_or (words c) (1 + c.args.i * 52 + c.args.k + 1) 0

sought : (c : AtAfterFindIdFound) → row_with (named c.before.before.before.before.before.before.before) (lane_ids (words c.before.before.before.before.before.before.before)) ≡ c.find_id-found.result
sought c =
    let b = c in
    id-found (words c.before.before.before.before.before.before.before) b.args.ids.now b.requires.0 (named c.before.before.before.before.before.before.before) c.find_id-found.result c.find_id-found.ensures

-- the row that is found is one of the rows, and the answering slot lies in it
abbrev first : (c : In-Some) → AtStart
first c = c.before.before.before.before.before.before.before.before.before

abbrev row : (c : In-Some) → ℕ
row c = c.in-Some.j

at : (c : In-Some) → row_with (named (first c)) (lane_ids (words (first c))) ≡ Some (row c)
at c = sought c.before.before ∙ c.in-Some.is

there : (c : In-Some) → 1 + row c * 52 + 52 ≤ length (words (first c))
there c = let b = first c in lane_room (words b) (sorted b) (row c) (lane-found (words b) (sorted b) (named b) (row c) (at c))

answer : (c : AtAfterAnswerPlace) → c.answer_place.result + 2 ≤ 52
answer c =
    let b = c.before.before.before.before.before.before.before.before.before in
    rw c.answer_place.ensures (answer-within b.args.k (get_or (words b) (1 + b.args.i * 52 + b.args.k) 0) b.requires.1.0)

pub overflow_mul-at : goal.overflow_mul-at
overflow_mul-at c = omega (arith, room c.before.before.before)

pub overflow_add-at : goal.overflow_add-at
overflow_add-at c = omega (arith, room c.before.before.before)

pub overflow_add-mark : goal.overflow_add-mark
overflow_add-mark c = omega (arith, room c.before.before.before, slot c.before.before.before)

pub offset_bounds-t-at : goal.offset_bounds-t-at
offset_bounds-t-at c = omega (arith, room c.before.before.before, slot c.before.before.before)

pub bounds-t-at : goal.bounds-t-at
bounds-t-at c = omega (arith, room c.before.before.before.before, slot c.before.before.before.before)

pub returns-then-mark-eq0 : goal.returns-then-mark-eq0
returns-then-mark-eq0 c = let b = c.before.before.before.before.before in slot-none (words c.before.before.before.before.before) b.args.i b.args.k (slot c.before.before.before.before.before) c.if-mark-eq0.true

pub bounds-t-0 : goal.bounds-t-0
bounds-t-0 c = omega (arith, room c.before.before.before.before.before.before)

pub overflow_add-at-2 : goal.overflow_add-at-2
overflow_add-at-2 c = omega (arith, room c.before.before.before.before.before.before, slot c.before.before.before.before.before.before)

pub overflow_add-at-3 : goal.overflow_add-at-3
overflow_add-at-3 c = omega (arith, room c.before.before.before.before.before.before, slot c.before.before.before.before.before.before)

pub offset_bounds-t-at-2 : goal.offset_bounds-t-at-2
offset_bounds-t-at-2 c = omega (arith, room c.before.before.before.before.before.before, slot c.before.before.before.before.before.before)

pub bounds-t-at-2 : goal.bounds-t-at-2
bounds-t-at-2 c = omega (arith, room c.before.before.before.before.before.before.before, slot c.before.before.before.before.before.before.before)

pub find_id-found-requires : goal.find_id-found-requires
find_id-found-requires c = let b = c.before.before.before.before.before.before.before in (b.requires.1.1, ids-ready (words c.before.before.before.before.before.before.before) b.args.ids.now b.requires.0)

pub returns-in_default : goal.returns-in_default
returns-in_default c = let b = c.before.before.before.before.before.before.before.before.before in slot-absent (words c.before.before.before.before.before.before.before.before.before) b.args.i b.args.k (slot c.before.before.before.before.before.before.before.before.before) c.if-mark-eq0.false (sought c.before.before ∙ c.in_default.is)

pub overflow_mul-answer : goal.overflow_mul-answer
overflow_mul-answer c = omega (arith, there c)

pub overflow_add-answer : goal.overflow_add-answer
overflow_add-answer c = omega (arith, there c)

pub overflow_add-answer-2 : goal.overflow_add-answer-2
overflow_add-answer-2 c = omega (arith, there (goal.at.overflow_add-answer-2 c).In-Some, answer c.before)

pub offset_bounds-t-answer : goal.offset_bounds-t-answer
offset_bounds-t-answer c = omega (arith, there (goal.at.offset_bounds-t-answer c).In-Some, answer c.before)

pub bounds-t-answer : goal.bounds-t-answer
bounds-t-answer c = omega (arith, there (goal.at.bounds-t-answer c).In-Some, answer c.before.before)

pub overflow_add-answer-3 : goal.overflow_add-answer-3
overflow_add-answer-3 c = omega (arith, there (goal.at.overflow_add-answer-3 c).In-Some, answer c.before.before)

pub offset_bounds-t-answer-2 : goal.offset_bounds-t-answer-2
offset_bounds-t-answer-2 c = omega (arith, there (goal.at.offset_bounds-t-answer-2 c).In-Some, answer c.before.before)

pub bounds-t-answer-2 : goal.bounds-t-answer-2
bounds-t-answer-2 c = omega (arith, there (goal.at.bounds-t-answer-2 c).In-Some, answer c.before.before.before)

pub offset_bounds-t-at-3 : goal.offset_bounds-t-at-3
offset_bounds-t-at-3 c = omega (arith, room c.before.before.before.before.before.before.before.before.before.before.before.before)

pub bounds-t-at-3 : goal.bounds-t-at-3
bounds-t-at-3 c = omega (arith, room c.before.before.before.before.before.before.before.before.before.before.before.before.before)

pub returns : goal.returns
returns c =
    let b = c in
    let p = c.answer_place in
    c.both.ensures ∙ slot-there (words c.before.before.before.before.before.before.before.before.before.before.before.before.before.before) b.args.i b.args.k (slot c.before.before.before.before.before.before.before.before.before.before.before.before.before.before) c.if-mark-eq0.false (row (goal.at.returns c).In-Some) p.result (answer c.before.before.before.before.before) (at (goal.at.returns c).In-Some) p.ensures
