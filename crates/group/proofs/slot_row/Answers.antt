-- `group::slot_row` meets its contract: an empty slot leads nowhere, another where a search for its lane leads. Assumes nothing.
use Prim.Native.Nat.{◌+◌, ◌*◌, ◌≤◌}
use native.Mathlib.Omega.{arith}
use lib.ListN.{length, get_or}
use Rattle.row_tests.proofs.Lanes.{lanes-some, lane_room, slot-within, search-may, search-gives}
use Rattle.group.proofs.Slots.{slot-empty, slot-search}
use Rattle.group.proofs.slot_row.Goals as goal
use Rattle.group.proofs.slot_row.Lts as lts
use Rattle.group.proofs.slot_row.Reads as reads
use Rattle.group.proofs.slot_row.Tie as tie

abbrev AtStart : Type 0
AtStart = lts.Start tie.the-claims reads.Pre reads.Post

-- the row lies in the table, and the slot in the row
room : (c : AtStart) → 1 + c.args.j * 52 + 52 ≤ length c.args.lanes.now
room c = lane_room c.args.lanes.now c.requires.0 c.args.j c.requires.1.1

slot : (c : AtStart) → c.args.k + 2 ≤ 52
slot c = slot-within c.args.k c.requires.1.0

pub overflow_mul-at : goal.overflow_mul-at
overflow_mul-at c = omega (arith, room c.before.before)

pub overflow_add-at : goal.overflow_add-at
overflow_add-at c = omega (arith, room c.before.before)

pub overflow_add-at-2 : goal.overflow_add-at-2
overflow_add-at-2 c = omega (arith, room c.before.before, slot c.before.before)

pub offset_bounds-lanes-at : goal.offset_bounds-lanes-at
offset_bounds-lanes-at c = omega (arith, room c.before.before, slot c.before.before)

pub bounds-lanes-at : goal.bounds-lanes-at
bounds-lanes-at c = omega (arith, room c.before.before.before, slot c.before.before.before)

pub returns-then-lanes-at-eq0 : goal.returns-then-lanes-at-eq0
returns-then-lanes-at-eq0 c =
    let s = c in
    slot-empty s.args.lanes.now s.args.k s.args.j (slot c.before.before.before.before) c.if-lanes-at-eq0.true

pub bounds-lanes-0 : goal.bounds-lanes-0
bounds-lanes-0 c = omega (arith, lanes-some c.args.lanes.now c.requires.0)

pub slice_bounds-find_row-count : goal.slice_bounds-find_row-count
slice_bounds-find_row-count c = omega (arith, lanes-some c.args.lanes.now c.requires.0)

pub overflow_add-at-3 : goal.overflow_add-at-3
overflow_add-at-3 c = omega (arith, room c.before.before.before.before.before.before, slot c.before.before.before.before.before.before)

pub offset_bounds-lanes-at-2 : goal.offset_bounds-lanes-at-2
offset_bounds-lanes-at-2 c = omega (arith, room c.before.before.before.before.before.before, slot c.before.before.before.before.before.before)

pub bounds-lanes-at-2 : goal.bounds-lanes-at-2
bounds-lanes-at-2 c = omega (arith, room c.before.before.before.before.before.before.before, slot c.before.before.before.before.before.before.before)

pub find_row-requires : goal.find_row-requires
find_row-requires c = search-may c.args.lanes.now c.requires.0

pub returns : goal.returns
returns c =
    let s = c in
    let t = s.args.lanes.now in
    let v = get_or t (1 + s.args.j * 52 + s.args.k + 1) 0 in
    slot-search t s.args.k s.args.j (slot c.before.before.before.before.before.before.before.before) c.if-lanes-at-eq0.false c.find_row.result (search-gives t s.requires.0 v c.find_row.result c.find_row.ensures)
