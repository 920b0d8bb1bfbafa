-- `row_returns::names_back` meets its contract. The row that is found is one of the rows, so its list lies in it; the part lent is the list. Assumes nothing.
use Rattle.std.specs.Prelude.{Some}
use mathlib.Core.Path.{◌≡◌, ◌∙◌}
use Prim.Native.Nat.{◌+◌, ◌*◌, ◌<◌, ◌≤◌}
use native.Mathlib.Omega.{arith}
use lib.ListN.{length, drop, get_or}
use Rattle.lists.specs.Rows.{keys, row_with}
use Rattle.tables.specs.View.{word}
use Rattle.row_tests.specs.Returned.{row_test}
use Rattle.row_tests.proofs.Lanes.{lanes-some, search-may, search-gives, lane-found, lane_room, links-within, ids_at_lem}
use Rattle.row_returns.proofs.names_back.Goals as goal
use Rattle.row_returns.proofs.names_back.Goals.{In-Some}

-- the row that is found is one of the rows, and its list lies in it
at : (c : In-Some) → row_with c.args.b (keys 52 (word 0 c.args.t.now) (drop 1 c.args.t.now)) ≡ Some c.in-Some.j
at c = search-gives c.args.t.now c.requires.0 c.args.b c.find_row-found.result c.find_row-found.ensures ∙ c.in-Some.is

row : (c : In-Some) → c.in-Some.j < word 0 c.args.t.now
row c = lane-found c.args.t.now c.requires.0 c.args.b c.in-Some.j (at c)

room : (c : In-Some) → 1 + c.in-Some.j * 52 + 52 ≤ length c.args.t.now
room c = lane_room c.args.t.now c.requires.0 c.in-Some.j (row c)

within : (c : In-Some) → c.args.k + 1 + get_or c.args.t.now (1 + c.in-Some.j * 52 + c.args.k) 0 ≤ 52
within c = links-within c.args.t.now c.requires.0 c.in-Some.j (row c) c.args.k c.requires.1

pub bounds-t-0 : goal.bounds-t-0
bounds-t-0 c = omega (arith, lanes-some c.args.t.now c.requires.0)

pub slice_bounds-find_row-count : goal.slice_bounds-find_row-count
slice_bounds-find_row-count c = omega (arith, lanes-some c.args.t.now c.requires.0)

pub slice_bounds-find_row-start : goal.slice_bounds-find_row-start
slice_bounds-find_row-start c = omega (arith, lanes-some c.args.t.now c.requires.0)

pub find_row-found-requires : goal.find_row-found-requires
find_row-found-requires c = search-may c.args.t.now c.requires.0

pub returns-in_default : goal.returns-in_default
unfolding row_test
returns-in_default c = rw (search-gives c.args.t.now c.requires.0 c.args.b c.find_row-found.result c.find_row-found.ensures, c.in_default.is)

pub overflow_mul-at : goal.overflow_mul-at
overflow_mul-at c = omega (arith, room c)

pub overflow_add-at : goal.overflow_add-at
overflow_add-at c = omega (arith, room c)

pub overflow_add-at-2 : goal.overflow_add-at-2
overflow_add-at-2 c = omega (arith, room c, within c)

pub overflow_add-start : goal.overflow_add-start
overflow_add-start c = omega (arith, room c, within c)

pub offset_bounds-t-at : goal.offset_bounds-t-at
offset_bounds-t-at c = omega (arith, room c, within c)

pub bounds-t-at : goal.bounds-t-at
bounds-t-at c = omega (arith, room (goal.at.bounds-t-at c).In-Some, within (goal.at.bounds-t-at c).In-Some)

pub overflow_add-end : goal.overflow_add-end
overflow_add-end c = omega (arith, room (goal.at.overflow_add-end c).In-Some, within (goal.at.overflow_add-end c).In-Some)

pub offset_bounds-t-start : goal.offset_bounds-t-start
offset_bounds-t-start c = omega (arith, room (goal.at.offset_bounds-t-start c).In-Some, within (goal.at.offset_bounds-t-start c).In-Some)

pub slice_bounds-contains-end : goal.slice_bounds-contains-end
slice_bounds-contains-end c = omega (arith, room (goal.at.slice_bounds-contains-end c).In-Some, within (goal.at.slice_bounds-contains-end c).In-Some)

pub returns : goal.returns
unfolding row_test
returns c = rw (at (goal.at.returns c).In-Some, c.contains.ensures, ids_at_lem c.args.t.now c.in-Some.j c.args.k (within (goal.at.returns c).In-Some))
