-- `row_returns::lane_returned` meets its contract. The parts lent are the row's two lists of links. Assumes nothing.
use mathlib.Core.Path.{◌≡◌, refl}
use mathlib.Core.Logic.{inl, inr}
use Prim.Native.Nat.{◌+◌, ◌*◌, ◌≤◌}
use native.Mathlib.Omega.{arith}
use lib.ListN.{length, get_or}
use Rattle.lists.specs.Every.{all}
use Rattle.tables.specs.View.{word, ids_at}
use Rattle.row_tests.specs.Returned.{names_back, lane_at, lane_returned}
use Rattle.row_tests.proofs.Lanes.{lane_room, links-within, id-at, ids_at_lem}
use Rattle.row_returns.proofs.lane_returned.Goals as goal
use Rattle.row_returns.proofs.lane_returned.Lts as lts
use Rattle.row_returns.proofs.lane_returned.Reads as reads
use Rattle.row_returns.proofs.lane_returned.Tie as tie

abbrev AtStart : Type 0
AtStart = lts.Start tie.the-claims reads.Pre reads.Post

abbrev AtAfterAllNameBack : Type 0
AtAfterAllNameBack = lts.After-all_name_back tie.the-claims reads.Pre reads.Post

-- the row lies in the table, and its lists in the row
room : (c : AtStart) → 1 + c.args.i * 52 + 52 ≤ length c.args.t.now
room c = lane_room c.args.t.now c.requires.0 c.args.i c.requires.1

before : (c : AtStart) → 18 + 1 + get_or c.args.t.now (1 + c.args.i * 52 + 18) 0 ≤ 52
before c = links-within c.args.t.now c.requires.0 c.args.i c.requires.1 18 (inl refl)

after : (c : AtStart) → 35 + 1 + get_or c.args.t.now (1 + c.args.i * 52 + 35) 0 ≤ 52
after c = links-within c.args.t.now c.requires.0 c.args.i c.requires.1 35 (inr refl)

successors : (c : AtAfterAllNameBack) → all (names_back c.args.t.now 18 (word 0 (lane_at c.args.t.now c.args.i))) (ids_at 35 (lane_at c.args.t.now c.args.i)) ≡ c.all_name_back.result
successors c = rw (c.all_name_back.ensures, id-at c.args.t.now c.args.i, ids_at_lem c.args.t.now c.args.i 35 (after c.before.before.before.before.before))

pub overflow_mul-at : goal.overflow_mul-at
overflow_mul-at c = omega (arith, room c.before.before, before c.before.before, after c.before.before)

pub overflow_add-at : goal.overflow_add-at
overflow_add-at c = omega (arith, room c.before.before, before c.before.before, after c.before.before)

pub offset_bounds-t-at : goal.offset_bounds-t-at
offset_bounds-t-at c = omega (arith, room c.before.before, before c.before.before, after c.before.before)

pub bounds-t-at : goal.bounds-t-at
bounds-t-at c = omega (arith, room c.before.before.before, before c.before.before.before, after c.before.before.before)

pub overflow_add-after : goal.overflow_add-after
overflow_add-after c = omega (arith, room c.before.before.before, before c.before.before.before, after c.before.before.before)

pub overflow_add-after-2 : goal.overflow_add-after-2
overflow_add-after-2 c = omega (arith, room c.before.before.before, before c.before.before.before, after c.before.before.before)

pub overflow_add-after_end : goal.overflow_add-after_end
overflow_add-after_end c = omega (arith, room c.before.before.before, before c.before.before.before, after c.before.before.before)

pub offset_bounds-t-at-2 : goal.offset_bounds-t-at-2
offset_bounds-t-at-2 c = omega (arith, room c.before.before.before, before c.before.before.before, after c.before.before.before)

pub bounds-t-at-2 : goal.bounds-t-at-2
bounds-t-at-2 c = omega (arith, room c.before.before.before.before, before c.before.before.before.before, after c.before.before.before.before)

pub overflow_add-after_end-2 : goal.overflow_add-after_end-2
overflow_add-after_end-2 c = omega (arith, room c.before.before.before.before, before c.before.before.before.before, after c.before.before.before.before)

pub offset_bounds-t-after : goal.offset_bounds-t-after
offset_bounds-t-after c = omega (arith, room c.before.before.before.before, before c.before.before.before.before, after c.before.before.before.before)

pub slice_bounds-all_name_back-end : goal.slice_bounds-all_name_back-end
slice_bounds-all_name_back-end c = omega (arith, room c.before.before.before.before, before c.before.before.before.before, after c.before.before.before.before)

pub all_name_back-requires : goal.all_name_back-requires
all_name_back-requires c = (c.requires.0, inl refl)

pub overflow_add-before : goal.overflow_add-before
overflow_add-before c = omega (arith, room c.before.before.before.before.before.before.before, before c.before.before.before.before.before.before.before, after c.before.before.before.before.before.before.before)

pub overflow_add-before-then-all_name_back : goal.overflow_add-before-then-all_name_back
overflow_add-before-then-all_name_back c = omega (arith, room c.before.before.before.before.before.before.before, before c.before.before.before.before.before.before.before, after c.before.before.before.before.before.before.before)

pub overflow_add-before_end : goal.overflow_add-before_end
overflow_add-before_end c = omega (arith, room c.before.before.before.before.before.before.before, before c.before.before.before.before.before.before.before, after c.before.before.before.before.before.before.before)

pub offset_bounds-t-at-then-all_name_back : goal.offset_bounds-t-at-then-all_name_back
offset_bounds-t-at-then-all_name_back c = omega (arith, room c.before.before.before.before.before.before.before, before c.before.before.before.before.before.before.before, after c.before.before.before.before.before.before.before)

pub bounds-t-at-then-all_name_back : goal.bounds-t-at-then-all_name_back
bounds-t-at-then-all_name_back c = omega (arith, room c.before.before.before.before.before.before.before.before, before c.before.before.before.before.before.before.before.before, after c.before.before.before.before.before.before.before.before)

pub overflow_add-before_end-then-all_name_back : goal.overflow_add-before_end-then-all_name_back
overflow_add-before_end-then-all_name_back c = omega (arith, room c.before.before.before.before.before.before.before.before, before c.before.before.before.before.before.before.before.before, after c.before.before.before.before.before.before.before.before)

pub offset_bounds-t-before : goal.offset_bounds-t-before
offset_bounds-t-before c = omega (arith, room c.before.before.before.before.before.before.before.before, before c.before.before.before.before.before.before.before.before, after c.before.before.before.before.before.before.before.before)

pub slice_bounds-all_name_back-end-then-all_name_back : goal.slice_bounds-all_name_back-end-then-all_name_back
slice_bounds-all_name_back-end-then-all_name_back c = omega (arith, room c.before.before.before.before.before.before.before.before, before c.before.before.before.before.before.before.before.before, after c.before.before.before.before.before.before.before.before)

pub all_name_back-requires-then-all_name_back : goal.all_name_back-requires-then-all_name_back
all_name_back-requires-then-all_name_back c = (c.requires.0, inr refl)

pub returns-then-all_name_back : goal.returns-then-all_name_back
unfolding lane_returned
returns-then-all_name_back c = rw (successors c.before.before.before.before.before, c.if-all_name_back.true, c.all_name_back-then-all_name_back.ensures, id-at c.args.t.now c.args.i, ids_at_lem c.args.t.now c.args.i 18 (before c.before.before.before.before.before.before.before.before.before.before))

pub returns : goal.returns
unfolding lane_returned
returns c = rw (successors c.before.before, c.if-all_name_back.false)
