-- `merge_rows::redraw_followed` meets its contract: the successors are read back from the array that holds them. Assumes nothing.
use borrow.Author.Rules.{rules}
use mathlib.Core.Path.{sym}
use Prim.Native.Nat.{◌≤◌}
use native.Mathlib.Omega.{arith}
use lib.ListN.{length, replicate}
use lib.Seq.{length-take-le}
use Rattle.lookup.proofs.Laws.{sorted-row}
use Rattle.merge_redraw.proofs.LaneRows.{after-few, after-short, followed}
use Rattle.merge_rows.proofs.redraw_followed.Goals as goal

pub overflow_mul-first : goal.overflow_mul-first
overflow_mul-first c = omega (arith, sorted-row 1024 52 c.args.t.now c.requires.1.0 c.args.i c.requires.1.1.0)

pub overflow_add-first : goal.overflow_add-first
overflow_add-first c = omega (arith, sorted-row 1024 52 c.args.t.now c.requires.1.0 c.args.i c.requires.1.1.0)

pub offset_bounds-t-i : goal.offset_bounds-t-i
offset_bounds-t-i c = omega (arith, sorted-row 1024 52 c.args.t.now c.requires.1.0 c.args.i c.requires.1.1.0)

pub bounds-t-i : goal.bounds-t-i
bounds-t-i c = omega (arith, sorted-row 1024 52 c.args.t.now c.requires.1.0 c.args.i c.requires.1.1.0)

pub overflow_mul-second : goal.overflow_mul-second
overflow_mul-second c = omega (arith, sorted-row 1024 52 c.args.t.now c.requires.1.0 c.args.j c.requires.1.1.1)

pub overflow_add-second : goal.overflow_add-second
overflow_add-second c = omega (arith, sorted-row 1024 52 c.args.t.now c.requires.1.0 c.args.j c.requires.1.1.1)

pub offset_bounds-t-j : goal.offset_bounds-t-j
offset_bounds-t-j c = omega (arith, sorted-row 1024 52 c.args.t.now c.requires.1.0 c.args.j c.requires.1.1.1)

pub bounds-t-j : goal.bounds-t-j
bounds-t-j c = omega (arith, sorted-row 1024 52 c.args.t.now c.requires.1.0 c.args.j c.requires.1.1.1)

pub successors-followed-requires : goal.successors-followed-requires
successors-followed-requires c = (c.requires.1.0, (c.requires.1.1.1, after-few c.args.t.now c.requires.0 c.args.j c.requires.1.1.1))

pub copy-requires : goal.copy-requires
copy-requires c =
    let few : length c.successors-followed.result.now ≤ 16 = rw c.successors-followed.ensures (after-short c.args.t.now c.requires.0 c.args.j c.requires.1.1.1) in
    omega arith

pub slice_bounds-held-end : goal.slice_bounds-held-end
slice_bounds-held-end c =
    let few : length c.successors-followed.result.now ≤ 16 = rw c.successors-followed.ensures (after-short c.args.t.now c.requires.0 c.args.j c.requires.1.1.1) in
    omega (arith, c.copy.auto.to)

pub slice_bounds-redraw_lanes-end : goal.slice_bounds-redraw_lanes-end
slice_bounds-redraw_lanes-end c =
    let few : length c.successors-followed.result.now ≤ 16 = rw c.successors-followed.ensures (after-short c.args.t.now c.requires.0 c.args.j c.requires.1.1.1) in
    sym (length-take-le (length c.successors-followed.result.now) c.copy.new.to (omega (arith, c.copy.auto.to)))

pub redraw_lanes-requires : goal.redraw_lanes-requires
redraw_lanes-requires c =
    let few : length c.successors-followed.result.now ≤ 16 = rw c.successors-followed.ensures (after-short c.args.t.now c.requires.0 c.args.j c.requires.1.1.1) in
    (c.requires.0, omega (arith, length-take-le (length c.successors-followed.result.now) c.copy.new.to (omega (arith, c.copy.auto.to))))

pub returns : goal.returns
returns c =
    let few : length c.successors-followed.result.now ≤ 16 = rw c.successors-followed.ensures (after-short c.args.t.now c.requires.0 c.args.j c.requires.1.1.1) in
    followed (replicate 16 0) c.successors-followed.result.now c.copy.new.to c.copy.ensures few c.args.t.now c.args.i c.args.j c.args.taken c.successors-followed.ensures c.redraw_lanes.new.t c.redraw_lanes.ensures
