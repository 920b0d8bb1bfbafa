-- `job_net::list_ids` meets its contract: of the first i rows the ids that are picked are listed, and the rows passed in the other table are below the next id.
-- Assumes nothing.
use Prim.Native.Nat.{◌+◌, ◌*◌}
use native.Mathlib.Omega.{arith}
use lib.ListN.{take, get_or}
use Rattle.job_net.specs.Net.{table_ids, picked_in}
use Rattle.job_net.proofs.Listing.{listing_begins, picked_none, picked_more, picked_all, table-some, ids-many, id-at, id-there, walk-may, walk-length, walk-room, walk-finds-id, walk-lists, walk-listed}
use Rattle.job_net.proofs.list_ids.Goals as goal

pub bounds-table-0 : goal.bounds-table-0
bounds-table-0 c =
    let a = c.args in
    let p = c.requires in
    omega (arith, table-some a.s p.0 a.table.now p.1.0)

pub bounds-other-0 : goal.bounds-other-0
bounds-other-0 c =
    let a = c.args in
    let p = c.requires in
    omega (arith, table-some a.s p.0 a.other.now p.1.1.0)

pub loop-i-init : goal.loop-i-init
loop-i-init c =
    let a = c.args in
    let p = c.requires in
    listing_begins (table_ids a.s a.table.now) (table_ids a.s a.other.now) (λ n. picked_in a.kept (table_ids a.s a.other.now) a.marks.now (take n (table_ids a.s a.table.now))) a.kind a.at a.out.now (picked_none (table_ids a.s a.other.now) a.kept a.marks.now (table_ids a.s a.table.now))

pub overflow_mul-id : goal.overflow_mul-id
overflow_mul-id c =
    let a = c.args in
    let p = c.requires in
    omega (arith, id-there a.s p.0 a.table.now p.1.0 c.loop-i.i c.loop-i-test.true)

pub overflow_add-id : goal.overflow_add-id
overflow_add-id c =
    let a = c.args in
    let p = c.requires in
    omega (arith, id-there a.s p.0 a.table.now p.1.0 c.loop-i.i c.loop-i-test.true)

pub offset_bounds-table-i : goal.offset_bounds-table-i
offset_bounds-table-i c =
    let a = c.args in
    let p = c.requires in
    omega (arith, id-there a.s p.0 a.table.now p.1.0 c.loop-i.i c.loop-i-test.true)

pub bounds-table-i : goal.bounds-table-i
bounds-table-i c =
    let a = c.args in
    let p = c.requires in
    omega (arith, id-there a.s p.0 a.table.now p.1.0 c.loop-i.i c.loop-i-test.true)

pub slice_bounds-skip-count : goal.slice_bounds-skip-count
slice_bounds-skip-count c =
    let a = c.args in
    let p = c.requires in
    omega (arith, table-some a.s p.0 a.other.now p.1.1.0)

pub slice_bounds-skip-start : goal.slice_bounds-skip-start
slice_bounds-skip-start c =
    let a = c.args in
    let p = c.requires in
    omega (arith, table-some a.s p.0 a.other.now p.1.1.0)

pub skip-j-requires : goal.skip-j-requires
skip-j-requires c =
    let a = c.args in
    let p = c.requires in
    let l = c.loop-i in
    walk-may a.s p.0 a.table.now a.other.now p.1.0 p.1.1.0 (λ n. picked_in a.kept (table_ids a.s a.other.now) a.marks.now (take n (table_ids a.s a.table.now))) a.kind a.at a.out.now p.1.1.1.1 l.out l.i l.j l.k l.invariant

pub slice_bounds-stands_at-count : goal.slice_bounds-stands_at-count
slice_bounds-stands_at-count c =
    let a = c.args in
    let p = c.requires in
    omega (arith, table-some a.s p.0 a.other.now p.1.1.0)

pub slice_bounds-stands_at-start : goal.slice_bounds-stands_at-start
slice_bounds-stands_at-start c =
    let a = c.args in
    let p = c.requires in
    omega (arith, table-some a.s p.0 a.other.now p.1.1.0)

pub stands_at-stands-requires : goal.stands_at-stands-requires
stands_at-stands-requires c =
    let a = c.args in
    let p = c.requires in
    let l = c.loop-i in
    let w = walk-may a.s p.0 a.table.now a.other.now p.1.0 p.1.1.0 (λ n. picked_in a.kept (table_ids a.s a.other.now) a.marks.now (take n (table_ids a.s a.table.now))) a.kind a.at a.out.now p.1.1.1.1 l.out l.i l.j l.k l.invariant in
    (w.0, w.1.0)

pub bounds-marks-i : goal.bounds-marks-i
bounds-marks-i c = omega (arith, c.loop-i-test.true, c.requires.1.1.1.0)

pub put_where-k-requires : goal.put_where-k-requires
put_where-k-requires c =
    let a = c.args in
    let p = c.requires in
    let l = c.loop-i in
    walk-room a.s p.0 a.table.now a.other.now p.1.0 p.1.1.0 (λ n. picked_in a.kept (table_ids a.s a.other.now) a.marks.now (take n (table_ids a.s a.table.now))) a.kind a.at a.out.now p.1.1.1.1 l.out l.i l.j l.k l.invariant c.loop-i-test.true c.picked.result _

pub loop-i-preserved : goal.loop-i-preserved
loop-i-preserved c =
    let a = c.args in
    let p = c.requires in
    let l = c.loop-i in
    let found = walk-finds-id a.s p.0 a.table.now a.other.now p.1.0 p.1.1.0 (λ n. picked_in a.kept (table_ids a.s a.other.now) a.marks.now (take n (table_ids a.s a.table.now))) a.kind a.at a.out.now p.1.1.1.1 l.out l.i l.j l.k l.invariant c.loop-i-test.true c.skip-j.result c.skip-j.ensures c.stands_at-stands.result c.stands_at-stands.ensures in
    let more = picked_more (table_ids a.s a.other.now) a.kept a.marks.now (table_ids a.s a.table.now) l.i (omega (arith, c.loop-i-test.true, ids-many a.s p.0 a.table.now p.1.0)) (get_or a.table.now (1 + l.i * a.s) 0) (id-at a.s p.0 a.table.now p.1.0 l.i c.loop-i-test.true) c.stands_at-stands.result found c.picked.result c.picked.ensures in
    walk-lists a.s p.0 a.table.now a.other.now p.1.0 p.1.1.0 (λ n. picked_in a.kept (table_ids a.s a.other.now) a.marks.now (take n (table_ids a.s a.table.now))) a.kind a.at a.out.now p.1.1.1.1 l.out l.i l.j l.k l.invariant c.loop-i-test.true c.skip-j.result c.skip-j.ensures c.picked.result more c.put_where-k.new.out c.put_where-k.result c.put_where-k.ensures.0 c.put_where-k.ensures.1

pub shape_of-out : goal.shape_of-out
shape_of-out c =
    let a = c.args in
    let p = c.requires in
    let l = c.loop-i in
    walk-length a.s p.0 a.table.now a.other.now p.1.0 p.1.1.0 (λ n. picked_in a.kept (table_ids a.s a.other.now) a.marks.now (take n (table_ids a.s a.table.now))) a.kind a.at a.out.now p.1.1.1.1 l.out l.i l.j l.k l.invariant

pub returns : goal.returns
returns c =
    let a = c.args in
    let p = c.requires in
    let l = c.loop-i in
    walk-listed a.s p.0 a.table.now a.other.now p.1.0 p.1.1.0 (λ n. picked_in a.kept (table_ids a.s a.other.now) a.marks.now (take n (table_ids a.s a.table.now))) a.kind a.at a.out.now p.1.1.1.1 l.out l.i l.j l.k l.invariant c.loop-i-test.false (picked_in a.kept (table_ids a.s a.other.now) a.marks.now (table_ids a.s a.table.now)) (picked_all (table_ids a.s a.other.now) a.kept a.marks.now (table_ids a.s a.table.now))
