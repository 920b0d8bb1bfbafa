-- `split_lines::measure` meets its contract. The invariant: the lines of the chosen rows before row i are measured. Assumes nothing.
use mathlib.Core.Logic.{⊎_elim}
use Prim.Native.Nat.{◌-◌, ◌≤◌}
use native.Mathlib.Omega.{arith}
use Rattle.tables.specs.View.{word}
use Rattle.split_lines.proofs.Listed.{table-there, table-small, row_small, stored_here, Listed, list-begins, list-skip, list-room, list-more, list-ends}
use Rattle.split_lines.proofs.measure.Goals as goal

pub bounds-t-0 : goal.bounds-t-0
bounds-t-0 c = let a = c.args in let p = c.requires in omega (arith, table-there a.coordinates.now a.stride a.offset a.marked a.chosen.now a.t.now p.table)

pub loop-i-init : goal.loop-i-init
loop-i-init c = let a = c.args in let p = c.requires in (omega arith, list-begins a.coordinates.now a.stride a.offset a.marked a.chosen.now a.t.now p.table a.point a.from a.out.now)

pub bounds-chosen-i : goal.bounds-chosen-i
bounds-chosen-i c = let a = c.args in let p = c.requires in let t = c.loop-i in let l = c.loop-i-test.true in omega (arith, l, p.table.marks)

pub overflow_mul-i : goal.overflow_mul-i
overflow_mul-i c = let a = c.args in let p = c.requires in let t = c.loop-i in let l = c.loop-i-test.true in omega (arith, row_small a.coordinates.now a.stride a.offset a.marked a.chosen.now a.t.now p.table t.i l)

pub row_sizes-s-requires : goal.row_sizes-s-requires
row_sizes-s-requires c = let a = c.args in let p = c.requires in let t = c.loop-i in let l = c.loop-i-test.true in stored_here a.coordinates.now a.stride a.offset a.marked a.chosen.now a.t.now p.table t.i l

pub put_measure-at-requires : goal.put_measure-at-requires
put_measure-at-requires c = let a = c.args in let p = c.requires in let t = c.loop-i in let l = c.loop-i-test.true in (list-room a.coordinates.now a.stride a.offset a.marked a.chosen.now a.t.now p.table a.point a.from a.out.now t.i t.m t.at t.out t.invariant.1 l c.if-chosen-i.true p.room, (omega (arith, t.invariant.1.near, table-small a.coordinates.now a.stride a.offset a.marked a.chosen.now a.t.now p.table, p.near, l), c.row_sizes-s.ensures.1))

pub overflow_add-m : goal.overflow_add-m
overflow_add-m c = let a = c.args in let p = c.requires in let t = c.loop-i in let l = c.loop-i-test.true in omega (arith, t.invariant.1.few, table-small a.coordinates.now a.stride a.offset a.marked a.chosen.now a.t.now p.table, l)

pub loop-i-preserved : goal.loop-i-preserved
loop-i-preserved c =
    let a = c.args in let p = c.requires in let t = c.loop-i in let l = c.loop-i-test.true in
    elim c.if-chosen-i.branch [
      | goal.then-chosen-i s ↦ let w = list-more a.coordinates.now a.stride a.offset a.marked a.chosen.now a.t.now p.table a.point a.from a.out.now t.i t.m t.at t.out t.invariant.1 l s.if-chosen-i.true p.room s.row_sizes-s.result s.row_sizes-s.ensures s.put_measure-at.result s.put_measure-at.new.out s.put_measure-at.ensures s.put_measure-at.auto.out in (omega (arith, l), rw (s.out-is, s.at-is, s.m-is) w)
      | goal.else-chosen-i s ↦ let w = list-skip a.coordinates.now a.stride a.offset a.marked a.chosen.now a.t.now p.table a.point a.from a.out.now t.i t.m t.at t.out t.invariant.1 l s.if-chosen-i.false in (omega (arith, l), rw (s.out-is, s.at-is, s.m-is) w)
    ]

pub shape_of-out : goal.shape_of-out
shape_of-out c = c.loop-i.invariant.1.same

pub returns : goal.returns
returns c = let a = c.args in let p = c.requires in let t = c.loop-i in list-ends a.coordinates.now a.stride a.offset a.marked a.chosen.now a.t.now p.table a.point a.from a.out.now t.i t.m t.at t.out t.invariant.1 c.loop-i-test.false t.invariant.0
