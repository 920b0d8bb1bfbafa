-- `split_lines::draw` meets its contract. The invariant: the lines of the chosen rows before row i are drawn. Assumes nothing.
use mathlib.Core.Logic.{⊎_elim}
use Prim.Native.Nat.{◌-◌, ◌≤◌}
use native.Mathlib.Omega.{arith}
use Rattle.tables.specs.View.{word}
use Rattle.split_lines.proofs.Listed.{table-there, table-small, row_small, stored_here, Drawn, draw_begins, draw_skip, draw_room, draw_more, draw_ends}
use Rattle.split_lines.proofs.draw.Goals as goal

pub bounds-t-0 : goal.bounds-t-0
bounds-t-0 c = let a = c.args in let p = c.requires in omega (arith, table-there a.coordinates.now a.stride a.offset a.marked a.chosen.now a.t.now p.table)

pub loop-i-init : goal.loop-i-init
loop-i-init c = let a = c.args in let p = c.requires in (omega arith, draw_begins a.coordinates.now a.stride a.offset a.marked a.chosen.now a.t.now p.table a.point a.from a.out.now)

pub bounds-chosen-i : goal.bounds-chosen-i
bounds-chosen-i c = let a = c.args in let p = c.requires in let t = c.loop-i in let l = c.loop-i-test.true in omega (arith, l, p.table.marks)

pub overflow_mul-i : goal.overflow_mul-i
overflow_mul-i c = let a = c.args in let p = c.requires in let t = c.loop-i in let l = c.loop-i-test.true in omega (arith, row_small a.coordinates.now a.stride a.offset a.marked a.chosen.now a.t.now p.table t.i l)

pub draw_row-at-requires : goal.draw_row-at-requires
draw_row-at-requires c = let a = c.args in let p = c.requires in let t = c.loop-i in let l = c.loop-i-test.true in (stored_here a.coordinates.now a.stride a.offset a.marked a.chosen.now a.t.now p.table t.i l, draw_room a.coordinates.now a.stride a.offset a.marked a.chosen.now a.t.now p.table a.point a.from a.out.now t.i t.at t.out t.invariant.1 l c.if-chosen-i.true p.room)

pub loop-i-preserved : goal.loop-i-preserved
loop-i-preserved c =
    let a = c.args in let p = c.requires in let t = c.loop-i in let l = c.loop-i-test.true in
    elim c.if-chosen-i.branch [
      | goal.then-chosen-i s ↦ let w = draw_more a.coordinates.now a.stride a.offset a.marked a.chosen.now a.t.now p.table a.point a.from a.out.now t.i t.at t.out t.invariant.1 l s.if-chosen-i.true p.room s.draw_row-at.result s.draw_row-at.new.out s.draw_row-at.ensures s.draw_row-at.auto.out in (omega (arith, l), rw (s.out-is, s.at-is) w)
      | goal.else-chosen-i s ↦ let w = draw_skip a.coordinates.now a.stride a.offset a.marked a.chosen.now a.t.now p.table a.point a.from a.out.now t.i t.at t.out t.invariant.1 l s.if-chosen-i.false in (omega (arith, l), rw (s.out-is, s.at-is) w)
    ]

pub shape_of-out : goal.shape_of-out
shape_of-out c = c.loop-i.invariant.1.same

pub returns : goal.returns
returns c = let a = c.args in let p = c.requires in let t = c.loop-i in draw_ends a.coordinates.now a.stride a.offset a.marked a.chosen.now a.t.now p.table a.point a.from a.out.now t.i t.at t.out t.invariant.1 c.loop-i-test.false
