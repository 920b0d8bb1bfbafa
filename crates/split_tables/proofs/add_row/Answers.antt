-- `split_tables::add_row` meets its contract: a first piece with an id of its own comes behind the last row, and the second piece behind it. Assumes nothing.
use native.Mathlib.Omega.{arith}
use mathlib.Core.Logic.{⊎_elim}
use mathlib.Core.Path.{◌∙◌}
use Prim.Native.Nat.{◌+◌, ◌*◌}
use Rattle.split_tables.proofs.Pieces.{line-near, first-new, begun-on, begun-off, begun-long, second-room, row-added}
use Rattle.split_tables.proofs.add_row.Goals as goal

pub add_boundary-requires : goal.add_boundary-requires
add_boundary-requires c = let a = c.args in first-new a.pieces.now a.lines.now a.j a.t.now a.x c.requires.1.1.1.1 c.if-first-pieces.true

pub overflow_add-start : goal.overflow_add-start
overflow_add-start c = let a = c.args in omega (arith, line-near a.lines.now c.requires.1.1.1.0 (a.j * 3) (omega (arith, c.requires.1.1.0)), line-near a.lines.now c.requires.1.1.1.0 (a.j * 3 + 1) (omega (arith, c.requires.1.1.0)))

pub add_boundary-requires-2 : goal.add_boundary-requires-2
add_boundary-requires-2 c = let a = c.args in second-room a.pieces.now a.lines.now a.j a.t.now a.x c.requires.1.1.1.1 c.if-first-pieces.t (⊎_elim (λ x. begun-on a.pieces.now a.lines.now a.j a.t.now a.x c.requires.1.1.1.1 c.if-first-pieces.t x.if-first-pieces.true (x.t-is ∙ x.add_boundary.ensures)) (λ x. begun-off a.pieces.now a.lines.now a.j a.t.now a.x c.requires.1.1.1.1 c.if-first-pieces.t x.if-first-pieces.false x.t-is) c.if-first-pieces.branch-raw)

pub shape_of-t : goal.shape_of-t
shape_of-t c = let a = c.args in omega (arith, c.add_boundary-2.auto.t, begun-long a.pieces.now a.lines.now a.j a.t.now a.x c.requires.1.1.1.1 c.if-first-pieces.t (⊎_elim (λ x. begun-on a.pieces.now a.lines.now a.j a.t.now a.x c.requires.1.1.1.1 c.if-first-pieces.t x.if-first-pieces.true (x.t-is ∙ x.add_boundary.ensures)) (λ x. begun-off a.pieces.now a.lines.now a.j a.t.now a.x c.requires.1.1.1.1 c.if-first-pieces.t x.if-first-pieces.false x.t-is) c.if-first-pieces.branch-raw))

pub returns : goal.returns
returns c = let a = c.args in row-added a.pieces.now a.lines.now a.j a.t.now a.x c.requires.1.1.1.1 c.if-first-pieces.t (⊎_elim (λ x. begun-on a.pieces.now a.lines.now a.j a.t.now a.x c.requires.1.1.1.1 c.if-first-pieces.t x.if-first-pieces.true (x.t-is ∙ x.add_boundary.ensures)) (λ x. begun-off a.pieces.now a.lines.now a.j a.t.now a.x c.requires.1.1.1.1 c.if-first-pieces.t x.if-first-pieces.false x.t-is) c.if-first-pieces.branch-raw) c.add_boundary-2.new.t c.add_boundary-2.ensures
