-- `lookup::boundary_line` meets its contract: row j lies in the table, and its line in the store. Assumes nothing.
use mathlib.Core.Path.{◌∙◌}
use native.Mathlib.Omega.{arith}
use Rattle.lookup.proofs.Laws.{sorted-row, row-stored, row_line}
use Rattle.lookup.proofs.boundary_line.Goals as goal

pub overflow_mul-j : goal.overflow_mul-j
overflow_mul-j c = omega (arith, sorted-row 4096 5 c.args.boundaries.now c.requires.0 c.args.j c.requires.1.0)

pub overflow_add-j : goal.overflow_add-j
overflow_add-j c = omega (arith, sorted-row 4096 5 c.args.boundaries.now c.requires.0 c.args.j c.requires.1.0)

pub overflow_add-j-2 : goal.overflow_add-j-2
overflow_add-j-2 c = omega (arith, sorted-row 4096 5 c.args.boundaries.now c.requires.0 c.args.j c.requires.1.0)

pub line_of-requires : goal.line_of-requires
line_of-requires c = (omega (arith, sorted-row 4096 5 c.args.boundaries.now c.requires.0 c.args.j c.requires.1.0), row-stored 5 2 c.args.coordinates.now c.args.boundaries.now c.requires.1.1 c.args.j c.requires.1.0 (omega arith))

pub returns : goal.returns
returns c = c.line_of.ensures ∙ row_line 5 2 c.args.coordinates.now c.args.boundaries.now c.args.j (omega arith)
