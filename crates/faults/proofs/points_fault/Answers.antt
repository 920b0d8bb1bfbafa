-- `faults::points_fault` meets its contract. By the test. Assumes nothing.
use mathlib.Core.Path.{sym, ◌∙◌}
use Rattle.tables.specs.Formed.{all_clear}
use Rattle.apart.specs.Marks.{line_spans}
use Rattle.row_faults.specs.declared.Clause.TheVariants.{Points}
use Rattle.row_faults.specs.declared.Table.TheVariants.{Coordinate}
use Rattle.faults.proofs.Laws.{told-passed, told-failed}
use Rattle.faults.proofs.points_fault.Goals as goal

pub returns-then-lines_apart : goal.returns-then-lines_apart
returns-then-lines_apart c = told-passed Points Coordinate (all_clear (line_spans c.args.lanes.now c.args.boundaries.now c.args.stop_lines.now c.args.crosswalks.now)) (sym c.lines_apart.ensures ∙ c.if-lines_apart.true)

pub returns : goal.returns
returns c = c.told.ensures ∙ told-failed Points Coordinate (all_clear (line_spans c.args.lanes.now c.args.boundaries.now c.args.stop_lines.now c.args.crosswalks.now)) (sym c.lines_apart.ensures ∙ c.if-lines_apart.false)
