-- `merge_points::row_points` meets its contract. Assumes nothing.
use mathlib.Core.Path.{sym, ◌∙◌}
use Rattle.merge_points.proofs.row_points.Goals as goal

pub returns-then-contains : goal.returns-then-contains
returns-then-contains c = rw (sym c.contains.ensures ∙ c.if-contains.true)

pub returns-then-joins : goal.returns-then-joins
returns-then-joins c = rw (sym c.contains.ensures ∙ c.if-contains.false, sym c.joins.ensures ∙ c.if-joins.true, c.side_points.ensures)

pub returns-then-joins-2 : goal.returns-then-joins-2
returns-then-joins-2 c = rw (sym c.contains.ensures ∙ c.if-contains.false, sym c.joins.ensures ∙ c.if-joins.false, sym c.joins-2.ensures ∙ c.if-joins-2.true, c.side_points-then-joins-2.ensures)

pub returns : goal.returns
returns c = rw (sym c.contains.ensures ∙ c.if-contains.false, sym c.joins.ensures ∙ c.if-joins.false, sym c.joins-2.ensures ∙ c.if-joins-2.false)
