-- `reach::line_reach` meets its contract: of a line with no point, of one that ends farther on, and of one that does not. Assumes nothing.
use native.Mathlib.Omega.{arith}
use Rattle.tables.specs.Formed.{Span}
use Rattle.apart.proofs.Marks.{within_end}
use Rattle.layout.proofs.Reach.{end_none, end_later, end_before}
use Rattle.reach.proofs.line_reach.Goals as goal
use Rattle.reach.proofs.line_reach.Lts as lts
use Rattle.reach.proofs.line_reach.Reads as reads

abbrev AtStart : Type 0
AtStart = lts.Start reads.Pre reads.Post

abbrev line : AtStart → Span
line s = record { start = s.args.start; size = s.args.size }

pub returns-then-size-eq0 : goal.returns-then-size-eq0
returns-then-size-eq0 c = end_none (line c.before) c.args.most c.if-size-eq0.true

pub overflow_add-end : goal.overflow_add-end
overflow_add-end c = omega (arith, within_end 65536 (line c.before) c.requires c.if-size-eq0.false)

pub returns-then-most-end : goal.returns-then-most-end
returns-then-most-end c = end_later (line c.before.before) c.args.most c.if-size-eq0.false c.if-most-end.true

pub returns : goal.returns
returns c = end_before (line c.before.before) c.args.most c.if-size-eq0.false c.if-most-end.false
