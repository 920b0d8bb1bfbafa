-- `apart::take_line` meets its contract: of a line with no point, of one that finds its points unmarked, and of one that does not. Assumes nothing.
use mathlib.Core.Path.{sym, ◌∙◌}
use lib.ListN.{length}
use Rattle.tables.specs.Formed.{Span}
use Rattle.apart.proofs.Marks.{within_end, take_none, take-free, take-used}
use Rattle.apart.proofs.take_line.Goals as goal
use Rattle.apart.proofs.take_line.Lts as lts
use Rattle.apart.proofs.take_line.Reads as reads
use Rattle.apart.proofs.take_line.Tie as tie

abbrev AtStart : Type 0
AtStart = lts.Start tie.the-claims reads.Pre reads.Post

abbrev line : AtStart → Span
line s = record { start = s.args.start; size = s.args.size }

pub returns-then-size-eq0 : goal.returns-then-size-eq0
returns-then-size-eq0 c = take_none c.args.marks.now (line c.before.before.before) c.if-size-eq0.true

pub unmarked-requires : goal.unmarked-requires
unmarked-requires c = within_end (length c.args.marks.now) (line c.before.before) c.requires c.if-size-eq0.false

pub mark_line-requires : goal.mark_line-requires
mark_line-requires c = within_end (length c.args.marks.now) (line c.before.before.before.before.before) c.requires c.if-size-eq0.false

pub returns-then-unmarked : goal.returns-then-unmarked
returns-then-unmarked c = take-free c.args.marks.now c.mark_line.new.marks (line c.before.before.before.before.before.before.before.before.before) (sym c.unmarked.ensures ∙ c.if-unmarked.true) c.mark_line.ensures

pub returns : goal.returns
returns c = take-used c.args.marks.now (line c.before.before.before.before) (sym c.unmarked.ensures ∙ c.if-unmarked.false)
