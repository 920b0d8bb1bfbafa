-- `in_place::line_down` meets its contract: of a line with no point, of one that is drawn, of one that lies behind its place, and of one that does not. Assumes nothing.
use native.Mathlib.Omega.{arith}
use mathlib.Core.Path.{sym, ◌∙◌}
use Rattle.tables.specs.View.{part}
use Rattle.tables.specs.Formed.{Span}
use Rattle.in_place.proofs.Moves.{lies-stored, down-none, down-drawn, down-stays, down-moved}
use Rattle.in_place.proofs.line_down.Goals as goal
use Rattle.in_place.proofs.line_down.Lts as lts
use Rattle.in_place.proofs.line_down.Reads as reads
use Rattle.in_place.proofs.line_down.Tie as tie

abbrev AtStart : Type 0
AtStart = lts.Start tie.the-claims reads.Pre reads.Post

abbrev line : AtStart → Span
line s = record { start = s.args.start; size = s.args.size }

pub returns-then-size-eq0 : goal.returns-then-size-eq0
returns-then-size-eq0 c = let a = c.args in sym (down-none a.reach a.at (line c.before.before.before) a.coordinates.now c.if-size-eq0.true)

pub returns-then-reach-begin : goal.returns-then-reach-begin
returns-then-reach-begin c = let a = c.args in sym (down-drawn a.reach a.at (line c.before.before.before.before) a.coordinates.now c.if-reach-begin.true)

pub overflow_mul-size : goal.overflow_mul-size
overflow_mul-size c = omega (arith, lies-stored c.args.reach 65536 (line c.before.before.before.before.before) c.requires.0 c.if-size-eq0.false c.if-reach-begin.false)

pub shift_down-requires : goal.shift_down-requires
shift_down-requires c =
    let l = lies-stored c.args.reach 65536 (line c.before.before.before.before.before) c.requires.0 c.if-size-eq0.false c.if-reach-begin.false in
    (omega arith, omega arith)

pub returns-then-at-begin : goal.returns-then-at-begin
unfolding part
returns-then-at-begin c =
    let a = c.args in
    c.shift_down.ensures ∙ sym (down-moved a.reach a.at (line c.before.before.before.before.before.before.before.before.before) a.coordinates.now c.if-size-eq0.false c.if-reach-begin.false c.if-at-begin.true)

pub returns-else-at-begin : goal.returns-else-at-begin
returns-else-at-begin c = let a = c.args in sym (down-stays a.reach a.at (line c.before.before.before.before.before) a.coordinates.now c.if-at-begin.false)
