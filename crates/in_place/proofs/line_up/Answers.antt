-- `in_place::line_up` meets its contract: of a line with no point, of one that is drawn, of one that lies before its place, and of one that does not. Assumes nothing.
use native.Mathlib.Omega.{arith}
use mathlib.Core.Path.{sym, ◌∙◌}
use Prim.Native.Nat.{◌/◌}
use lib.ListN.{length}
use Rattle.tables.specs.View.{part}
use Rattle.tables.specs.Formed.{Span}
use Rattle.in_place.proofs.Moves.{lies-drawn, up_none, up-drawn, up-stays, up-moved}
use Rattle.in_place.proofs.line_up.Goals as goal
use Rattle.in_place.proofs.line_up.Lts as lts
use Rattle.in_place.proofs.line_up.Reads as reads
use Rattle.in_place.proofs.line_up.Tie as tie

abbrev AtStart : Type 0
AtStart = lts.Start tie.the-claims reads.Pre reads.Post

abbrev line : AtStart → Span
line s = record { start = s.args.start; size = s.args.size }

pub returns-then-size-eq0 : goal.returns-then-size-eq0
returns-then-size-eq0 c = let a = c.args in sym (up_none a.reach a.at (line c.before.before.before.before) a.coordinates.now a.drawn.now c.if-size-eq0.true)

pub overflow_mul-from : goal.overflow_mul-from
overflow_mul-from c =
    let s = c in
    let l = lies-drawn s.args.reach (length s.args.drawn.now / 3) (record { start = s.args.start; size = s.args.size }) s.requires.0 c.if-size-eq0.false in
    omega arith

pub copy-requires : goal.copy-requires
copy-requires c =
    let s = c in
    let l = lies-drawn s.args.reach (length s.args.drawn.now / 3) (record { start = s.args.start; size = s.args.size }) s.requires.0 c.if-size-eq0.false in
    (omega arith, omega arith)

pub returns-then-reach-begin : goal.returns-then-reach-begin
unfolding part
returns-then-reach-begin c =
    let a = c.args in
    c.copy.ensures ∙ sym (up-drawn a.reach a.at (line c.before.before.before.before.before.before.before.before.before) a.coordinates.now a.drawn.now c.if-size-eq0.false c.if-reach-begin.true)

pub returns-then-begin-at : goal.returns-then-begin-at
unfolding part
returns-then-begin-at c =
    let a = c.args in
    c.shift_up.ensures ∙ sym (up-moved a.reach a.at (line c.before.before.before.before.before.before.before.before.before.before) a.coordinates.now a.drawn.now c.if-size-eq0.false c.if-reach-begin.false c.if-begin-at.true)

pub returns-else-begin-at : goal.returns-else-begin-at
returns-else-begin-at c = let a = c.args in sym (up-stays a.reach a.at (line c.before.before.before.before.before.before) a.coordinates.now a.drawn.now c.if-size-eq0.false c.if-reach-begin.false c.if-begin-at.false)
