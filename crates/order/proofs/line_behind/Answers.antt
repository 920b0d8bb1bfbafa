-- `order::line_behind` meets its contract: of a line with no point, of one that is drawn, of one that lies in order, and of one that does not. Assumes nothing.
use native.Mathlib.Omega.{arith}
use mathlib.Core.Path.{◌≡◌, sym, ◌∙◌}
use mathlib.Core.Bool.{true, false, ◌&&◌}
use Prim.Native.Nat.{◌+◌}
use lib.Dec.{leb}
use Rattle.tables.specs.Formed.{Span}
use Rattle.apart.proofs.Marks.{within_end}
use Rattle.order.proofs.Behind.{behind-none, behind-drawn, behind_test}
use Rattle.order.proofs.line_behind.Goals as goal
use Rattle.order.proofs.line_behind.Lts as lts
use Rattle.order.proofs.line_behind.Reads as reads
use Rattle.order.proofs.line_behind.Tie as tie

abbrev AtStart : Type 0
AtStart = lts.Start tie.the-claims reads.Pre reads.Post

abbrev line : AtStart → Span
line s = record { start = s.args.start; size = s.args.size }

pub returns-then-size-eq0 : goal.returns-then-size-eq0
returns-then-size-eq0 c = let a = c.args in sym (behind-none a.reach a.from (line c.before) c.if-size-eq0.true)

pub returns-then-reach-begin : goal.returns-then-reach-begin
returns-then-reach-begin c = let a = c.args in sym (behind-drawn a.reach a.from (line c.before.before) c.if-size-eq0.false c.if-reach-begin.true)

pub overflow_add-end : goal.overflow_add-end
overflow_add-end c = omega (arith, within_end 131072 (line c.before.before) c.requires.1 c.if-size-eq0.false)

pub returns-then-both : goal.returns-then-both
returns-then-both c =
    let a = c.args in
    let e : (leb a.from a.start && leb (a.start + a.size) a.reach) ≡ true = sym c.both.ensures ∙ c.if-both.true in
    sym (behind_test a.reach a.from (line c.before.before.before.before) c.if-size-eq0.false c.if-reach-begin.false ∙ rw e)

pub returns : goal.returns
returns c =
    let a = c.args in
    let e : (leb a.from a.start && leb (a.start + a.size) a.reach) ≡ false = sym c.both.ensures ∙ c.if-both.false in
    sym (behind_test a.reach a.from (line c.before.before.before.before) c.if-size-eq0.false c.if-reach-begin.false ∙ rw e (omega arith))
