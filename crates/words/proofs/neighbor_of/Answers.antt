use Rattle.std.specs.Prelude.{Some}
use borrow.Author.Rules.{rules}
use mathlib.Core.Path.{ap}
use borrow.Author.Tests.{eq-eqb, ne_eqb}
use Rattle.words.proofs.neighbor_of.Goals as goal

-- src/lib.rt:84:9
pub returns-then-mark-eq0 : goal.returns-then-mark-eq0
returns-then-mark-eq0 c = rw (eq-eqb _ _ c.if-mark-eq0.true)

-- src/lib.rt:87:9
pub returns-then-mark-eq1 : goal.returns-then-mark-eq1
returns-then-mark-eq1 c = rw (ne_eqb _ _ c.if-mark-eq0.false, eq-eqb _ _ c.if-mark-eq1.true) (ap Some c.same.ensures)

-- src/lib.rt:80:1
pub returns : goal.returns
returns c = rw (ne_eqb _ _ c.if-mark-eq0.false, ne_eqb _ _ c.if-mark-eq1.false) (ap Some c.opposite.ensures)
