use borrow.Author.Rules.{rules}
use mathlib.Core.Path.{ap}
use borrow.Author.Tests.{eq-eqb, ne_eqb}
use Rattle.entities.specs.declared.SplitAt.TheVariants.{Fraction, Station}
use Rattle.words.proofs.split_at_of.Goals as goal

-- src/lib.rt:66:9
pub returns-then-kind-eq0 : goal.returns-then-kind-eq0
returns-then-kind-eq0 c = rw (eq-eqb _ _ c.if-kind-eq0.true) (ap Fraction c.double-place.ensures)

-- src/lib.rt:61:1
pub returns : goal.returns
returns c = rw (ne_eqb _ _ c.if-kind-eq0.false) (ap Station c.double-place.ensures)
