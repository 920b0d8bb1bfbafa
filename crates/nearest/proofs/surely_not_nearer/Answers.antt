-- `nearest::surely_not_nearer` meets its contract: a root keeps the order. Assumes nothing.
use mathlib.Core.Path.{sym, subst}
use mathlib.Core.Bool.{true≢false}
use lib.Dec.{T}
use Rattle.geometry.specs.Float.{epsilon}
use Rattle.nearest.specs.Square.{surely_not_nearer}
use Rattle.nearest.proofs.Squares.{farther}
use Rattle.nearest.proofs.surely_not_nearer.Goals as goal

pub returns-then-least : goal.returns-then-least
unfolding surely_not_nearer epsilon
returns-then-least c = (rw (c.if-best.true, c.if-least.true), λ t e. farther c.args.best c.args.least c.args.next (subst T (sym c.well_formed.1.0.1) tt) (subst T (sym c.well_formed.1.1.0.1) tt) e c.if-best.true c.if-least.true t)

pub returns-else-least : goal.returns-else-least
unfolding surely_not_nearer epsilon
returns-else-least c = (rw (c.if-best.true, c.if-least.false), λ t e. absurd (true≢false (sym t)))

pub returns-else-best : goal.returns-else-best
unfolding surely_not_nearer epsilon
returns-else-best c = (rw c.if-best.false, λ t e. absurd (true≢false (sym t)))
