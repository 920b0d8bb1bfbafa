-- `root::guess::factor` meets its contract. Assumes nothing.
use Rattle.std.proofs.Common.{eq-eqb, ne_eqb}
use Rattle.root.specs.Guess.{factor_of}
use Rattle.root.proofs.guess.factor.Goals as goal

pub returns-then-odd-eq0 : goal.returns-then-odd-eq0
unfolding factor_of
returns-then-odd-eq0 c = rw (eq-eqb c.args.odd 0 c.if-odd-eq0.true)

pub returns-else-odd-eq0 : goal.returns-else-odd-eq0
unfolding factor_of
returns-else-odd-eq0 c = rw (ne_eqb c.args.odd 0 c.if-odd-eq0.false)
