-- `map::sound::largest_id` meets its contract. By the two special counters. Assumes nothing.
use native.Mathlib.Omega.{arith}
use borrow.Author.Tests.{eq-eqb, ne_eqb}
use Rattle.rules.specs.Sound.{last_counter}
use Rattle.row_tests.proofs.sound.largest_id.Goals as goal

pub returns-then-counter-eq18446744073709551615 : goal.returns-then-counter-eq18446744073709551615
returns-then-counter-eq18446744073709551615 c = rw (eq-eqb c.args.counter last_counter c.if-counter-eq18446744073709551615.true) c.if-counter-eq18446744073709551615.true

pub returns-then-counter-eq0 : goal.returns-then-counter-eq0
returns-then-counter-eq0 c = rw (ne_eqb c.args.counter last_counter c.if-counter-eq18446744073709551615.false) (omega arith)

pub returns : goal.returns
returns c = rw (ne_eqb c.args.counter last_counter c.if-counter-eq18446744073709551615.false) (omega arith)
