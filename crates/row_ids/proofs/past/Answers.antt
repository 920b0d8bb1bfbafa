-- `row_ids::past` meets its contract. Assumes nothing.
use borrow.Author.Tests.{lt-ltb, le-ltb}
use native.Mathlib.Omega.{arith}
use Rattle.row_ids.proofs.past.Goals as goal

pub returns-then-key-id : goal.returns-then-key-id
returns-then-key-id c = rw (lt-ltb c.args.key c.args.id c.if-key-id.true)

pub returns : goal.returns
returns c = rw (le-ltb c.args.key c.args.id (omega (arith, c.if-key-id.false)))
