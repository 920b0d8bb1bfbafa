-- `find::find_row` meets its contract. Assumes nothing.
use mathlib.Core.Path.{sym}
use native.Mathlib.Omega.{arith}
use Rattle.lists.specs.Rows.{keys}
use Rattle.lists.proofs.Rows.{length-keys, row-none}
use Rattle.find.proofs.find_row.Goals as goal

pub returns-then-n-eq0 : goal.returns-then-n-eq0
returns-then-n-eq0 c = let m = length-keys c.args.s c.args.n c.args.rows.now in sym (row-none c.args.id (keys c.args.s c.args.n c.args.rows.now) (λ k l e. omega (arith, c.if-n-eq0.true)))

pub find_among-requires : goal.find_among-requires
find_among-requires c = let m = length-keys c.args.s c.args.n c.args.rows.now in (c.requires.0, (c.requires.1.0, (c.requires.1.1, (omega (arith, c.if-n-eq0.false), (omega arith, (λ k l. omega arith, λ k l h. omega arith))))))
