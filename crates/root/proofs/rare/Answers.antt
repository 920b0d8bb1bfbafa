-- `root::rare` meets its contract, by the cases of its tests. Assumes nothing.
use Rattle.std.proofs.Common.{T, sym, subst, rules}
use Rattle.root.proofs.Signs.{root_infinity, root-zero, no-root}
use Rattle.root.proofs.rare.Goals as goal

pub returns-then-x : goal.returns-then-x
returns-then-x c = root_infinity c.args.x (subst T (sym c.well_formed.0.1) tt) c.if-x.true c.if-x-2.false

pub returns-then-x-3 : goal.returns-then-x-3
returns-then-x-3 c = sym (root-zero c.args.x c.if-x-3.true)

pub returns : goal.returns
returns c = no-root c.args.x c.if-x.false c.if-x-3.false
