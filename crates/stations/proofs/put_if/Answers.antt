-- `stations::put_if` meets its contract. Assumes nothing.
use mathlib.Core.Path.{refl, sym}
use native.Mathlib.Omega.{arith}
use Rattle.polyline.proofs.Points.{over_none}
use Rattle.stations.proofs.put_if.Goals as goal

pub put_point-requires : goal.put_point-requires
put_point-requires c = let h = rw c.if-asked.true at c.requires in omega arith

pub returns-then-asked : goal.returns-then-asked
returns-then-asked c = rw c.if-asked.true (refl, c.put_point.ensures)

pub returns : goal.returns
returns c = rw c.if-asked.false (refl, sym (over_none c.args.out.now c.args.i))
