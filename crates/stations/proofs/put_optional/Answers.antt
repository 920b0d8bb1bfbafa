-- `stations::put_optional` meets its contract. Assumes nothing.
use mathlib.Core.Path.{refl, sym}
use native.Mathlib.Omega.{arith}
use Rattle.polyline.proofs.Points.{over_none}
use Rattle.stations.proofs.put_optional.Goals as goal

pub returns-in_default : goal.returns-in_default
returns-in_default c = rw c.in_default.is (refl, sym (over_none c.args.out.now c.args.i))

pub put_point-requires : goal.put_point-requires
put_point-requires c = let h = rw c.in-Some.is at c.requires in omega arith

pub returns : goal.returns
returns c = rw c.in-Some.is (refl, c.put_point.ensures)
