-- `polyline::put_point` meets its contract: three stores are one list written over the part. Assumes nothing.
use native.Mathlib.Omega.{arith}
use lib.ListN.{length-set}
use Rattle.polyline.specs.Polyline.{flat}
use Rattle.lists.proofs.Rows.{over-three}
use Rattle.polyline.proofs.put_point.Goals as goal

pub bounds-out-at-2 : goal.bounds-out-at-2
bounds-out-at-2 c = simp length-set (omega arith)

pub bounds-out-at-3 : goal.bounds-out-at-3
bounds-out-at-3 c = simp length-set (omega arith)

pub returns : goal.returns
unfolding flat
returns c = over-three c.args.out.now _ _ _ _ c.requires
