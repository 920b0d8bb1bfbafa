-- `stations::share` meets its contract: both counts are exact as floats. Assumes nothing.
use Prim.Native.Nat.{◌^◌}
use mathlib.Core.Path.{refl}
use native.Mathlib.Omega.{arith}
use lib.Dec.{le→leb}
use lib.Ieee.{in_float, prec}
use Rattle.polyline.specs.Polyline.{share}
use Rattle.stations.proofs.share.Goals as goal

pub int_to_float-result : goal.int_to_float-result
unfolding in_float prec
int_to_float-result c = le→leb c.args.i (2 ^ 53) (omega arith)

pub int_to_float-result-2 : goal.int_to_float-result-2
unfolding in_float prec
int_to_float-result-2 c = le→leb c.args.parts (2 ^ 53) (omega arith)

pub returns : goal.returns
unfolding share
returns c = refl
