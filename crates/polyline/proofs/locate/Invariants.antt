-- `polyline::locate` meets its contract: the place is the place on what is left. Assumes nothing.
use Prim.Native.Nat.{◌+◌, ◌≤◌}
use mathlib.Core.Path.{◌≡◌}
use lib.ListN.{drop}
use Rattle.polyline.specs.Polyline.{points, locate, locate_from}
use Rattle.polyline.proofs.locate.Given as goal

abbrev pub invariant-loop-i : goal.invariant-loop-i
invariant-loop-i l = (l.i + 1 ≤ l.n) × (locate (points l.line) l.station ≡ locate_from l.i l.at l.station l.p (drop (l.i + 1) (points l.line)))
