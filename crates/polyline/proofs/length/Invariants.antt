-- `polyline::length` meets its contract: the length is what is left added to the sum so far and the segment that is begun. Assumes nothing.
use Prim.Native.Nat.{◌≤◌}
use mathlib.Core.Path.{◌≡◌}
use lib.Ieee.{Float}
use lib.ListN.{drop}
use Rattle.root.specs.Begun.{Unfinished}
use Rattle.geometry.specs.Float.{◌+ᶠ◌}
use Rattle.polyline.specs.Polyline.{points, line_length, length_from}
use Rattle.polyline.proofs.length.Given as goal

abbrev pub invariant-loop-i : goal.invariant-loop-i
invariant-loop-i l =
    (l.i ≤ l.n) × ((s : Float) × Unfinished s l.segment.a l.segment.top l.segment.guess × (line_length (points l.line) ≡ length_from (l.sum +ᶠ s) l.p (drop l.i (points l.line))))
