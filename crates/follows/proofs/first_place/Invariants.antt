-- `follows::first_place` meets its contract. The invariant: the first i ids are others, so the place is i on from that in the rest. Assumes nothing.
use mathlib.Core.Path.{◌≡◌, sym, ◌∙◌}
use Prim.Native.Nat.{◌+◌, ◌-◌, ◌≤◌}
use native.Mathlib.Omega.{arith}
use lib.ListN.{length, drop}
use Rattle.follows.specs.Following.{first_place}
use Rattle.follows.proofs.Places.{search-here, search-on, search-end}
use Rattle.follows.proofs.first_place.Given as goal

abbrev pub invariant-loop-i : goal.invariant-loop-i
invariant-loop-i l = (l.i ≤ length l.ids) × (first_place l.id l.ids ≡ l.i + first_place l.id (drop l.i l.ids))
