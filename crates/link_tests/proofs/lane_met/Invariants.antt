-- `link_tests::lane_met` meets its contract. The invariant: the cursors count the links before k, and the lane's links are met where those from k on are. The measure
-- is how many are left. Assumes nothing.
use mathlib.Core.Path.{◌≡◌}
use Prim.Native.Nat.{◌≤◌}
use lib.ListN.{length, drop}
use Rattle.lists.specs.Every.{all}
use Rattle.tables.specs.View.{ids_at}
use Rattle.row_tests.specs.Returned.{lane_at}
use Rattle.link_tests.specs.Met.{cursors, link_met, lane_met}
use Rattle.link_tests.proofs.lane_met.Given as goal

abbrev pub invariant-loop-k : goal.invariant-loop-k
invariant-loop-k l = (l.k ≤ l.count) × ((length l.met ≡ length l.initial.met) × ((l.met ≡ cursors l.t l.i l.k) × (lane_met l.t l.i ≡ all (link_met l.t l.i) (drop l.k (ids_at 35 (lane_at l.t l.i))))))
