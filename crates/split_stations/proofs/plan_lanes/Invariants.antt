-- `split_stations::plan_lanes` meets its contract. The invariant: each marked lane before row j has a station, and ids and stations are written. Assumes
-- nothing.
use mathlib.Core.Path.{◌≡◌, refl, sym, ap, ◌∙◌}
use mathlib.Core.Logic.{⊎_elim}
use Prim.Native.Nat.{◌-◌, ◌≤◌, ◌<◌}
use native.Mathlib.Omega.{arith}
use borrow.Author.Rules.{rules}
use lib.ListN.{length, length-set}
use Rattle.tables.specs.View.{word}
use Rattle.lookup.specs.Lookup.{row_at}
use Rattle.lookup.proofs.Laws.{sorted-row, sorted-room}
use Rattle.split_plan.specs.Placing.{row_station}
use Rattle.split_plan.proofs.Turns.{Written, written_none, at_told, refused-told, turn-none, turn_one, turn-stops, turn-ends}
use Rattle.split_stations.proofs.plan_lanes.Given as goal

abbrev pub invariant-loop-j : goal.invariant-loop-j
invariant-loop-j l = (l.j ≤ word 0 l.map.lanes.now) × ((l.count ≤ l.j) × ((length l.cut ≡ length l.initial.cut) × ((length l.stations ≡ length l.initial.stations) × Written (row_station l.piece l.map.coordinates.now l.map.boundaries.now l.own l.place) l.seen l.map.lanes.now l.initial.cut l.initial.stations l.cut l.stations l.count l.j)))
