-- `split_stations::plan_lanes` meets its contract. The invariant: each marked lane before row j has a station, and ids and stations are written.
use mathlib.Core.Path.{◌≡◌, refl, sym, ap, ◌∙◌}
use mathlib.Core.Logic.{⊎_elim}
use Prim.Native.Nat.{◌-◌, ◌≤◌, ◌<◌}
use native.Mathlib.Omega.{arith}
use borrow.Author.Rules.{rules}
use lib.ListN.{length, length-set}
use Rattle.tables.specs.View.{word}
use Rattle.lookup.specs.Lookup.{row_at}
use Rattle.lookup.proofs.Laws.{sorted-row, sorted-room}
use Rattle.split_plan.specs.Placing.{row_station}
use Rattle.split_plan.proofs.Turns.{Written, written_none, at_told, refused-told, turn-none, turn_one, turn-stops, turn-ends}
use Rattle.split_stations.proofs.plan_lanes.Goals as goal

pub bounds-map-0 : goal.bounds-map-0
bounds-map-0 c = omega (arith, sorted-room 1024 52 c.args.map.lanes.now c.args.map.drawable.lanes_are_sorted)

pub loop-j-init : goal.loop-j-init
loop-j-init c = (omega arith, (omega arith, (refl, (refl, written_none (row_station c.args.piece c.args.map.coordinates.now c.args.map.boundaries.now c.args.own c.args.place) c.args.seen.now c.args.map.lanes.now c.args.cut.now c.args.stations.now))))

pub bounds-seen-j : goal.bounds-seen-j
bounds-seen-j c = omega arith

pub lane_station-requires : goal.lane_station-requires
lane_station-requires c = c.loop-j-test.true

pub shape_of-cut-in_err-station : goal.shape_of-cut-in_err-station
shape_of-cut-in_err-station c = c.loop-j.invariant.1.1.0

pub shape_of-stations-in_err-station : goal.shape_of-stations-in_err-station
shape_of-stations-in_err-station c = c.loop-j.invariant.1.1.1.0

pub returns-in_err-station : goal.returns-in_err-station
returns-in_err-station c =
    let stops = turn-stops (row_station c.args.piece c.args.map.coordinates.now c.args.map.boundaries.now c.args.own c.args.place) c.args.seen.now c.args.map.lanes.now c.args.cut.now c.args.stations.now c.loop-j.cut c.loop-j.stations c.loop-j.count c.loop-j.j c.loop-j.invariant.1.1.1.1 c.loop-j-test.true c.requires.0 c.if-seen-j.true _ (refused-told (row_station c.args.piece c.args.map.coordinates.now c.args.map.boundaries.now c.args.own c.args.place (row_at 52 c.args.map.lanes.now c.loop-j.j)) _ (sym c.in_err-station.was ∙ c.lane_station.ensures)) in
    search rules

pub overflow_mul-cut : goal.overflow_mul-cut
overflow_mul-cut c = omega (arith, sorted-row 1024 52 c.args.map.lanes.now c.args.map.drawable.lanes_are_sorted c.loop-j.j c.loop-j-test.true)

pub overflow_add-cut : goal.overflow_add-cut
overflow_add-cut c = omega (arith, sorted-row 1024 52 c.args.map.lanes.now c.args.map.drawable.lanes_are_sorted c.loop-j.j c.loop-j-test.true)

pub offset_bounds-map-j : goal.offset_bounds-map-j
offset_bounds-map-j c = omega (arith, sorted-row 1024 52 c.args.map.lanes.now c.args.map.drawable.lanes_are_sorted c.loop-j.j c.loop-j-test.true)

pub bounds-map-j : goal.bounds-map-j
bounds-map-j c = omega (arith, sorted-row 1024 52 c.args.map.lanes.now c.args.map.drawable.lanes_are_sorted c.loop-j.j c.loop-j-test.true)

pub offset_bounds-cut-count : goal.offset_bounds-cut-count
offset_bounds-cut-count c = omega arith

pub bounds-cut-count : goal.bounds-cut-count
bounds-cut-count c = omega arith

pub offset_bounds-stations-count : goal.offset_bounds-stations-count
offset_bounds-stations-count c = omega arith

pub bounds-stations-count : goal.bounds-stations-count
bounds-stations-count c = omega arith

pub overflow_add-count : goal.overflow_add-count
overflow_add-count c = omega arith

pub loop-j-preserved : goal.loop-j-preserved
loop-j-preserved c =
    elim c.if-seen-j.branch [
      | goal.then-seen-j+in_ok-station s ↦
          let d : c.loop-j.count < length c.args.cut.now = omega arith in
          let e : c.loop-j.count < length c.args.stations.now = omega arith in
          let w = turn_one (row_station c.args.piece c.args.map.coordinates.now c.args.map.boundaries.now c.args.own c.args.place) c.args.seen.now c.args.map.lanes.now c.args.cut.now c.args.stations.now c.loop-j.cut c.loop-j.stations c.loop-j.count c.loop-j.j c.loop-j.invariant.1.1.1.1 c.loop-j-test.true c.requires.0 s.if-seen-j.true d e _ (at_told (row_station c.args.piece c.args.map.coordinates.now c.args.map.boundaries.now c.args.own c.args.place (row_at 52 c.args.map.lanes.now c.loop-j.j)) _ (sym s.in_ok-station.was ∙ s.lane_station.ensures)) in
          (omega arith, (omega arith, (ap length s.cut-is ∙ simp length-set c.loop-j.invariant.1.1.0, (ap length s.stations-is ∙ simp length-set c.loop-j.invariant.1.1.1.0, rw (s.cut-is, s.stations-is, s.count-is) w))))
      | goal.else-seen-j s ↦
          let w = turn-none (row_station c.args.piece c.args.map.coordinates.now c.args.map.boundaries.now c.args.own c.args.place) c.args.seen.now c.args.map.lanes.now c.args.cut.now c.args.stations.now c.loop-j.cut c.loop-j.stations c.loop-j.count c.loop-j.j c.loop-j.invariant.1.1.1.1 c.loop-j-test.true c.requires.0 s.if-seen-j.false in
          (omega arith, (omega arith, (ap length s.cut-is ∙ c.loop-j.invariant.1.1.0, (ap length s.stations-is ∙ c.loop-j.invariant.1.1.1.0, rw (s.cut-is, s.stations-is, s.count-is) w))))
    ]

pub shape_of-cut : goal.shape_of-cut
shape_of-cut c = c.loop-j.invariant.1.1.0

pub shape_of-stations : goal.shape_of-stations
shape_of-stations c = c.loop-j.invariant.1.1.1.0

pub returns : goal.returns
returns c = turn-ends (row_station c.args.piece c.args.map.coordinates.now c.args.map.boundaries.now c.args.own c.args.place) c.args.seen.now c.args.map.lanes.now c.args.cut.now c.args.stations.now c.loop-j.cut c.loop-j.stations c.loop-j.count c.loop-j.j c.loop-j.invariant.1.1.1.1 c.loop-j-test.false
