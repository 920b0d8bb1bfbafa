-- `split_rules::lane_past` meets its contract: a lane that is not cut, or not there, is not passed. Assumes nothing.
use mathlib.Core.Path.{sym, ◌∙◌}
use native.Mathlib.Omega.{arith}
use Rattle.lists.proofs.Rows.{keys-one}
use Rattle.lookup.proofs.Laws.{place-within}
use Rattle.split_rules.proofs.Passing.{lane-uncut, rank-within, lane-absent, lane-there}
use Rattle.split_rules.proofs.lane_past.Goals as goal

pub rank-ranked-requires : goal.rank-ranked-requires
rank-ranked-requires c = rw keys-one c.requires.0

pub returns-in_default : goal.returns-in_default
returns-in_default c = let a = c.args in lane-uncut a.join a.map.coordinates.now a.map.lanes.now a.map.boundaries.now a.point a.cut.now a.stations.now a.anchor a.id c.rank-ranked.result c.rank-ranked.ensures c.in_default.is

pub returns-in_default-found : goal.returns-in_default-found
returns-in_default-found c = let a = c.args in lane-absent a.join a.map.coordinates.now a.map.lanes.now a.map.boundaries.now a.point a.cut.now a.stations.now a.anchor a.id c.rank-ranked.result c.rank-ranked.ensures c.in-Some.r c.in-Some.is c.lane-found.result c.lane-found.ensures c.in_default-found.is

pub offset_bounds-stations-r : goal.offset_bounds-stations-r
offset_bounds-stations-r c = let a = c.args in omega (arith, rank-within a.join a.map.coordinates.now a.map.lanes.now a.map.boundaries.now a.point a.cut.now a.stations.now a.anchor a.id c.rank-ranked.result c.rank-ranked.ensures c.in-Some.r c.in-Some.is, c.requires.1)

pub bounds-stations-r : goal.bounds-stations-r
bounds-stations-r c = let a = c.args in omega (arith, rank-within a.join a.map.coordinates.now a.map.lanes.now a.map.boundaries.now a.point a.cut.now a.stations.now a.anchor a.id c.rank-ranked.result c.rank-ranked.ensures c.in-Some.r c.in-Some.is, c.requires.1)

pub past_cut-requires : goal.past_cut-requires
past_cut-requires c = record { drawable = c.args.map.drawable; row = place-within 52 c.args.map.lanes.now c.args.id c.in-Some-found.i (sym c.lane-found.ensures ∙ c.in-Some-found.is) }

pub returns : goal.returns
returns c = let a = c.args in lane-there a.join a.map.coordinates.now a.map.lanes.now a.map.boundaries.now a.point a.cut.now a.stations.now a.anchor a.id c.rank-ranked.result c.rank-ranked.ensures c.in-Some.r c.in-Some.is c.lane-found.result c.lane-found.ensures c.in-Some-found.i c.in-Some-found.is c.requires.1 c.past_cut.result _ c.past_cut.ensures
