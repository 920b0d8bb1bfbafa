-- `split_room::points_after` meets its contract: the five sums together. Assumes nothing.
use native.Mathlib.Omega.{arith}
use Rattle.split_room.specs.Fitting.{points_after}
use Rattle.split_room.proofs.Points.{column-asks}
use Rattle.split_room.proofs.points_after.Goals as goal

pub column_points-stops-requires : goal.column_points-stops-requires
column_points-stops-requires c = column-asks 512 4 1 c.args.map.stop_lines.now (omega arith) (omega arith) (omega arith) c.requires.stops_counted c.requires.stops_short

pub column_points-lefts-requires : goal.column_points-lefts-requires
column_points-lefts-requires c = column-asks 128 7 1 c.args.map.crosswalks.now (omega arith) (omega arith) (omega arith) c.requires.crosswalks_counted c.requires.lefts_short

pub column_points-rights-requires : goal.column_points-rights-requires
column_points-rights-requires c = column-asks 128 7 3 c.args.map.crosswalks.now (omega arith) (omega arith) (omega arith) c.requires.crosswalks_counted c.requires.rights_short

pub returns : goal.returns
unfolding points_after
returns c = rw (c.boundary_points-old.ensures.0, c.lane_points-between.ensures.0, c.column_points-stops.ensures.0, c.column_points-lefts.ensures.0, c.column_points-rights.ensures.0)
