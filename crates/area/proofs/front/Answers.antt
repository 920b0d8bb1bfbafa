-- `area::front` meets its contract: each slice cut to the length of the map's. Assumes nothing.
use mathlib.Core.Path.{refl, sym}
use lib.Seq.{length-take-le}
use lib.ListN.{length}
use Rattle.area.specs.Area.{put_back}
use Rattle.area.proofs.Lengths.{fits-of}
use Rattle.area.proofs.front.Goals as goal

pub slice_bounds-result-end : goal.slice_bounds-result-end
slice_bounds-result-end c = sym (length-take-le (length c.args.map.lanes.now) c.args.area.lanes.now (fits-of _ _ c.requires).lanes_fit)

pub slice_bounds-result-end-2 : goal.slice_bounds-result-end-2
slice_bounds-result-end-2 c = sym (length-take-le (length c.args.map.boundaries.now) c.args.area.boundaries.now (fits-of _ _ c.requires).boundaries_fit)

pub slice_bounds-result-end-3 : goal.slice_bounds-result-end-3
slice_bounds-result-end-3 c = sym (length-take-le (length c.args.map.roads.now) c.args.area.roads.now (fits-of _ _ c.requires).roads-fit)

pub slice_bounds-result-end-4 : goal.slice_bounds-result-end-4
slice_bounds-result-end-4 c = sym (length-take-le (length c.args.map.junctions.now) c.args.area.junctions.now (fits-of _ _ c.requires).junctions-fit)

pub slice_bounds-result-end-5 : goal.slice_bounds-result-end-5
slice_bounds-result-end-5 c = sym (length-take-le (length c.args.map.rules.now) c.args.area.rules.now (fits-of _ _ c.requires).rules-fit)

pub slice_bounds-result-end-6 : goal.slice_bounds-result-end-6
slice_bounds-result-end-6 c = sym (length-take-le (length c.args.map.stop_lines.now) c.args.area.stop_lines.now (fits-of _ _ c.requires).stop-lines-fit)

pub slice_bounds-result-end-7 : goal.slice_bounds-result-end-7
slice_bounds-result-end-7 c = sym (length-take-le (length c.args.map.crosswalks.now) c.args.area.crosswalks.now (fits-of _ _ c.requires).crosswalks-fit)

pub slice_bounds-result-end-8 : goal.slice_bounds-result-end-8
slice_bounds-result-end-8 c = sym (length-take-le (length c.args.map.coordinates.now) c.args.area.coordinates.now (fits-of _ _ c.requires).coordinates-fit)

pub returns : goal.returns
unfolding put_back
returns c = refl
