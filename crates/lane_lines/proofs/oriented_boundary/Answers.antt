-- `lane_lines::oriented_boundary` meets its contract: the boundary that is found is one of the rows, and its line is short enough. Assumes nothing.
use mathlib.Core.Path.{◌∙◌, sym}
use mathlib.Core.Bool.{cond}
use mathlib.Core.List.{reverse}
use Rattle.polyline.specs.Polyline.{points}
use Rattle.lookup.specs.Lookup.{row_at}
use Rattle.lookup.proofs.Laws.{place-within, oriented-absent, oriented-there, short-fits, length-turned, written_none, written-some}
use Rattle.lane_lines.proofs.oriented_boundary.Goals as goal

pub returns-in_err-j : goal.returns-in_err-j
returns-in_err-j c = let x = written_none _ c.args.out.now (oriented-absent c.args.coordinates.now c.args.boundaries.now (row_at 52 c.args.lanes.now c.args.i) c.args.side c.boundary_ref-r.result c.boundary_ref-r.ensures (sym c.boundary.ensures ∙ c.in_err-j.was)) in (c.from_residual.ensures ∙ x.0, x.1)

pub boundary_line-line-requires : goal.boundary_line-line-requires
boundary_line-line-requires c = (c.requires.1.1.0, (place-within 5 c.args.boundaries.now c.boundary_ref-r.result.boundary c.in_ok-j.j (sym c.boundary.ensures ∙ c.in_ok-j.was), c.requires.1.1.1.0))

pub put_line-requires : goal.put_line-requires
put_line-requires c = short-fits 5 2 c.args.coordinates.now c.args.boundaries.now c.requires.1.1.1.1.0 c.in_ok-j.j (place-within 5 c.args.boundaries.now c.boundary_ref-r.result.boundary c.in_ok-j.j (sym c.boundary.ensures ∙ c.in_ok-j.was)) c.boundary_line-line.result.now c.boundary_line-line.ensures _ c.requires.1.1.1.1.1

pub returns : goal.returns
returns c = written-some _ (cond c.boundary_ref-r.result.reversed (reverse (points c.boundary_line-line.result.now)) (points c.boundary_line-line.result.now)) c.put_line.result c.args.out.now _ (oriented-there c.args.coordinates.now c.args.boundaries.now (row_at 52 c.args.lanes.now c.args.i) c.args.side c.boundary_ref-r.result c.boundary_ref-r.ensures c.in_ok-j.j (sym c.boundary.ensures ∙ c.in_ok-j.was) c.boundary_line-line.result.now c.boundary_line-line.ensures) (c.put_line.ensures.0 ∙ length-turned c.boundary_ref-r.result.reversed (points c.boundary_line-line.result.now)) c.put_line.ensures.1
