-- `split_lines::line_sizes` meets its contract: a line with no station has no piece, another the pieces at its nearest one. Assumes nothing.
use borrow.Author.Rules.{rules}
use Rattle.polyline.specs.Polyline.{points}
use Rattle.split_lines.proofs.Pieces.{sizes-none, sizes-some}
use Rattle.split_lines.proofs.line_sizes.Goals as goal

pub returns-in-None : goal.returns-in-None
returns-in-None c = sizes-none c.args.point (points c.args.line.now) c.nearest_point-found.result c.nearest_point-found.ensures c.in-None.is

pub returns-in-Some : goal.returns-in-Some
returns-in-Some c = sizes-some c.args.point (points c.args.line.now) c.nearest_point-found.result c.nearest_point-found.ensures c.in-Some.near c.in-Some.is c.requires c.slice_points.result c.slice_points-in-Some.result c.length.result c.slice_points.ensures c.length.ensures c.slice_points-in-Some.ensures
