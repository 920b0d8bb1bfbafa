-- `split_lines::put_pieces` meets its contract: a line with no station has no piece, another the pieces at its nearest one. Assumes nothing.
use borrow.Author.Rules.{rules}
use native.Mathlib.Omega.{arith}
use Rattle.polyline.specs.Polyline.{points}
use Rattle.split_lines.proofs.Pieces.{pieces_none, pieces_room, pieces-some}
use Rattle.split_lines.proofs.put_pieces.Goals as goal

pub split_at-pieces-requires : goal.split_at-pieces-requires
split_at-pieces-requires c = pieces_room c.args.point (points c.args.line.now) c.nearest_point-found.result c.nearest_point-found.ensures c.in-Some.near c.in-Some.is c.args.out.now c.requires

pub overflow_add-result : goal.overflow_add-result
overflow_add-result c = omega (arith, c.split_at-pieces.ensures, c.well_formed.1.1.0.0, pieces_room c.args.point (points c.args.line.now) c.nearest_point-found.result c.nearest_point-found.ensures c.in-Some.near c.in-Some.is c.args.out.now c.requires)

pub returns-in-None : goal.returns-in-None
returns-in-None c = pieces_none c.args.point (points c.args.line.now) c.nearest_point-found.result c.nearest_point-found.ensures c.in-None.is c.args.out.now

pub returns-in-Some : goal.returns-in-Some
returns-in-Some c = pieces-some c.args.point (points c.args.line.now) c.nearest_point-found.result c.nearest_point-found.ensures c.in-Some.near c.in-Some.is c.args.out.now c.split_at-pieces.new.out c.split_at-pieces.result.first c.split_at-pieces.result.second c.split_at-pieces.ensures.0 c.split_at-pieces.ensures.1.0 c.split_at-pieces.ensures.1.1
