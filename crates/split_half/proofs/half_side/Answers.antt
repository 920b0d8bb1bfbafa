-- `split_half::half_side` meets its contract: the piece is read back from where it was written, and laid along the lane. Assumes nothing.
use borrow.Author.Rules.{rules}
use mathlib.Core.Path.{sym, ap, ◌∙◌}
use mathlib.Core.Bool.{not, beq}
use Prim.Native.Nat.{◌*◌}
use native.Mathlib.Omega.{arith}
use lib.ListN.{length, take}
use Rattle.polyline.specs.Polyline.{points}
use Rattle.lookup.proofs.Laws.{place-within}
use Rattle.split_half.specs.Half.{half_of}
use Rattle.split_half.proofs.Halves.{boundary-few, written-lent, written_back, side-none, side-some}
use Rattle.split_half.proofs.half_side.Goals as goal

pub returns-in_err-x : goal.returns-in_err-x
returns-in_err-x c = let x = let a = c.args in let p = c.requires in side-none a.map.coordinates.now a.map.lanes.now a.map.boundaries.now a.point a.second a.i a.side c.boundary_ref-r.result c.boundary_ref-r.ensures a.out.now (sym c.boundary.ensures ∙ c.in_err-x.was) in (c.from_residual.ensures ∙ x.0, x.1)

pub boundary_line-line-requires : goal.boundary_line-line-requires
boundary_line-line-requires c = let a = c.args in let p = c.requires in (p.0.drawable.boundaries_are_sorted, (place-within 5 a.map.boundaries.now c.boundary_ref-r.result.boundary c.in_ok-x.x (sym c.boundary.ensures ∙ c.in_ok-x.was), p.0.drawable.boundaries_stored))

pub half_line-n-requires : goal.half_line-n-requires
half_line-n-requires c = let a = c.args in let p = c.requires in (boundary-few a.map.coordinates.now a.map.boundaries.now a.point a.second c.boundary_ref-r.result c.in_ok-x.x (sym c.boundary.ensures ∙ c.in_ok-x.was) c.boundary_line-line.result.now c.boundary_line-line.ensures p.0.drawable.boundaries_short, p.1.0)

pub slice_bounds-put_line-end-2 : goal.slice_bounds-put_line-end-2
slice_bounds-put_line-end-2 c = let a = c.args in let p = c.requires in written-lent a.piece.now c.half_line-n.new.out (half_of (not (beq a.second c.boundary_ref-r.result.reversed)) a.point (points c.boundary_line-line.result.now)) c.half_line-n.result c.half_line-n.ensures.1.0 c.half_line-n.ensures.0 (omega (arith, c.half_line-n.ensures, p.1.0))

pub put_line-requires : goal.put_line-requires
put_line-requires c = let a = c.args in let p = c.requires in omega (arith, p.1, c.half_line-n.ensures, ap length (written_back a.piece.now c.half_line-n.new.out (half_of (not (beq a.second c.boundary_ref-r.result.reversed)) a.point (points c.boundary_line-line.result.now)) c.half_line-n.result c.half_line-n.ensures.1.0 c.half_line-n.ensures.0 (omega (arith, c.half_line-n.ensures, p.1.0))))

pub returns : goal.returns
returns c = let a = c.args in let p = c.requires in side-some a.map.coordinates.now a.map.lanes.now a.map.boundaries.now a.point a.second a.i a.side c.boundary_ref-r.result c.boundary_ref-r.ensures a.out.now c.in_ok-x.x (sym c.boundary.ensures ∙ c.in_ok-x.was) c.boundary_line-line.result.now c.boundary_line-line.ensures (points (take (c.half_line-n.result * 3) c.half_line-n.new.out)) (written_back a.piece.now c.half_line-n.new.out (half_of (not (beq a.second c.boundary_ref-r.result.reversed)) a.point (points c.boundary_line-line.result.now)) c.half_line-n.result c.half_line-n.ensures.1.0 c.half_line-n.ensures.0 (omega (arith, c.half_line-n.ensures, p.1.0))) c.put_line.result c.put_line.new.out c.put_line.ensures
