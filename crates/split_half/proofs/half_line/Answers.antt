-- `split_half::half_line` meets its contract: of a line with no station nothing, else the slice behind the cut or before it. Assumes nothing.
use borrow.Author.Rules.{rules}
use native.Mathlib.Omega.{arith}
use Rattle.geometry.specs.Float.{zeroᶠ}
use Rattle.polyline.specs.Polyline.{points}
use Rattle.polyline.proofs.Counts.{length-slice-le}
use Rattle.split_half.proofs.Halves.{half-none, half-second, half-first}
use Rattle.split_half.proofs.half_line.Goals as goal

pub returns-in_default : goal.returns-in_default
returns-in_default c = half-none c.args.second c.args.point (points c.args.line.now) c.nearest_point-found.result c.nearest_point-found.ensures c.args.out.now c.in_default.is

pub slice-requires : goal.slice-requires
slice-requires c = omega (arith, c.requires, length-slice-le (points c.args.line.now) c.in-Some.near.station c.length.result)

pub returns-then-second : goal.returns-then-second
returns-then-second c = half-second c.args.second c.args.point (points c.args.line.now) c.nearest_point-found.result c.nearest_point-found.ensures c.args.out.now c.in-Some.near c.in-Some.is c.requires.0 c.slice.new.out c.slice.result c.if-second.true c.length.result c.length.ensures c.slice.ensures

pub slice-requires-2 : goal.slice-requires-2
slice-requires-2 c = omega (arith, c.requires, length-slice-le (points c.args.line.now) zeroᶠ c.in-Some.near.station)

pub returns : goal.returns
returns c = half-first c.args.second c.args.point (points c.args.line.now) c.nearest_point-found.result c.nearest_point-found.ensures c.args.out.now c.in-Some.near c.in-Some.is c.requires.0 c.slice-2.new.out c.slice-2.result c.if-second.false c.slice-2.ensures
