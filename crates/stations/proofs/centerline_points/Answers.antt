-- `stations::centerline_points` meets its contract. Assumes nothing.
use mathlib.Core.Path.{sym, ap}
use mathlib.Core.Logic.{inl, inr}
use native.Mathlib.Omega.{arith}
use lib.ListN.{length}
use Rattle.polyline.specs.Polyline.{points}
use Rattle.polyline.proofs.Lines.{length-centerline, centerline-none}
use Rattle.stations.proofs.centerline_points.Goals as goal

pub returns-then-a-eq0 : goal.returns-then-a-eq0
returns-then-a-eq0 c = sym (ap length (centerline-none (points c.args.left.now) (points c.args.right.now) (inl (omega arith))))

pub returns-then-b-eq0 : goal.returns-then-b-eq0
returns-then-b-eq0 c = sym (ap length (centerline-none (points c.args.left.now) (points c.args.right.now) (inr (omega arith))))

pub returns : goal.returns
returns c = rw (c.max-2.ensures, c.max.ensures, c.count-a.ensures, c.count-b.ensures) (sym (length-centerline (points c.args.left.now) (points c.args.right.now) (omega arith) (omega arith)))
