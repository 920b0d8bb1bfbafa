-- `geometry::Point3::begin_distance` meets its contract. Assumes nothing.
use mathlib.Core.Path.{◌≡◌, subst}
use lib.Ieee.{Float}
use Rattle.root.specs.Root.{root}
use Rattle.root.specs.Begun.{Unfinished}
use Rattle.geometry.specs.Point.{distance3, norm3, dot3}
use Rattle.geometry.proofs.Point3.begin_distance.Goals as goal

pub returns : goal.returns
unfolding distance3 norm3 dot3
returns c =
    let self = c.args.self in
    let other = c.args.other in
    let e : root c.dot.result ≡ distance3 self other = cc in
    subst (λ (s : Float). Unfinished s c.begin.result.a c.begin.result.top c.begin.result.guess) e c.begin.ensures
