-- `nearest::better` meets its contract: what squares tell without a root is what the root would tell. Assumes nothing.
use mathlib.Core.Path.{sym, ap, ◌∙◌}
use Rattle.root.specs.Root.{root}
use Rattle.geometry.specs.Point.{distance2, norm2, dot2}
use Rattle.polyline.specs.Polyline.{candidate}
use Rattle.nearest.specs.Square.{square}
use Rattle.nearest.proofs.Squares.{square-root, skipped}
use Rattle.nearest.proofs.better.Goals as goal

pub returns-then-surely_not_nearer : goal.returns-then-surely_not_nearer
returns-then-surely_not_nearer c =
    let a = c.args in
    skipped a.i a.at a.to a.p a.q a.best c.lerp-on.result c.square_to-next.result (rw (c.lerp-on.ensures, c.project_on_segment-t.ensures, c.xy-2.ensures, c.xy.ensures)) c.square_to-next.ensures
    (c.surely_not_nearer.ensures.1 c.if-surely_not_nearer.true (c.requires.1 ∙ (square-root a.best.point a.to ∙ ap root (sym c.square_to.ensures))))

pub returns : goal.returns
unfolding candidate distance2 norm2 square dot2
returns c = rw (c.nearer.ensures, c.sqrt.ensures, c.square_to-next.ensures, c.lerp-on.ensures, c.project_on_segment-t.ensures, c.xy-2.ensures, c.xy.ensures, c.requires.0)
