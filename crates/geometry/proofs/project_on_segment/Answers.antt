-- `geometry::project_on_segment` meets its contract. Assumes nothing.
use Rattle.geometry.specs.Float.{epsilon}
use Rattle.geometry.specs.Point.{project_on_segment}
use Rattle.geometry.proofs.project_on_segment.Goals as goal

pub returns-then-len2 : goal.returns-then-len2
unfolding project_on_segment epsilon
returns-then-len2 c =
    let short = rw (c.dot-len2.ensures, c.sub-ab.ensures) at c.if-len2.true in
    rw short

pub returns : goal.returns
unfolding project_on_segment epsilon
returns c =
    let long = rw (c.dot-len2.ensures, c.sub-ab.ensures) at c.if-len2.false in
    rw (
      c.clamp.ensures,
      c.dot.ensures,
      c.sub.ensures,
      c.dot-len2.ensures,
      c.sub-ab.ensures,
      long,
    )
