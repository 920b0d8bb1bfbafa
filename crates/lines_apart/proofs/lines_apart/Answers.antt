-- `lines_apart::lines_apart` meets its contract: 65,536 points, none of them marked at first. Assumes nothing.
use mathlib.Core.Path.{◌∙◌}
use Rattle.apart.specs.Marks.{line_spans}
use Rattle.apart.proofs.Stored.{all-facts}
use Rattle.apart.proofs.Clear.{apart-clear}
use Rattle.lines_apart.proofs.lines_apart.Goals as goal

pub returns : goal.returns
returns c =
    let a = c.args in
    let f = all-facts 65536 a.lanes.now a.boundaries.now a.stop_lines.now a.crosswalks.now c.requires in
    c.take_all.ensures ∙ apart-clear 65536 (line_spans a.lanes.now a.boundaries.now a.stop_lines.now a.crosswalks.now) f.1.1.0
