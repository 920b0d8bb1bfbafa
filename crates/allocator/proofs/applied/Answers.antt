use borrow.Author.Rules.{rules}
use native.Mathlib.Omega.{arith}
use Rattle.step.specs.Step.{Lent, lent_of}
use Rattle.step.proofs.Counter.{counter-word}
use Rattle.allocator.proofs.Advances.{advances}
use Rattle.allocator.proofs.applied.Goals as goal
use Rattle.allocator.proofs.applied.Goals.{Start}

-- what is lent
abbrev lent : Start → Lent
lent s =
    lent_of s.args.counter.next s.args.lanes.now s.args.boundaries.now s.args.roads.now s.args.junctions.now s.args.rules.now s.args.stop_lines.now
    s.args.crosswalks.now s.args.coordinates.now s.args.created.now s.args.modified.now s.args.deleted.now s.args.warnings.now

-- src/lib.rt:67:5
pub advance-requires : goal.advance-requires
advance-requires c = let s = c in counter-word s.args.tolerance s.args.command (lent (goal.at.advance-requires c).Start) _ c.apply-answer.result c.apply-answer.ensures (omega arith)

-- src/lib.rt:31:1
pub shape_of-lanes : goal.shape_of-lanes
shape_of-lanes c = c.apply-answer.auto.lanes

-- src/lib.rt:31:1
pub shape_of-boundaries : goal.shape_of-boundaries
shape_of-boundaries c = c.apply-answer.auto.boundaries

-- src/lib.rt:31:1
pub shape_of-roads : goal.shape_of-roads
shape_of-roads c = c.apply-answer.auto.roads

-- src/lib.rt:31:1
pub shape_of-junctions : goal.shape_of-junctions
shape_of-junctions c = c.apply-answer.auto.junctions

-- src/lib.rt:31:1
pub shape_of-rules : goal.shape_of-rules
shape_of-rules c = c.apply-answer.auto.rules

-- src/lib.rt:31:1
pub shape_of-stop_lines : goal.shape_of-stop_lines
shape_of-stop_lines c = c.apply-answer.auto.stop_lines

-- src/lib.rt:31:1
pub shape_of-crosswalks : goal.shape_of-crosswalks
shape_of-crosswalks c = c.apply-answer.auto.crosswalks

-- src/lib.rt:31:1
pub shape_of-coordinates : goal.shape_of-coordinates
shape_of-coordinates c = c.apply-answer.auto.coordinates

-- src/lib.rt:31:1
pub shape_of-created : goal.shape_of-created
shape_of-created c = c.apply-answer.auto.created

-- src/lib.rt:31:1
pub shape_of-modified : goal.shape_of-modified
shape_of-modified c = c.apply-answer.auto.modified

-- src/lib.rt:31:1
pub shape_of-deleted : goal.shape_of-deleted
shape_of-deleted c = c.apply-answer.auto.deleted

-- src/lib.rt:31:1
pub shape_of-warnings : goal.shape_of-warnings
shape_of-warnings c = c.apply-answer.auto.warnings

-- src/lib.rt:31:1
pub returns : goal.returns
returns c = advances _ c.apply-answer.result c.advance.result.answer c.advance.result.counter.next _ c.advance.ensures.0 c.advance.ensures.1 c.apply-answer.ensures
