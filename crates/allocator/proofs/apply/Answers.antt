-- `allocator::apply` meets its contract: it is `applied` with the counter read first and stored last. Assumes nothing.
use borrow.Author.Rules.{rules}
use Rattle.allocator.proofs.apply.Goals as goal

pub shape_of-lanes : goal.shape_of-lanes
shape_of-lanes c = c.applied-after.auto.lanes

pub shape_of-boundaries : goal.shape_of-boundaries
shape_of-boundaries c = c.applied-after.auto.boundaries

pub shape_of-roads : goal.shape_of-roads
shape_of-roads c = c.applied-after.auto.roads

pub shape_of-junctions : goal.shape_of-junctions
shape_of-junctions c = c.applied-after.auto.junctions

pub shape_of-rules : goal.shape_of-rules
shape_of-rules c = c.applied-after.auto.rules

pub shape_of-stop_lines : goal.shape_of-stop_lines
shape_of-stop_lines c = c.applied-after.auto.stop_lines

pub shape_of-crosswalks : goal.shape_of-crosswalks
shape_of-crosswalks c = c.applied-after.auto.crosswalks

pub shape_of-coordinates : goal.shape_of-coordinates
shape_of-coordinates c = c.applied-after.auto.coordinates

pub shape_of-created : goal.shape_of-created
shape_of-created c = c.applied-after.auto.created

pub shape_of-modified : goal.shape_of-modified
shape_of-modified c = c.applied-after.auto.modified

pub shape_of-deleted : goal.shape_of-deleted
shape_of-deleted c = c.applied-after.auto.deleted

pub shape_of-warnings : goal.shape_of-warnings
shape_of-warnings c = c.applied-after.auto.warnings

pub returns : goal.returns
returns c = c.applied-after.ensures
