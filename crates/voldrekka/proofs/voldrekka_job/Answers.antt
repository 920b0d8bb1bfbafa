-- `voldrekka::voldrekka_job` meets its contract: the job is read, made with the tolerances of document 01, and told. Assumes nothing.
use borrow.Author.Rules.{rules}
use Rattle.tables.specs.View.{Tables, tables_of}
use Rattle.step.specs.Step.{Lent, lent_of}
use Rattle.job_words.specs.JobWords.{job_of}
use Rattle.voldrekka.proofs.Jobs.{all-jobs}
use Rattle.voldrekka.proofs.voldrekka_job.Goals as goal
use Rattle.voldrekka.proofs.voldrekka_job.Goals.{Start, After-apply-end}

-- what is lent
abbrev lentOn : Start → Lent
lentOn s =
    lent_of s.args.counter.now s.args.lanes.now s.args.boundaries.now s.args.roads.now s.args.junctions.now s.args.rules.now s.args.stop_lines.now s.args.crosswalks.now s.args.coordinates.now s.args.created.now s.args.modified.now s.args.deleted.now s.args.warnings.now

abbrev areaOf : Start → Tables
areaOf s =
    tables_of s.args.old_lanes.now s.args.old_boundaries.now s.args.old_roads.now s.args.old_junctions.now s.args.old_rules.now s.args.old_stop_lines.now s.args.old_crosswalks.now s.args.old_coordinates.now

-- what the job leaves of it
abbrev left_by : After-apply-end → Lent
left_by a =
    lent_of a.apply-end.result.counter a.apply-end.new.lanes a.apply-end.new.boundaries a.apply-end.new.roads a.apply-end.new.junctions a.apply-end.new.rules a.apply-end.new.stop_lines a.apply-end.new.crosswalks a.apply-end.new.coordinates a.apply-end.new.created a.apply-end.new.modified a.apply-end.new.deleted a.apply-end.new.warnings

abbrev areaLeft : After-apply-end → Tables
areaLeft a =
    tables_of a.apply-end.new.old_lanes a.apply-end.new.old_boundaries a.apply-end.new.old_roads a.apply-end.new.old_junctions a.apply-end.new.old_rules a.apply-end.new.old_stop_lines a.apply-end.new.old_crosswalks a.apply-end.new.old_coordinates

-- src/lib.rt:208:1
pub shape_of-lanes : goal.shape_of-lanes
shape_of-lanes c = c.apply-end.auto.lanes

-- src/lib.rt:208:1
pub shape_of-boundaries : goal.shape_of-boundaries
shape_of-boundaries c = c.apply-end.auto.boundaries

-- src/lib.rt:208:1
pub shape_of-roads : goal.shape_of-roads
shape_of-roads c = c.apply-end.auto.roads

-- src/lib.rt:208:1
pub shape_of-junctions : goal.shape_of-junctions
shape_of-junctions c = c.apply-end.auto.junctions

-- src/lib.rt:208:1
pub shape_of-rules : goal.shape_of-rules
shape_of-rules c = c.apply-end.auto.rules

-- src/lib.rt:208:1
pub shape_of-stop_lines : goal.shape_of-stop_lines
shape_of-stop_lines c = c.apply-end.auto.stop_lines

-- src/lib.rt:208:1
pub shape_of-crosswalks : goal.shape_of-crosswalks
shape_of-crosswalks c = c.apply-end.auto.crosswalks

-- src/lib.rt:208:1
pub shape_of-coordinates : goal.shape_of-coordinates
shape_of-coordinates c = c.apply-end.auto.coordinates

-- src/lib.rt:208:1
pub shape_of-old_lanes : goal.shape_of-old_lanes
shape_of-old_lanes c = c.apply-end.auto.old_lanes

-- src/lib.rt:208:1
pub shape_of-old_boundaries : goal.shape_of-old_boundaries
shape_of-old_boundaries c = c.apply-end.auto.old_boundaries

-- src/lib.rt:208:1
pub shape_of-old_roads : goal.shape_of-old_roads
shape_of-old_roads c = c.apply-end.auto.old_roads

-- src/lib.rt:208:1
pub shape_of-old_junctions : goal.shape_of-old_junctions
shape_of-old_junctions c = c.apply-end.auto.old_junctions

-- src/lib.rt:208:1
pub shape_of-old_rules : goal.shape_of-old_rules
shape_of-old_rules c = c.apply-end.auto.old_rules

-- src/lib.rt:208:1
pub shape_of-old_stop_lines : goal.shape_of-old_stop_lines
shape_of-old_stop_lines c = c.apply-end.auto.old_stop_lines

-- src/lib.rt:208:1
pub shape_of-old_crosswalks : goal.shape_of-old_crosswalks
shape_of-old_crosswalks c = c.apply-end.auto.old_crosswalks

-- src/lib.rt:208:1
pub shape_of-old_coordinates : goal.shape_of-old_coordinates
shape_of-old_coordinates c = c.apply-end.auto.old_coordinates

-- src/lib.rt:208:1
pub shape_of-created : goal.shape_of-created
shape_of-created c = c.apply-end.auto.created

-- src/lib.rt:208:1
pub shape_of-modified : goal.shape_of-modified
shape_of-modified c = c.apply-end.auto.modified

-- src/lib.rt:208:1
pub shape_of-deleted : goal.shape_of-deleted
shape_of-deleted c = c.apply-end.auto.deleted

-- src/lib.rt:208:1
pub shape_of-warnings : goal.shape_of-warnings
shape_of-warnings c = c.apply-end.auto.warnings

-- src/lib.rt:208:1
pub returns : goal.returns
returns c = all-jobs (job_of c.args.commands.now) c.job_of-made.result c.preset-tolerance.result (lentOn (goal.at.returns c).Start) (left_by (goal.at.returns c).After-apply-end) (areaOf (goal.at.returns c).Start) (areaLeft (goal.at.returns c).After-apply-end) c.apply-end.result.answer c.tell.result c.job_of-made.ensures c.preset-tolerance.ensures c.apply-end.ensures c.tell.ensures
