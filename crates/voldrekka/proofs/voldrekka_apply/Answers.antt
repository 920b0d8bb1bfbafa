-- `voldrekka::voldrekka_apply` meets its contract: the command is read, made with document 01's tolerances, and told. Assumes nothing.
use borrow.Author.Rules.{rules}
use native.Mathlib.Omega.{arith}
use Rattle.step.specs.Step.{lent_of}
use Rattle.step.proofs.Counter.{counter-word}
use Rattle.words.specs.Words.{command_of}
use Rattle.voldrekka.proofs.Calls.{all-called}
use Rattle.voldrekka.proofs.voldrekka_apply.Goals as goal

pub tell-requires : goal.tell-requires
tell-requires c = counter-word c.preset-tolerance.result c.command_of-made.result (lent_of c.args.counter.now.next c.args.lanes.now c.args.boundaries.now c.args.roads.now c.args.junctions.now c.args.rules.now c.args.stop_lines.now c.args.crosswalks.now c.args.coordinates.now c.args.created.now c.args.modified.now c.args.deleted.now c.args.warnings.now) (lent_of c.apply-answer.new.counter.next c.apply-answer.new.lanes c.apply-answer.new.boundaries c.apply-answer.new.roads c.apply-answer.new.junctions c.apply-answer.new.rules c.apply-answer.new.stop_lines c.apply-answer.new.crosswalks c.apply-answer.new.coordinates c.apply-answer.new.created c.apply-answer.new.modified c.apply-answer.new.deleted c.apply-answer.new.warnings) c.apply-answer.result c.apply-answer.ensures (omega arith)

pub shape_of-lanes : goal.shape_of-lanes
shape_of-lanes c = c.apply-answer.auto.lanes

pub shape_of-boundaries : goal.shape_of-boundaries
shape_of-boundaries c = c.apply-answer.auto.boundaries

pub shape_of-roads : goal.shape_of-roads
shape_of-roads c = c.apply-answer.auto.roads

pub shape_of-junctions : goal.shape_of-junctions
shape_of-junctions c = c.apply-answer.auto.junctions

pub shape_of-rules : goal.shape_of-rules
shape_of-rules c = c.apply-answer.auto.rules

pub shape_of-stop_lines : goal.shape_of-stop_lines
shape_of-stop_lines c = c.apply-answer.auto.stop_lines

pub shape_of-crosswalks : goal.shape_of-crosswalks
shape_of-crosswalks c = c.apply-answer.auto.crosswalks

pub shape_of-coordinates : goal.shape_of-coordinates
shape_of-coordinates c = c.apply-answer.auto.coordinates

pub shape_of-created : goal.shape_of-created
shape_of-created c = c.apply-answer.auto.created

pub shape_of-modified : goal.shape_of-modified
shape_of-modified c = c.apply-answer.auto.modified

pub shape_of-deleted : goal.shape_of-deleted
shape_of-deleted c = c.apply-answer.auto.deleted

pub shape_of-warnings : goal.shape_of-warnings
shape_of-warnings c = c.apply-answer.auto.warnings

pub returns : goal.returns
returns c = all-called (command_of c.args.command.now) c.command_of-made.result c.preset-tolerance.result (lent_of c.args.counter.now.next c.args.lanes.now c.args.boundaries.now c.args.roads.now c.args.junctions.now c.args.rules.now c.args.stop_lines.now c.args.crosswalks.now c.args.coordinates.now c.args.created.now c.args.modified.now c.args.deleted.now c.args.warnings.now) (lent_of c.apply-answer.new.counter.next c.apply-answer.new.lanes c.apply-answer.new.boundaries c.apply-answer.new.roads c.apply-answer.new.junctions c.apply-answer.new.rules c.apply-answer.new.stop_lines c.apply-answer.new.crosswalks c.apply-answer.new.coordinates c.apply-answer.new.created c.apply-answer.new.modified c.apply-answer.new.deleted c.apply-answer.new.warnings) c.apply-answer.result c.tell.result c.command_of-made.ensures c.preset-tolerance.ensures c.apply-answer.ensures c.tell.ensures
