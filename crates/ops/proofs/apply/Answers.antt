use borrow.Author.Rules.{rules}
use Rattle.step.specs.Step.{Lent, lent_of}
use Rattle.step.proofs.Steps.{step_unsound}
use mathlib.Core.Path.{refl, sym, ◌∙◌}
use Rattle.ops.proofs.apply.Goals as goal
use Rattle.ops.proofs.apply.Goals.{Start}

-- what is lent
abbrev lent : Start → Lent
lent s =
    lent_of s.args.counter.next s.args.lanes.now s.args.boundaries.now s.args.roads.now s.args.junctions.now s.args.rules.now s.args.stop_lines.now
    s.args.crosswalks.now s.args.coordinates.now s.args.created.now s.args.modified.now s.args.deleted.now s.args.warnings.now

-- src/lib.rt:154:9
pub dispatch-requires : goal.dispatch-requires
dispatch-requires c = sym c.sound.ensures ∙ c.if-sound.true

-- src/lib.rt:124:1
pub returns : goal.returns
returns c = let s = (goal.at.returns c).Start in step_unsound s.args.tolerance s.args.command (lent s) (sym c.sound.ensures ∙ c.if-sound.false)
