-- `lane_lists::drop_lane` meets its contract. Assumes nothing.
use borrow.Author.Rules.{rules}
use mathlib.Core.Path.{ap, ◌∙◌}
use native.Mathlib.Omega.{arith}
use Rattle.mentions.specs.declared.Rows.TheVariants.{Lanes}
use Rattle.mentions.specs.Naming.{table_formed, forgets}
use Rattle.store.specs.Rows.{stays, on_rows}
use Rattle.unused.proofs.Staying.{lanes-room, lanes-formed}
use Rattle.lane_lists.proofs.drop_lane.Goals as goal

pub keep_rows-requires : goal.keep_rows-requires
keep_rows-requires c = (omega arith, lanes-room c.args.lanes.now c.requires)

pub forget-requires : goal.forget-requires
forget-requires c = ap (table_formed Lanes) c.keep_rows.ensures ∙ lanes-formed c.args.lanes.now c.requires (stays c.args.lane c.args.lane)

pub returns : goal.returns
returns c = c.forget.ensures ∙ ap (on_rows 52 (forgets Lanes c.args.lane)) c.keep_rows.ensures
