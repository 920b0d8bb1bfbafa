-- `link_tests::links_returned` meets its contract: no link is counted at first. Assumes nothing.
use native.Mathlib.Omega.{arith}
use Rattle.tables.specs.View.{word}
use Rattle.row_tests.proofs.Lanes.{lanes-some, lanes-few}
use Rattle.link_tests.proofs.Steps.{zeros-many, cursors-first}
use Rattle.link_tests.proofs.links_returned.Goals as goal

pub bounds-t-0 : goal.bounds-t-0
bounds-t-0 c = omega (arith, lanes-some c.args.t.now c.requires.0.sorted)

pub slice_bounds-met-end : goal.slice_bounds-met-end
slice_bounds-met-end c = lanes-few c.args.t.now c.requires.0.sorted

pub slice_bounds-all_met-end : goal.slice_bounds-all_met-end
slice_bounds-all_met-end c = let b = c.before.before.before.before.before in zeros-many (word 0 b.args.t.now) 1024 (lanes-few b.args.t.now b.requires.0.sorted)

pub all_met-requires : goal.all_met-requires
all_met-requires c = let b = c.before.before.before.before.before in (b.requires, cursors-first b.args.t.now 1024 (lanes-few b.args.t.now b.requires.0.sorted))
