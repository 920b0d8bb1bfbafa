-- `faults::count_fault` meets its contract. By the test. Assumes nothing.
use mathlib.Core.Path.{sym, ◌∙◌}
use Rattle.tables.specs.Formed.{counted}
use Rattle.row_faults.specs.declared.Clause.TheVariants.{Counts}
use Rattle.faults.proofs.Laws.{told-passed, told-failed}
use Rattle.faults.proofs.count_fault.Goals as goal

pub returns-then-counted : goal.returns-then-counted
returns-then-counted c = told-passed Counts c.args.table (counted c.args.limit c.args.row c.args.t.now) (sym c.counted.ensures ∙ c.if-counted.true)

pub returns : goal.returns
returns c = c.told.ensures ∙ told-failed Counts c.args.table (counted c.args.limit c.args.row c.args.t.now) (sym c.counted.ensures ∙ c.if-counted.false)
