-- `job_run::make_edits` meets its contract, edit by edit. Assumes nothing.
use Rattle.lent.specs.Lent.{map_tables, view_rows, SameSlices, SameLists}
use Rattle.job_run.proofs.Running.{Running}
use Rattle.job_run.proofs.make_edits.Given as goal

abbrev pub invariant-loop-i : goal.invariant-loop-i
invariant-loop-i l =
    (Running l.tolerance (view_rows l.old) l.job (record { counter = l.counter; tables = map_tables l.initial.map }) l.initial.marks l.rows l.initial.lists.warnings.now (record { counter = l.next; tables = map_tables l.map }) l.marks l.lists.warnings.now l.told l.i)
    × (SameSlices l.initial.map l.map × SameLists l.initial.lists l.lists)
