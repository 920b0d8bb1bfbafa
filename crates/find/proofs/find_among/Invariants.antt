-- `find::find_among` meets its contract. The invariant: the keys before the rows that are left are smaller than the id, and those behind them larger.
-- The measure is how many are left. Assumes nothing.
use Rattle.lists.specs.Rows.{keys, Among}
use Rattle.find.proofs.find_among.Given as goal

abbrev pub invariant-loop-left : goal.invariant-loop-left
invariant-loop-left l = Among (keys l.s l.n l.rows) l.id l.low l.left

abbrev pub decreases-loop-left : goal.decreases-loop-left
decreases-loop-left l = l.left
