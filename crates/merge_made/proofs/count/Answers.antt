use native.Mathlib.Omega.{arith}
use Rattle.merge_made.proofs.Parts.{ids_few, counted}
use Rattle.merge_made.proofs.count.Goals as goal

-- src/lib.rt:50:18
pub overflow_add-result : goal.overflow_add-result
overflow_add-result c = let s = c in omega (arith, ids_few s.args.plan.left, ids_few s.args.plan.right, c.side_ids.ensures, c.side_ids-2.ensures)

-- src/lib.rt:33:1
pub returns : goal.returns
returns c = let s = c in counted c.side_ids.result c.side_ids-2.result c.count_modified.result s.args.gone s.args.warnings _ _ _ c.side_ids.ensures c.side_ids-2.ensures c.count_modified.ensures
