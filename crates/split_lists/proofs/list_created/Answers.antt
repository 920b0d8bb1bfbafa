-- `split_lists::list_created` meets its contract: the second halves, and the pieces behind them. Assumes nothing.
use native.Mathlib.Omega.{arith}
use Rattle.split_lists.proofs.Entities.{created-listed}
use Rattle.split_lists.proofs.list_created.Goals as goal

pub overflow_add-next : goal.overflow_add-next
overflow_add-next c = omega (arith, c.requires)

pub returns : goal.returns
returns c = created-listed c.args.next c.args.ids c.args.lanes c.args.created.now c.requires.1.1.1 c.list_up-n.result c.list_up-n.new.out c.list_up-n.ensures.0 c.list_up-n.ensures.1 c.list_up.result c.list_up.new.out c.list_up.ensures.0 c.list_up.ensures.1
