-- `clear::lines_clear` meets its contract. Assumes nothing.
use borrow.Author.Rules.{rules}
use native.Mathlib.Omega.{arith}
use Rattle.clear.proofs.Ordered.{order-may, order_clears}
use Rattle.clear.proofs.lines_clear.Goals as goal

pub in_order-requires : goal.in_order-requires
in_order-requires c =
    let s = c in
    (omega arith, order-may s.args.lanes.now s.args.boundaries.now s.args.stop_lines.now s.args.crosswalks.now s.requires)

pub returns-then-in_order : goal.returns-then-in_order
returns-then-in_order c =
    let s = c in
    order_clears s.args.lanes.now s.args.boundaries.now s.args.stop_lines.now s.args.crosswalks.now s.requires c.in_order.result c.in_order.ensures c.if-in_order.true
