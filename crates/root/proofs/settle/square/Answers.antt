-- `root::settle::square` meets its contract: the products of the halves, put together. Assumes nothing.
use Rattle.std.proofs.Common.{arith, rules}
use Rattle.root.proofs.Numbers.{halves-square, high-square, low-square, cross-le}
use Rattle.root.proofs.settle.square.Goals as goal

pub overflow_mul-cross : goal.overflow_mul-cross
overflow_mul-cross c = omega (arith, cross-le c.args.q c.requires)

pub overflow_mul-tail-3 : goal.overflow_mul-tail-3
overflow_mul-tail-3 c = omega (arith, low-square c.args.q c.requires)

pub overflow_add-tail : goal.overflow_add-tail
overflow_add-tail c = omega (arith, low-square c.args.q c.requires)

pub overflow_mul-result : goal.overflow_mul-result
overflow_mul-result c = omega (arith, high-square c.args.q c.requires)

pub overflow_add-result : goal.overflow_add-result
overflow_add-result c = omega (arith, high-square c.args.q c.requires, cross-le c.args.q c.requires)

pub overflow_add-result-2 : goal.overflow_add-result-2
overflow_add-result-2 c = omega (arith, high-square c.args.q c.requires, cross-le c.args.q c.requires, low-square c.args.q c.requires)

pub returns : goal.returns
returns c = (omega (arith, halves-square c.args.q), omega arith)
