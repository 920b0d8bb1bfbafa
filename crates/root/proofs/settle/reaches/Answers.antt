-- `root::settle::reaches` meets its contract: two numbers of two digits are compared by the upper one first. Assumes nothing.
use Rattle.std.proofs.Common.{◌+◌, ◌*◌, ◌/◌, ◌%◌, ◌^◌, arith, rules}
use Rattle.root.proofs.Numbers.{same-ltb}
use Rattle.root.proofs.settle.reaches.Goals as goal

pub returns-then-s-high : goal.returns-then-s-high
returns-then-s-high c =
    let q = c.args.q in
    same-ltb c.square-s.result.low (q % 2 ^ 52) (q * q) (c.args.a * 2 ^ 52 + q) (λ h. omega arith) (λ h. omega arith)

pub returns : goal.returns
returns c =
    let q = c.args.q in
    same-ltb c.square-s.result.high (c.args.a + q / 2 ^ 52) (q * q) (c.args.a * 2 ^ 52 + q) (λ h. omega arith) (λ h. omega arith)
