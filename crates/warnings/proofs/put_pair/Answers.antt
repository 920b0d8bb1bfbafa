-- `warnings::put_pair` meets its contract: eight stores in a row make the warning. Assumes nothing.
use borrow.Author.Rules.{rules}
use native.Mathlib.Omega.{arith}
use lib.ListN.{length-set}
use Rattle.report.proofs.Warnings.{pair_put}
use Rattle.warnings.proofs.put_pair.Goals as goal

pub bounds-warnings-row-2 : goal.bounds-warnings-row-2
bounds-warnings-row-2 c = simp length-set (omega arith)

pub bounds-warnings-row-3 : goal.bounds-warnings-row-3
bounds-warnings-row-3 c = simp length-set (omega arith)

pub bounds-warnings-row-4 : goal.bounds-warnings-row-4
bounds-warnings-row-4 c = simp length-set (omega arith)

pub bounds-warnings-row-5 : goal.bounds-warnings-row-5
bounds-warnings-row-5 c = simp length-set (omega arith)

pub bounds-warnings-row-6 : goal.bounds-warnings-row-6
bounds-warnings-row-6 c = simp length-set (omega arith)

pub bounds-warnings-row-7 : goal.bounds-warnings-row-7
bounds-warnings-row-7 c = simp length-set (omega arith)

pub bounds-warnings-row-8 : goal.bounds-warnings-row-8
bounds-warnings-row-8 c = simp length-set (omega arith)

pub shape_of-warnings : goal.shape_of-warnings
shape_of-warnings c = simp length-set

pub returns : goal.returns
returns c =
    let a = c.args in
    pair_put a.warnings.now a.at a.code a.lane a.other c.from.result c.from-2.result c.from-3.result c.from-4.result c.requires c.from.ensures c.from-2.ensures c.from-3.ensures c.from-4.ensures
