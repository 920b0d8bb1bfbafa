-- `warnings::put_single` meets its contract. Assumes nothing.
use borrow.Author.Rules.{rules}
use native.Mathlib.Omega.{arith}
use lib.ListN.{length-set}
use Rattle.report.proofs.Warnings.{single-put}
use Rattle.warnings.proofs.put_single.Goals as goal

pub bounds-warnings-row-2 : goal.bounds-warnings-row-2
bounds-warnings-row-2 c = simp length-set (omega arith)

pub bounds-warnings-row-3 : goal.bounds-warnings-row-3
bounds-warnings-row-3 c = simp length-set (omega arith)

pub bounds-warnings-row-4 : goal.bounds-warnings-row-4
bounds-warnings-row-4 c = simp length-set (omega arith)

pub bounds-warnings-row-5 : goal.bounds-warnings-row-5
bounds-warnings-row-5 c = simp length-set (omega arith)

pub bounds-warnings-row-6 : goal.bounds-warnings-row-6
bounds-warnings-row-6 c = simp length-set (omega arith)

pub returns : goal.returns
returns c =
    let a = c.args in
    single-put a.warnings.now a.at a.severity a.code a.kind a.id a.fix c.from.result c.from-2.result c.from-3.result c.fix_mark.result c.requires c.from.ensures c.from-2.ensures c.from-3.ensures c.fix_mark.ensures
