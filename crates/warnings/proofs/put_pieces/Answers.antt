-- `warnings::put_pieces` meets its contract: ten stores in a row make the warning. Assumes nothing.
use borrow.Author.Rules.{rules}
use native.Mathlib.Omega.{arith}
use lib.ListN.{length-set}
use Rattle.report.proofs.Warnings.{pieces-put}
use Rattle.warnings.proofs.put_pieces.Goals as goal

pub bounds-warnings-row-2 : goal.bounds-warnings-row-2
bounds-warnings-row-2 c = simp length-set (omega arith)

pub bounds-warnings-row-3 : goal.bounds-warnings-row-3
bounds-warnings-row-3 c = simp length-set (omega arith)

pub bounds-warnings-row-4 : goal.bounds-warnings-row-4
bounds-warnings-row-4 c = simp length-set (omega arith)

pub bounds-warnings-row-5 : goal.bounds-warnings-row-5
bounds-warnings-row-5 c = simp length-set (omega arith)

pub bounds-warnings-row-6 : goal.bounds-warnings-row-6
bounds-warnings-row-6 c = simp length-set (omega arith)

pub bounds-warnings-row-7 : goal.bounds-warnings-row-7
bounds-warnings-row-7 c = simp length-set (omega arith)

pub bounds-warnings-row-8 : goal.bounds-warnings-row-8
bounds-warnings-row-8 c = simp length-set (omega arith)

pub bounds-warnings-row-9 : goal.bounds-warnings-row-9
bounds-warnings-row-9 c = simp length-set (omega arith)

pub bounds-warnings-row-10 : goal.bounds-warnings-row-10
bounds-warnings-row-10 c = simp length-set (omega arith)

pub shape_of-warnings : goal.shape_of-warnings
shape_of-warnings c = simp length-set

pub returns : goal.returns
returns c =
    let a = c.args in
    pieces-put a.warnings.now a.at a.boundary a.first a.second c.from.result c.from-2.result c.from-kind.result c.requires c.from.ensures c.from-2.ensures c.from-kind.ensures
