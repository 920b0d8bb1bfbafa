-- `unused::keep_boundaries` meets its contract. Assumes nothing.
use borrow.Author.Rules.{rules}
use native.Mathlib.Omega.{arith}
use Rattle.lookup.proofs.Laws.{sorted-room}
use Rattle.unused.proofs.Staying.{none-gone, one-gone, two_gone}
use Rattle.unused.proofs.keep_boundaries.Goals as goal

pub returns-then-n-eq0 : goal.returns-then-n-eq0
returns-then-n-eq0 c = let a = c.args in none-gone a.boundaries.now a.gone.first a.gone.second a.gone.count c.requires c.if-n-eq0.true

pub keep_rows-requires : goal.keep_rows-requires
keep_rows-requires c = (omega arith, sorted-room 4096 5 c.args.boundaries.now c.requires)

pub returns-then-n-eq1 : goal.returns-then-n-eq1
returns-then-n-eq1 c = let a = c.args in one-gone a.boundaries.now a.gone.first a.gone.second a.gone.count c.keep_rows.new.t c.if-n-eq1.true c.keep_rows.ensures

pub keep_rows-requires-2 : goal.keep_rows-requires-2
keep_rows-requires-2 c = (omega arith, sorted-room 4096 5 c.args.boundaries.now c.requires)

pub returns : goal.returns
returns c = let a = c.args in two_gone a.boundaries.now a.gone.first a.gone.second a.gone.count c.keep_rows-2.new.t c.if-n-eq0.false c.if-n-eq1.false c.keep_rows-2.ensures
