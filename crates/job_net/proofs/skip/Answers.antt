-- `job_net::skip` meets its contract: what is passed and what is left give the whole. Assumes nothing.
use mathlib.Core.Path.{◌≡◌, ◌∙◌}
use native.Mathlib.Omega.{arith}
use Rattle.lists.proofs.Rows.{row-start}
use Rattle.job_net.proofs.Below.{walk_begins, walk-turns, walk-stops, walk_ends}
use lib.ListN.{length}
use Rattle.job_net.proofs.skip.Goals as goal

pub loop-j-init : goal.loop-j-init
loop-j-init c = let a = c.args in walk_begins a.s a.n a.id a.rows.now a.from c.requires.1.1

pub overflow_mul-j : goal.overflow_mul-j
overflow_mul-j c = let a = c.args in omega (arith, row-start c.loop-j.j a.n a.s (length a.rows.now) c.requires.0 c.requires.1.0 c.loop-j-test.true)

pub offset_bounds-rows-j : goal.offset_bounds-rows-j
offset_bounds-rows-j c = let a = c.args in omega (arith, row-start c.loop-j.j a.n a.s (length a.rows.now) c.requires.0 c.requires.1.0 c.loop-j-test.true)

pub bounds-rows-j : goal.bounds-rows-j
bounds-rows-j c = let a = c.args in omega (arith, row-start c.loop-j.j a.n a.s (length a.rows.now) c.requires.0 c.requires.1.0 c.loop-j-test.true)

pub returns-then-id-rows : goal.returns-then-id-rows
returns-then-id-rows c = let a = c.args in walk-stops a.s a.n a.id a.rows.now c.requires.0 a.from c.loop-j.j c.loop-j.invariant c.loop-j-test.true (omega (arith, c.if-id-rows.true))

pub loop-j-preserved : goal.loop-j-preserved
loop-j-preserved c = let a = c.args in walk-turns a.s a.n a.id a.rows.now c.requires.0 a.from c.loop-j.j c.loop-j.invariant c.loop-j-test.true (omega (arith, c.if-id-rows.false))

pub returns : goal.returns
returns c = let a = c.args in let last : a.n ≡ c.loop-j.j = omega (arith, c.requires.1.1, c.loop-j-test.false, c.loop-j.auto.j-end) in last ∙ walk_ends a.s a.n a.id a.rows.now c.requires.0 a.from c.loop-j.j c.loop-j.invariant c.loop-j-test.false
