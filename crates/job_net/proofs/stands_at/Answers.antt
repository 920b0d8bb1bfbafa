-- `job_net::stands_at` meets its contract: the key of row j, if there is one. Assumes nothing.
use native.Mathlib.Omega.{arith}
use Rattle.lists.proofs.Rows.{row-start}
use Rattle.job_net.proofs.Below.{key_here, key-past}
use lib.ListN.{length}
use Rattle.job_net.proofs.stands_at.Goals as goal

pub overflow_mul-result : goal.overflow_mul-result
overflow_mul-result c = let a = c.args in omega (arith, row-start a.j a.n a.s (length a.rows.now) c.requires.0 c.requires.1 c.if-j-n.true)

pub offset_bounds-rows-j : goal.offset_bounds-rows-j
offset_bounds-rows-j c = let a = c.args in omega (arith, row-start a.j a.n a.s (length a.rows.now) c.requires.0 c.requires.1 c.if-j-n.true)

pub bounds-rows-j : goal.bounds-rows-j
bounds-rows-j c = let a = c.args in omega (arith, row-start a.j a.n a.s (length a.rows.now) c.requires.0 c.requires.1 c.if-j-n.true)

pub returns-then-j-n : goal.returns-then-j-n
returns-then-j-n c = let a = c.args in key_here a.s a.n a.rows.now c.requires.0 a.j a.id c.if-j-n.true

pub returns : goal.returns
returns c = let a = c.args in key-past a.s a.n a.rows.now c.requires.0 a.j a.id c.if-j-n.false
