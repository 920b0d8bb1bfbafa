-- `job_net::skip` meets its contract: what is passed and what is left give the whole. Assumes nothing.
use Rattle.lists.specs.Rows.{keys}
use Rattle.job_net.proofs.Below.{Walked}
use Rattle.job_net.proofs.skip.Given as goal

abbrev pub invariant-loop-j : goal.invariant-loop-j
invariant-loop-j l = Walked l.id (keys l.s l.n l.rows) l.from l.j
