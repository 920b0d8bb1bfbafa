-- `job_net::net_lists` meets its contract. Assumes nothing.
use native.Mathlib.Omega.{arith}
use Rattle.job_net.proofs.net_lists.Goals as goal

pub list_all-requires : goal.list_all-requires
list_all-requires c = let l = c.requires.1.1.1.0 in (c.requires.0, (c.requires.1.0, (c.requires.1.1.0, omega (arith, l))))

pub list_all-requires-2 : goal.list_all-requires-2
list_all-requires-2 c = let l = c.requires.1.1.1.1.0 in (c.requires.1.0, (c.requires.0, (c.requires.1.1.0, omega (arith, l))))

pub list_all-requires-3 : goal.list_all-requires-3
list_all-requires-3 c = let l = c.requires.1.1.1.1.1 in (c.requires.1.0, (c.requires.0, (c.requires.1.1.0, omega (arith, l))))

pub returns-clause-made : goal.returns-clause-made
returns-clause-made c =
    (rw (c.list_all.ensures.0, c.list_all-2.ensures.0, c.list_all-3.ensures.0), (c.list_all.ensures.1, (c.list_all-2.ensures.1, c.list_all-3.ensures.1)))
