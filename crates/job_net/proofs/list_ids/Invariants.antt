-- `job_net::list_ids` meets its contract: of the first i rows the ids that are picked are listed, and the rows passed in the other table are below the next id.
-- Assumes nothing.
use lib.ListN.{take}
use Rattle.job_net.specs.Net.{table_ids, picked_in}
use Rattle.job_net.proofs.Listing.{Listing}
use Rattle.job_net.proofs.list_ids.Given as goal

abbrev pub invariant-loop-i : goal.invariant-loop-i
invariant-loop-i l =
    Listing (table_ids l.s l.table) (table_ids l.s l.other) (λ n. picked_in l.kept (table_ids l.s l.other) l.marks (take n (table_ids l.s l.table))) l.kind l.at l.initial.out l.out l.i l.j l.k
