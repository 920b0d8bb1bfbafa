-- Demand 3 on maps, undivided: every list of the six edits, refused calls included, from any sound map, with any tolerances and any room. Assumes nothing.
use mathlib.Core.List.{List, [], ◌∷◌}
use Prim.{tt}
use Rattle.entities.specs.declared.Tolerance.{Tolerance}
use Rattle.rules.specs.Ops.{Command, SplitLane, MergeLanes, ConnectLanes, DisconnectLanes, SetNeighbor, RemoveLane, Call}
use Rattle.rules.specs.Demand.{Claim3}
use Rattle.laws.proofs.Law.{Lawful, AllLawful, demand_3}
use Rattle.laws.proofs.Lawful.{connect-lawful, disconnect-lawful, set_neighbor_lawful}
use Rattle.laws.proofs.RemoveLawful.{remove-lawful}
use Rattle.laws.proofs.MergeLawful.{merge-lawful}
use Rattle.laws.proofs.SplitLawful.{split-lawful}

pub lawful : (tol : Tolerance) (c : Command) → Lawful tol c
lawful tol (SplitLane i at neighbors) = split-lawful tol i at neighbors
lawful tol (MergeLanes a b) = merge-lawful tol a b
lawful tol (ConnectLanes a b) = connect-lawful tol a b
lawful tol (DisconnectLanes a b) = disconnect-lawful tol a b
lawful tol (SetNeighbor a side n) = set_neighbor_lawful tol a side n
lawful tol (RemoveLane a) = remove-lawful tol a

all-lawful : (tol : Tolerance) (calls : List Call) → AllLawful tol calls
all-lawful tol [] = tt
all-lawful tol (c ∷ cs) = (lawful tol c.command, all-lawful tol cs)

pub claim_3 : Claim3
claim_3 tol room s sane calls = demand_3 tol room s sane calls (all-lawful tol calls)
