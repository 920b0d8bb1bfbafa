-- Demand 3 on lent memory, undivided: every list of the six edits, refused calls included, on any sound lent memory, with any tolerances and any lists lent.
-- Assumes nothing.
use mathlib.Core.Path.{◌≡◌}
use mathlib.Core.Bool.{true}
use mathlib.Core.List.{List, [], ◌∷◌}
use Prim.{tt}
use Rattle.rules.specs.Names.{Tolerance}
use Rattle.rules.specs.Ops as O
use Rattle.laws.proofs.Claim.{lawful}
use Rattle.tables.specs.Formed.{sound_tables}
use Rattle.step.specs.Run.{Held, Lending, TableDemand3}
use Rattle.step.proofs.Keeping.{Keeps, AllKeep, table_demand_3}
use Rattle.step.proofs.Relinking.{connect-keeps, disconnect-keeps, set_neighbor_keeps}
use Rattle.step.proofs.Removing.{remove-keeps}
use Rattle.step.proofs.Laying.{merge_keeps, split-keeps}

-- every edit keeps lent memory
pub keeps : (tol : Tolerance) (c : O.Command) → Keeps tol c
keeps tol (O.SplitLane i at neighbors) = split-keeps tol i at neighbors
keeps tol (O.MergeLanes i j) = merge_keeps tol i j
keeps tol (O.ConnectLanes i j) = connect-keeps tol i j
keeps tol (O.DisconnectLanes i j) = disconnect-keeps tol i j
keeps tol (O.SetNeighbor i side n) = set_neighbor_keeps tol i side n
keeps tol (O.RemoveLane i) = remove-keeps tol i

all_keep : (tol : Tolerance) (cs : List Lending) → AllKeep tol cs
all_keep tol [] = tt
all_keep tol (c ∷ cs) = (lawful tol c.command, keeps tol c.command, all_keep tol cs)

pub demand_3_tables : (tol : Tolerance) (h : Held) → sound_tables h.counter h.tables ≡ true → (cs : List Lending) → TableDemand3 tol h cs
demand_3_tables tol h s cs = table_demand_3 tol h s cs (all_keep tol cs)
