-- Lists of `enough` places refuse no edit. Assumes nothing.
use Rattle.std.specs.Prelude.{Ok}
use mathlib.Core.Path.{◌≡◌, refl}
use mathlib.Core.Bool.{true}
use Rattle.entities.specs.declared.Tolerance.{Tolerance}
use Rattle.rules.specs.Sound.{sound, within_limits}
use Rattle.rules.specs.Edit.{Edited}
use Rattle.rules.specs.Ops.{Command, SplitLane, MergeLanes, ConnectLanes, DisconnectLanes, SetNeighbor, RemoveLane, State, edit, fits_lists}
use Rattle.laws.proofs.Allocated.{allocated}
use Rattle.list_limits.specs.Enough.{enough}
use Rattle.list_limits.proofs.Few.{Sized, sized, Few, few-fits}
use Rattle.list_limits.proofs.Relinks.{connect-few, disconnect-few, set_neighbor_few}
use Rattle.list_limits.proofs.Leaves.{remove-few, merge-few}
use Rattle.list_limits.proofs.Splits.{split-few}

-- the numbers, as the header has them
pub enough-is : enough ≡ record { created = 2560; modified = 6144; deleted = 5; warnings = 2048 }
enough-is = refl

lists-few : (tol : Tolerance) (c : Command) (s : State) → Sized s.map → (e : Edited) → edit tol c s ≡ Ok e → within_limits e.result ≡ true → Few e
lists-few tol (SplitLane i at neighbors) s m e h within = split-few tol s m e i at neighbors h within
lists-few tol (MergeLanes a b) s m e h within = merge-few tol s m e a b h
lists-few tol (ConnectLanes a b) s m e h within = connect-few tol s m e a b h
lists-few tol (DisconnectLanes a b) s m e h within = disconnect-few tol s m e a b h
lists-few tol (SetNeighbor a side n) s m e h within = set_neighbor_few tol s m e a side n h
lists-few tol (RemoveLane a) s m e h within = remove-few tol s m e a h

pub enough-fits : (tol : Tolerance) (c : Command) (s : State) → sound s.counter s.map ≡ true → (e : Edited) → edit tol c s ≡ Ok e
    → within_limits e.result ≡ true → fits_lists enough e.changes ≡ true
enough-fits tol c s sane e h within = few-fits e (allocated tol c s e h) (lists-few tol c s (sized s.counter s.map sane) e h within)
