-- connect, disconnect and set_neighbor: nothing is created or deleted, and at most two warnings are given. Assumes nothing.
use Rattle.std.specs.Prelude.{Option, None, Some, Ok}
use mathlib.Core.Path.{◌≡◌}
use Prim.Native.Nat.{ℕ, ◌≤◌}
use native.Mathlib.Omega.{arith}
use mathlib.Core.Bool.{Bool, not}
use mathlib.Core.List.{List, [], ◌∷◌}
use lib.Dec.{eqb}
use lib.ListN.{length}
use Rattle.entities.specs.declared.Tolerance.{Tolerance}
use Rattle.entities.specs.declared.Side.{Side}
use Rattle.entities.specs.declared.Neighbor.{Neighbor}
use Rattle.entities.specs.declared.EntityKind.TheVariants as K
use Rattle.entities.specs.declared.IssueCode.TheVariants as C
use Rattle.entities.specs.declared.Refusal.TheVariants as R
use Rattle.entities.specs.Types.{reciprocal_side, lane_entity}
use Rattle.entities.specs.Records.{Lane, Map, Issue}
use Rattle.rules.specs.Map.{lane, boundary_on, neighbor_on, leads_to}
use Rattle.rules.specs.Edit.{check, Edited, require_lane, require_neighbor, relinking, lanes_where, when, warning, no_op, gapped, same_slot, unshared, connect, disconnect, set_neighbor}
use Rattle.rules.specs.Ops.{ConnectLanes, DisconnectLanes, SetNeighbor, State, edit}
use Rattle.laws.proofs.SplitPlans.{bound}
use Rattle.list_limits.proofs.Counts.{both-few, when-few, where_few}
use Rattle.list_limits.proofs.Few.{Sized, Few, few-of}

relinking-few : (m n : Map) → Sized m → (p : Lane → Bool) (ws : List Issue) → length ws ≤ 2 → Few (relinking n (lanes_where p m.lanes) ws)
relinking-few m n s p ws h =
    let a = where_few K.Lane (λ l. l.id) p m.lanes 1024 s.lanes in
    record { ids = omega arith; modified = omega arith; deleted = omega arith; warnings = omega arith }

unshared-few : (m : Map) (l : Lane) (side : Side) (new : Option Neighbor) → length (unshared m l side new) ≤ 1
unshared-few m l side None = omega arith
unshared-few m l side (Some n) = go (lane m n.lane)
  where
    go : (o : Option Lane) → length {A = Issue} (elim o [
      | None ↦ []
      | Some o ↦
          when (not (eqb (boundary_on side l).boundary (boundary_on (reciprocal_side side n.direction) o).boundary))
          (warning C.BoundaryUnshared (lane_entity l.id) (lane_entity n.lane ∷ []))
    ]) ≤ 1
    go None = omega arith
    go (Some o) = when-few (not (eqb (boundary_on side l).boundary (boundary_on (reciprocal_side side n.direction) o).boundary)) (warning C.BoundaryUnshared (lane_entity l.id) (lane_entity n.lane ∷ []))

module _ (tol : Tolerance) (s : State) (m : Sized s.map) (e : Edited) where
  pub connect-few : (a b : ℕ) → edit tol (ConnectLanes a b) s ≡ Ok e → Few e
  unfolding edit connect
  connect-few a b h =
      let (from, e1, h1) = bound (require_lane s.map a) _ e h in
      let (to, e2, h2) = bound (require_lane s.map b) _ e h1 in
      let (ok, e3, h3) = bound (check (not (eqb a b)) (R.OwnPartner a)) _ e h2 in
      let linked = leads_to s.map a b in
      let apart = gapped tol.gap s.map from to in
      let gap = warning C.GeometricGap (lane_entity a) (lane_entity b ∷ []) in
      few-of h3 (relinking-few s.map _ m _ _ (both-few (when apart gap) (when linked (no_op a)) 1 1 (when-few apart gap) (when-few linked (no_op a))))

  pub disconnect-few : (a b : ℕ) → edit tol (DisconnectLanes a b) s ≡ Ok e → Few e
  unfolding edit disconnect
  disconnect-few a b h =
      let (from, e1, h1) = bound (require_lane s.map a) _ e h in
      let (to, e2, h2) = bound (require_lane s.map b) _ e h1 in
      let w = when-few (not (leads_to s.map a b)) (no_op a) in
      few-of h2 (relinking-few s.map _ m _ _ (omega arith))

  pub set_neighbor_few : (a : ℕ) (side : Side) (new : Option Neighbor) → edit tol (SetNeighbor a side new) s ≡ Ok e → Few e
  unfolding edit set_neighbor
  set_neighbor_few a side new h =
      let (l, e1, h1) = bound (require_lane s.map a) _ e h in
      let (ok, e2, h2) = bound (require_neighbor s.map a new) _ e h1 in
      let n = new in
      let same = same_slot (neighbor_on side l) n in
      few-of h2 (relinking-few s.map _ m _ _ (both-few (when same (no_op a)) (unshared s.map l side n) 1 1 (when-few same (no_op a)) (unshared-few s.map l side n)))
