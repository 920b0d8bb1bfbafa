-- remove_lane and merge_lanes: at most a lane and two boundaries for each lane named are deleted. Assumes nothing.
use Rattle.std.specs.Prelude.{Option, None, Some, Ok}
use mathlib.Core.Path.{◌≡◌}
use Prim.Native.Nat.{ℕ, ◌+◌, ◌*◌, ◌≤◌}
use native.Mathlib.Omega.{arith}
use mathlib.Core.Bool.{Bool, not, ◌||◌}
use mathlib.Core.List.{List, [], ◌∷◌, ◌++◌, map}
use lib.Dec.{eqb}
use lib.ListN.{length, length-map}
use Rattle.lists.specs.Select.{keep, same_numbers}
use Rattle.lists.proofs.Select.{length-keep}
use Rattle.entities.specs.declared.Tolerance.{Tolerance}
use Rattle.entities.specs.declared.Side.TheVariants as S
use Rattle.entities.specs.declared.Neighbor.{Neighbor}
use Rattle.entities.specs.declared.EntityKind.TheVariants as K
use Rattle.entities.specs.declared.IssueCode.TheVariants as C
use Rattle.entities.specs.declared.Refusal.TheVariants as R
use Rattle.entities.specs.Types.{lane_entity}
use Rattle.entities.specs.Records.{Lane, Boundary, Map}
use Rattle.rules.specs.Map.{names}
use Rattle.rules.specs.Limits.{max_lanes, max_boundaries}
use Rattle.rules.specs.Sound.{next_id}
use Rattle.rules.specs.Edit.{check, Edited, require_lane, refs, boundaries_where, warning, when}
use Rattle.rules.specs.Lane.{unused, orphan, orphaned, remove_lane}
use Rattle.rules.specs.Merge.{SidePlan, kept, in_place, fresh, side_plan, plan_ids, plan_joins, plan_warning, conflict, dropped, merged, merge_lanes}
use Rattle.rules.specs.Ops.{RemoveLane, MergeLanes, State, edit}
use Rattle.laws.proofs.SplitPlans.{bound}
use Rattle.laws.proofs.Merge.{merged_lanes}
use Rattle.list_limits.proofs.Counts.{both-few, when-few, refs-few, where_few, unused-few}
use Rattle.list_limits.proofs.Few.{Sized, rows_few, Few, few-of}

-- the lane, and the boundaries that fall out of use
gone_few : (m : Map) → Sized m → (i : ℕ) (named left : List Lane)
    → length (refs K.Lane (i ∷ []) ++ boundaries_where (unused named left) m.boundaries) ≤ 1 + length named * 2
gone_few m s i named left =
    both-few (refs K.Lane (i ∷ [])) (boundaries_where (unused named left) m.boundaries) 1 (length named * 2) (omega arith)
    (refs-few K.Boundary (λ b. b.id) (keep (unused named left) m.boundaries) (length named * 2) (unused-few named left m.boundaries s.boundaries-up))

-- the lanes that stay
stay-few : (m : Map) → Sized m → (p : Lane → Bool) → length (keep p m.lanes) ≤ max_lanes
stay-few m s p = let a = length-keep p m.lanes in let b = s.lanes in omega arith

-- ---- merge_lanes: what a side gives

plan-ids-few : (p : SidePlan) → plan_ids p ≤ 1
plan-ids-few kept = omega arith
plan-ids-few (in_place c) = omega arith
plan-ids-few (fresh c) = omega arith

plan-few : (p : SidePlan) (next : ℕ) → length (plan_warning p next) ≤ 1
plan-few kept next = omega arith
plan-few (in_place c) next = omega arith
plan-few (fresh c) next = omega arith

dropped-few : (a : ℕ) (o first : Option Neighbor) → length (dropped a o first) ≤ 1
dropped-few a None first = omega arith
dropped-few a (Some n) first = when-few (not (names first n.lane)) (warning C.NeighborDropped (lane_entity a) (lane_entity n.lane ∷ []))

merged-few : (tol : Tolerance) (next : ℕ) (m : Map) → Sized m → (a b : Lane) (pl pr : SidePlan) → Few (merged tol next m a b pl pr)
unfolding merged
merged-few tol next m s a b pl pr =
    let rest = keep (λ l. not (eqb l.id b.id)) m.lanes in
    let differ = warning C.AttributeConflict (lane_entity a.id) (lane_entity b.id ∷ []) in
    let left = dropped a.id b.left_neighbor a.left_neighbor in
    let right = dropped a.id b.right_neighbor a.right_neighbor in
    let plans = plan_warning pl next ++ plan_warning pr (next + plan_ids pl) in
    let drawn : Boundary → Bool = λ x. plan_joins pl a.left x.id || plan_joins pr a.right x.id in
    let il = plan-ids-few pl in
    let ir = plan-ids-few pr in
    let ws = both-few (when (conflict a b) differ) (left ++ (right ++ plans)) 1 4 (when-few (conflict a b) differ)
    (both-few left (right ++ plans) 1 3 (dropped-few a.id b.left_neighbor a.left_neighbor)
    (both-few right plans 1 2 (dropped-few a.id b.right_neighbor a.right_neighbor)
    (both-few (plan_warning pl next) (plan_warning pr (next + plan_ids pl)) 1 1 (plan-few pl next) (plan-few pr (next + plan_ids pl))))) in
    record {
      ids = omega arith;
      modified = rows_few m s rest (boundaries_where drawn m.boundaries) (stay-few m s _) (where_few K.Boundary (λ x. x.id) drawn m.boundaries max_boundaries s.boundaries) _ _ _ _;
      deleted = gone_few m s b.id (a ∷ b ∷ []) (merged_lanes tol next m a b pl pr);
      warnings = omega arith;
    }

-- ---- both edits

module _ (tol : Tolerance) (s : State) (m : Sized s.map) (e : Edited) where
  pub remove-few : (a : ℕ) → edit tol (RemoveLane a) s ≡ Ok e → Few e
  unfolding edit remove_lane
  remove-few a h =
      let (gone, e1, h1) = bound (require_lane s.map a) _ e h in
      let left = keep (λ l. not (eqb l.id a)) s.map.lanes in
      let orphans = keep (orphaned a) s.map.rules in
      let b = length-map orphans orphan in
      let c = length-keep (orphaned a) s.map.rules in
      let d = m.rules in
      let g = gone_few s.map m a (gone ∷ []) left in
      few-of h1
      (record {
        ids = omega arith;
        modified = rows_few s.map m left [] (stay-few s.map m _) (omega arith) _ _ _ _;
        deleted = omega arith;
        warnings = omega arith;
      })

  pub merge-few : (a b : ℕ) → edit tol (MergeLanes a b) s ≡ Ok e → Few e
  unfolding edit merge_lanes
  merge-few a b h =
      let (la, e1, h1) = bound (require_lane s.map a) _ e h in
      let (lb, e2, h2) = bound (require_lane s.map b) _ e h1 in
      let (ok, e3, h3) = bound (check (not (eqb a b)) (R.NotMergeable a)) _ e h2 in
      let (ok2, e4, h4) = bound (check (same_numbers la.successors (b ∷ [])) (R.NotMergeable a)) _ e h3 in
      let (ok3, e5, h5) = bound (check (same_numbers lb.predecessors (a ∷ [])) (R.NotMergeable a)) _ e h4 in
      let (pl, el, h6) = bound (side_plan tol s.map S.Left la lb) _ e h5 in
      let (pr, er, h7) = bound (side_plan tol s.map S.Right la lb) _ e h6 in
      few-of h7 (merged-few tol (next_id s.counter) s.map m la lb pl pr)
