-- What an edit creates has ids from the next one on. Assumes nothing, of the map too.
use Rattle.std.specs.Prelude.{Option, None, Some, Ok}
use Rattle.entities.specs.declared.Neighbor.{Neighbor}
use mathlib.Core.Path.{◌≡◌, refl, sym, ap, ◌∙◌, subst}
use mathlib.Core.Bool.{Bool, true, not}
use mathlib.Core.List.{List, [], ◌∷◌, ◌++◌, map}
use Prim.Native.Nat.{ℕ, suc, ◌+◌, ◌≤◌}
use native.Mathlib.Omega.{arith}
use lib.Dec.{eqb, leb}
use borrow.Author.Tests.{le-leb}
use Rattle.lists.specs.Every.{all}
use Rattle.lists.specs.Select.{each, same_numbers}
use Rattle.lists.proofs.Booleans.{and_both}
use Rattle.lists.proofs.Every.{all_nil, all_cons, all_append}
use Rattle.lists.proofs.Select.{all_map}
use Rattle.geometry.specs.declared.Point2.{Point2}
use Rattle.polyline.specs.Polyline.{line_length, point_at}
use Rattle.entities.specs.declared.Tolerance.{Tolerance}
use Rattle.entities.specs.declared.SplitAt.{SplitAt}
use Rattle.entities.specs.declared.Side.{Side}
use Rattle.entities.specs.declared.Side.TheVariants as S
use Rattle.entities.specs.declared.BoundaryRef.{BoundaryRef}
use Rattle.entities.specs.declared.EntityKind.{EntityKind}
use Rattle.entities.specs.declared.EntityKind.TheVariants as K
use Rattle.entities.specs.declared.EntityRef.{EntityRef}
use Rattle.entities.specs.declared.Refusal.TheVariants as R
use Rattle.entities.specs.Records.{Lane, Boundary, Map}
use Rattle.rules.specs.Map.{boundary, centerline, flat_point}
use Rattle.rules.specs.Sound.{next_id}
use Rattle.rules.specs.Edit.{check, require, Edited, require_lane, require_neighbor, refs, connect, disconnect, set_neighbor, Res}
use Rattle.rules.specs.Lane.{remove_lane}
use Rattle.rules.specs.Merge.{SidePlan, kept, in_place, fresh, side_plan, plan_ids, new_boundary, merged, merge_lanes}
use Rattle.rules.specs.Split.{LanePlan, pieces_ids, new_pieces, halves, cut_station, cuttable, lane_plans, all_cross, cut, group_of, split_lane}
use Rattle.rules.specs.Ops.{Command, SplitLane, MergeLanes, ConnectLanes, DisconnectLanes, SetNeighbor, RemoveLane, State, edit}
use Rattle.laws.proofs.Lawful.{yields}
use Rattle.laws.proofs.SplitPlans.{bound}
use Rattle.laws.proofs.SplitPieces.{up-from, piece-ids}
use Rattle.laws.proofs.SplitExact.{seconds}
use Rattle.laws.proofs.SplitYield.{cut_of, drawn_of, pieces_of, cut-yields}

-- ---- general

abbrev From : ℕ → List EntityRef → Type 0
From next es = all (λ e. leb next e.id) es ≡ true

abbrev CreatedFrom : ℕ → Edited → Type 0
CreatedFrom next e = From next e.changes.created

by-yield : (next : ℕ) {x e : Edited} → ◌≡◌ {A = Res Edited} (Ok x) (Ok e) → CreatedFrom next x → CreatedFrom next e
by-yield next h t = subst (CreatedFrom next) (yields h) t

refs-from : (next : ℕ) (k : EntityKind) (ids : List ℕ) → all (leb next) ids ≡ true → From next (refs k ids)
refs-from next k ids h = all_map (λ e. leb next e.id) (λ i. record { kind = k; id = i }) ids ∙ h

none_from : (next : ℕ) → From next []
none_from next = all_nil (λ e. leb next e.id)

-- ---- a merge

side-from : (m : Map) (p : SidePlan) (next i : ℕ) (r : BoundaryRef) → next ≤ i → all (λ b. leb next b.id) (new_boundary m p i r) ≡ true
side-from m kept next i r h = all_nil (λ (x : Boundary). leb next x.id)
side-from m (in_place c) next i r h = all_nil (λ (x : Boundary). leb next x.id)
side-from m (fresh c) next i r h = go (boundary m r.boundary)
  where
    go : (o : Option Boundary)
        → all (λ (x : Boundary). leb next x.id) (elim o [ None ↦ [] | Some b ↦ record { id = i; kind = b.kind; geometry = c; attributes = b.attributes } ∷ [] ]) ≡ true
    go None = all_nil (λ (x : Boundary). leb next x.id)
    go (Some b) =
        all_cons (λ (x : Boundary). leb next x.id) (record { id = i; kind = b.kind; geometry = c; attributes = b.attributes }) [] (le-leb next i h)
        (all_nil (λ (x : Boundary). leb next x.id))

merged-from : (tol : Tolerance) (next : ℕ) (m : Map) (a b : Lane) (pl pr : SidePlan) → CreatedFrom next (merged tol next m a b pl pr)
unfolding merged
merged-from tol next m a b pl pr =
    let left = new_boundary m pl next a.left in
    let right = new_boundary m pr (next + plan_ids pl) a.right in
    refs-from next K.Boundary (map (λ x. x.id) (left ++ right))
    (all_map (leb next) (λ x. x.id) (left ++ right)
    ∙ all_append (λ x. leb next x.id) left right (side-from m pl next next a.left (omega arith))
    (side-from m pr next (next + plan_ids pl) a.right (omega arith)))

-- ---- a split

seconds-from : (start next : ℕ) (ps : List LanePlan) → start ≤ next → all (leb start) (seconds ps next) ≡ true
unfolding halves all
seconds-from start next [] h = refl
seconds-from start next (x ∷ ps) h = and_both (leb start next) (all (leb start) (seconds ps (suc next))) (le-leb start next h) (seconds-from start (suc next) ps (omega arith))

cut-from : (tol : Tolerance) (start : ℕ) (m : Map) (i : ℕ) (group : List ℕ) (p : Point2) (ps : List LanePlan) → CreatedFrom start (cut tol start m i group ps (pieces_of m group p start))
cut-from tol start m i group p ps =
    let xs = pieces_of m group p start in
    let lines = map (λ b. b.id) (each new_pieces xs) in
    subst (CreatedFrom start) (sym (cut-yields tol start m i group ps xs))
    (all_append (λ e. leb start e.id) (refs K.Lane (seconds ps (start + pieces_ids xs))) (refs K.Boundary lines)
    (refs-from start K.Lane (seconds ps (start + pieces_ids xs)) (seconds-from start (start + pieces_ids xs) ps (omega arith)))
    (refs-from start K.Boundary lines (ap (all (leb start)) (piece-ids group m.lanes p start (drawn_of m group)) ∙ up-from start (pieces_ids xs) start (omega arith))))

-- ---- the six commands

module _ (tol : Tolerance) (s : State) (e : Edited) where
  abbrev next : ℕ
  next = next_id s.counter

  connect-from : (a b : ℕ) → edit tol (ConnectLanes a b) s ≡ Ok e → CreatedFrom next e
  unfolding edit connect
  connect-from a b h =
      let m = s.map in
      let (from, e1, h1) = bound (require_lane m a) _ e h in
      let (to, e2, h2) = bound (require_lane m b) _ e h1 in
      let (ok, e3, h3) = bound (check (not (eqb a b)) (R.OwnPartner a)) _ e h2 in
      by-yield next h3 (none_from next)

  disconnect-from : (a b : ℕ) → edit tol (DisconnectLanes a b) s ≡ Ok e → CreatedFrom next e
  unfolding edit disconnect
  disconnect-from a b h =
      let m = s.map in
      let (from, e1, h1) = bound (require_lane m a) _ e h in
      let (to, e2, h2) = bound (require_lane m b) _ e h1 in
      by-yield next h2 (none_from next)

  set_neighbor_from : (a : ℕ) (side : Side) (new : Option Neighbor) → edit tol (SetNeighbor a side new) s ≡ Ok e → CreatedFrom next e
  unfolding edit set_neighbor
  set_neighbor_from a side new h =
      let m = s.map in
      let (l, e1, h1) = bound (require_lane m a) _ e h in
      let (ok, e2, h2) = bound (require_neighbor m a new) _ e h1 in
      by-yield next h2 (none_from next)

  remove-from : (a : ℕ) → edit tol (RemoveLane a) s ≡ Ok e → CreatedFrom next e
  unfolding edit remove_lane
  remove-from a h = let (gone, e1, h1) = bound (require_lane s.map a) _ e h in by-yield next h1 (none_from next)

  merge-from : (a b : ℕ) → edit tol (MergeLanes a b) s ≡ Ok e → CreatedFrom next e
  unfolding edit merge_lanes
  merge-from a b h =
      let m = s.map in
      let (la, e1, h1) = bound (require_lane m a) _ e h in
      let (lb, e2, h2) = bound (require_lane m b) _ e h1 in
      let (ok, e3, h3) = bound (check (not (eqb a b)) (R.NotMergeable a)) _ e h2 in
      let (ok2, e4, h4) = bound (check (same_numbers la.successors (b ∷ [])) (R.NotMergeable a)) _ e h3 in
      let (ok3, e5, h5) = bound (check (same_numbers lb.predecessors (a ∷ [])) (R.NotMergeable a)) _ e h4 in
      let (pl, el, h6) = bound (side_plan tol m S.Left la lb) _ e h5 in
      let (pr, er, h7) = bound (side_plan tol m S.Right la lb) _ e h6 in
      by-yield next h7 (merged-from tol next m la lb pl pr)

  split_from : (i : ℕ) (at : SplitAt) (neighbors : Bool) → edit tol (SplitLane i at neighbors) s ≡ Ok e → CreatedFrom next e
  unfolding edit split_lane
  split_from i at neighbors h =
      let m = s.map in
      let group = group_of m i neighbors in
      let (l, e1, h1) = bound (require_lane m i) _ e h in
      let (c, e2, h2) = bound (require (centerline m l) (R.NoUsableLine i)) _ e h1 in
      let (f, e3, h3) = bound (cut_station at (line_length c)) _ e h2 in
      let (ok, e4, h4) = bound (check (cuttable tol.piece c f) (R.PositionOutside i)) _ e h3 in
      let (p, e5, h5) = bound (require (flat_point (point_at c f)) (R.NoUsableLine i)) _ e h4 in
      let (ps, e6, h6) = bound (lane_plans tol m i f p (cut_of m group)) _ e h5 in
      let (ok2, e7, h7) = bound (all_cross m p (cut_of m group)) _ e h6 in
      by-yield next h7 (cut-from tol next m i group p ps)

-- every command, on every map
pub created-from : (tol : Tolerance) (c : Command) (s : State) (e : Edited) → edit tol c s ≡ Ok e → all (λ x. leb (next_id s.counter) x.id) e.changes.created ≡ true
created-from tol (SplitLane i at neighbors) s e = split_from tol s e i at neighbors
created-from tol (MergeLanes a b) s e = merge-from tol s e a b
created-from tol (ConnectLanes a b) s e = connect-from tol s e a b
created-from tol (DisconnectLanes a b) s e = disconnect-from tol s e a b
created-from tol (SetNeighbor a side n) s e = set_neighbor_from tol s e a side n
created-from tol (RemoveLane a) s e = remove-from tol s e a
