-- Every created entity has one of the ids that its edit allocated: as many ids are allocated as entities are created. Assumes nothing, of the map too.
use Rattle.std.specs.Prelude.{Option, None, Some, Ok}
use Rattle.entities.specs.declared.Neighbor.{Neighbor}
use mathlib.Core.Path.{◌≡◌, refl, sym, ap, ◌∙◌, subst}
use mathlib.Core.Bool.{Bool, true, false, not, ◌&&◌, cond}
use mathlib.Core.List.{List, [], ◌∷◌, ◌++◌, map}
use Prim.Native.Nat.{ℕ, suc, ◌+◌}
use native.Mathlib.Nat.{add_comm}
use lib.Dec.{eqb}
use lib.Ieee.{Float}
use lib.ListN.{length, length-append, length-map}
use Rattle.lists.specs.Select.{each, same_numbers}
use Rattle.polyline.specs.Polyline.{concat, line_length, point_at}
use Rattle.entities.specs.declared.Tolerance.{Tolerance}
use Rattle.entities.specs.declared.SplitAt.{SplitAt}
use Rattle.entities.specs.declared.Side.{Side}
use Rattle.entities.specs.declared.Side.TheVariants as S
use Rattle.entities.specs.declared.BoundaryRef.{BoundaryRef}
use Rattle.entities.specs.declared.EntityKind.{EntityKind}
use Rattle.entities.specs.declared.EntityKind.TheVariants as K
use Rattle.entities.specs.declared.Refusal.TheVariants as R
use Rattle.entities.specs.Records.{Lane, Boundary, Map}
use Rattle.rules.specs.Map.{boundary, boundary_on, oriented_in, oriented, oriented_boundary, lanes_using_boundary, centerline, flat_point}
use Rattle.rules.specs.Sound.{next_id}
use Rattle.rules.specs.Edit.{check, require, Edited, require_lane, require_neighbor, refs, connect, disconnect, set_neighbor, Res}
use Rattle.rules.specs.Lane.{remove_lane}
use Rattle.rules.specs.Merge.{SidePlan, kept, joined, joined_lines, side_plan, plan_ids, new_boundary, merged, merge_lanes}
use Rattle.rules.specs.Split.{LanePlan, Piece, piece_ids, pieces_ids, new_piece, new_pieces, halves, cut_station, cuttable, lane_plans, all_cross, cut, group_of, split_lane}
use Rattle.rules.specs.Ops.{Command, SplitLane, MergeLanes, ConnectLanes, DisconnectLanes, SetNeighbor, RemoveLane, State, edit}
use Rattle.laws.proofs.Lawful.{yields, no-yield}
use Rattle.laws.proofs.Merge.{new_ones}
use Rattle.laws.proofs.MergePlans.{new-one}
use Rattle.laws.proofs.SplitPlans.{bound}
use Rattle.laws.proofs.SplitExact.{seconds}
use Rattle.laws.proofs.SplitYield.{cut_of, pieces_of, cut-yields}

-- ---- general

-- as many entities are created as ids are allocated
abbrev Counted : Edited → Type 0
Counted e = length e.changes.created ≡ e.ids

by-yield : {x e : Edited} → ◌≡◌ {A = Res Edited} (Ok x) (Ok e) → Counted x → Counted e
by-yield h t = subst Counted (yields h) t

named : {A : Type 0} (k : EntityKind) (id : A → ℕ) (xs : List A) → length (refs k (map id xs)) ≡ length xs
named k id xs = length-map (map id xs) (λ i. record { kind = k; id = i }) ∙ length-map xs id

-- ---- a merge: the boundaries that the plans of its two sides make

module _ (m : Map) (i : ℕ) where
  abbrev Makes : BoundaryRef → SidePlan → Type 0
  Makes r p = length (new_boundary m p i r) ≡ plan_ids p

  -- a new boundary takes after the first lane's, which is there
  joined-makes : (join : Float) (alone : Bool) (ra rb : BoundaryRef) (oa ob : Option Boundary) → boundary m ra.boundary ≡ oa → (p : SidePlan)
      → joined_lines join alone ra.boundary rb.boundary (oriented_in ra oa) (oriented_in rb ob) ≡ Ok p → Makes ra p
  joined-makes join alone ra rb None ob ea p h = absurd (no-yield (R.BoundaryAbsent ra.boundary) p h)
  joined-makes join alone ra rb (Some x) None ea p h = absurd (no-yield (R.BoundaryAbsent rb.boundary) p h)
  joined-makes join alone ra rb (Some x) (Some y) ea p h = subst (Makes ra) (yields h) (go alone)
    where
      go : (c : Bool) → Makes ra (joined c (concat join (oriented ra x) (oriented rb y)))
      go true = refl
      go false = ap length (new-one m i ra (concat join (oriented ra x) (oriented rb y)) x ea)

  side-makes : (tol : Tolerance) (side : Side) (a b : Lane) (p : SidePlan) → side_plan tol m side a b ≡ Ok p → Makes (boundary_on side a) p
  unfolding side_plan oriented_boundary
  side-makes tol side a b p h =
      let ra = (boundary_on side a).boundary in
      let rb = (boundary_on side b).boundary in
      go (eqb ra rb) (same_numbers (lanes_using_boundary m.lanes ra) (a.id ∷ []) && same_numbers (lanes_using_boundary m.lanes rb) (b.id ∷ [])) h
    where
      go : (c alone : Bool)
          → cond c (Ok kept) (joined_lines tol.join alone (boundary_on side a).boundary (boundary_on side b).boundary
          (oriented_in (boundary_on side a) (boundary m (boundary_on side a).boundary)) (oriented_in (boundary_on side b) (boundary m (boundary_on side b).boundary)))
          ≡ Ok p → Makes (boundary_on side a) p
      go true alone h = subst (Makes (boundary_on side a)) (yields h) refl
      go false alone h =
          joined-makes tol.join alone (boundary_on side a) (boundary_on side b) (boundary m (boundary_on side a).boundary) (boundary m (boundary_on side b).boundary) refl p h

merged-counted : (tol : Tolerance) (next : ℕ) (m : Map) (a b : Lane) (pl pr : SidePlan) → side_plan tol m S.Left a b ≡ Ok pl → side_plan tol m S.Right a b ≡ Ok pr
    → Counted (merged tol next m a b pl pr)
unfolding merged
merged-counted tol next m a b pl pr el er =
    let left = new_boundary m pl next a.left in
    let right = new_boundary m pr (next + plan_ids pl) a.right in
    named K.Boundary (λ x. x.id) (new_ones next m a pl pr)
    ∙ (length-append left right
    ∙ (ap (λ n. n + length right) (side-makes m next tol S.Left a b pl el) ∙ ap (λ n. plan_ids pl + n) (side-makes m (next + plan_ids pl) tol S.Right a b pr er)))

-- ---- a split: the second halves, and the new pieces of the boundaries

halves-many : (next : ℕ) (ps : List LanePlan) → length (halves next ps) ≡ length ps
unfolding halves
halves-many next [] = refl
halves-many next (x ∷ ps) = ap suc (halves-many (suc next) ps)

pieces-many : (xs : List Piece) → length (each new_pieces xs) ≡ pieces_ids xs
unfolding each pieces_ids
pieces-many [] = refl
pieces-many (x ∷ xs) =
    length-append (new_pieces x) (each new_pieces xs)
    ∙ (ap (λ n. n + length (each new_pieces xs)) (one x.alone (new_piece x.of x.first x.first_line) (new_piece x.of x.second x.second_line))
    ∙ ap (λ n. piece_ids x + n) (pieces-many xs))
  where
    one : (alone : Bool) (first second : Boundary) → length (cond alone [] (first ∷ []) ++ (second ∷ [])) ≡ cond alone 1 2
    one true first second = refl
    one false first second = refl

cut-counted : (tol : Tolerance) (start : ℕ) (m : Map) (i : ℕ) (group : List ℕ) (ps : List LanePlan) (xs : List Piece) (e : Edited) → cut tol start m i group ps xs ≡ e → Counted e
cut-counted tol start m i group ps xs e is =
    subst Counted (sym (cut-yields tol start m i group ps xs) ∙ is)
    (let next = start + pieces_ids xs in
    let lanes = refs K.Lane (seconds ps next) in
    let lines = refs K.Boundary (map (λ b. b.id) (each new_pieces xs)) in
    length-append lanes lines
    ∙ (ap (λ n. n + length lines) (named K.Lane (λ (h : ℕ × ℕ). h.1) (halves next ps) ∙ halves-many next ps)
    ∙ (ap (λ n. length ps + n) (named K.Boundary (λ b. b.id) (each new_pieces xs) ∙ pieces-many xs) ∙ add_comm (length ps) (pieces_ids xs))))

-- ---- the six commands

module _ (tol : Tolerance) (s : State) (e : Edited) where
  connect-counted : (a b : ℕ) → edit tol (ConnectLanes a b) s ≡ Ok e → Counted e
  unfolding edit connect
  connect-counted a b h =
      let m = s.map in
      let (from, e1, h1) = bound (require_lane m a) _ e h in
      let (to, e2, h2) = bound (require_lane m b) _ e h1 in
      let (ok, e3, h3) = bound (check (not (eqb a b)) (R.OwnPartner a)) _ e h2 in
      by-yield h3 refl

  disconnect-counted : (a b : ℕ) → edit tol (DisconnectLanes a b) s ≡ Ok e → Counted e
  unfolding edit disconnect
  disconnect-counted a b h =
      let m = s.map in
      let (from, e1, h1) = bound (require_lane m a) _ e h in
      let (to, e2, h2) = bound (require_lane m b) _ e h1 in
      by-yield h2 refl

  set_neighbor_counted : (a : ℕ) (side : Side) (new : Option Neighbor) → edit tol (SetNeighbor a side new) s ≡ Ok e → Counted e
  unfolding edit set_neighbor
  set_neighbor_counted a side new h =
      let m = s.map in
      let (l, e1, h1) = bound (require_lane m a) _ e h in
      let (ok, e2, h2) = bound (require_neighbor m a new) _ e h1 in
      by-yield h2 refl

  remove-counted : (a : ℕ) → edit tol (RemoveLane a) s ≡ Ok e → Counted e
  unfolding edit remove_lane
  remove-counted a h = let (gone, e1, h1) = bound (require_lane s.map a) _ e h in by-yield h1 refl

  merge-counted : (a b : ℕ) → edit tol (MergeLanes a b) s ≡ Ok e → Counted e
  unfolding edit merge_lanes
  merge-counted a b h =
      let m = s.map in
      let (la, e1, h1) = bound (require_lane m a) _ e h in
      let (lb, e2, h2) = bound (require_lane m b) _ e h1 in
      let (ok, e3, h3) = bound (check (not (eqb a b)) (R.NotMergeable a)) _ e h2 in
      let (ok2, e4, h4) = bound (check (same_numbers la.successors (b ∷ [])) (R.NotMergeable a)) _ e h3 in
      let (ok3, e5, h5) = bound (check (same_numbers lb.predecessors (a ∷ [])) (R.NotMergeable a)) _ e h4 in
      let (pl, el, h6) = bound (side_plan tol m S.Left la lb) _ e h5 in
      let (pr, er, h7) = bound (side_plan tol m S.Right la lb) _ e h6 in
      by-yield h7 (merged-counted tol (next_id s.counter) m la lb pl pr el er)

  split-counted : (i : ℕ) (at : SplitAt) (neighbors : Bool) → edit tol (SplitLane i at neighbors) s ≡ Ok e → Counted e
  unfolding edit split_lane
  split-counted i at neighbors h =
      let m = s.map in
      let start = next_id s.counter in
      let group = group_of m i neighbors in
      let (l, e1, h1) = bound (require_lane m i) _ e h in
      let (c, e2, h2) = bound (require (centerline m l) (R.NoUsableLine i)) _ e h1 in
      let (f, e3, h3) = bound (cut_station at (line_length c)) _ e h2 in
      let (ok, e4, h4) = bound (check (cuttable tol.piece c f) (R.PositionOutside i)) _ e h3 in
      let (p, e5, h5) = bound (require (flat_point (point_at c f)) (R.NoUsableLine i)) _ e h4 in
      let (ps, e6, h6) = bound (lane_plans tol m i f p (cut_of m group)) _ e h5 in
      let (ok2, e7, h7) = bound (all_cross m p (cut_of m group)) _ e h6 in
      cut-counted tol start m i group ps (pieces_of m group p start) e (yields h7)

-- every command, on every map
pub allocated : (tol : Tolerance) (c : Command) (s : State) (e : Edited) → edit tol c s ≡ Ok e → length e.changes.created ≡ e.ids
allocated tol (SplitLane i at neighbors) s e = split-counted tol s e i at neighbors
allocated tol (MergeLanes a b) s e = merge-counted tol s e a b
allocated tol (ConnectLanes a b) s e = connect-counted tol s e a b
allocated tol (DisconnectLanes a b) s e = disconnect-counted tol s e a b
allocated tol (SetNeighbor a side n) s e = set_neighbor_counted tol s e a side n
allocated tol (RemoveLane a) s e = remove-counted tol s e a
