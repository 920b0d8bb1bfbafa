-- split_lane: the finished map has a lane more for each lane that is cut, so at most half of its lanes are cut. Assumes nothing.
use Rattle.std.specs.Prelude.{Option, None, Some, Ok}
use mathlib.Core.Path.{◌≡◌, refl, sym, ap, ◌∙◌, subst}
use Prim.Native.Nat.{ℕ, suc, ◌+◌, ◌*◌, ◌≤◌}
use native.Mathlib.Omega.{arith}
use mathlib.Core.Bool.{Bool, true, false, not, cond}
use mathlib.Core.List.{List, [], ◌∷◌, ◌++◌, map}
use lib.ListN.{length, length-append, length-map}
use borrow.Author.Tests.{leb-true}
use Rattle.lists.specs.Select.{each, has, second_of}
use Rattle.lists.proofs.Select.{length-keep}
use Rattle.geometry.specs.declared.Point2.{Point2}
use Rattle.polyline.specs.Polyline.{line_length, point_at}
use Rattle.entities.specs.declared.Tolerance.{Tolerance}
use Rattle.entities.specs.declared.SplitAt.{SplitAt}
use Rattle.entities.specs.declared.Neighbor.{Neighbor}
use Rattle.entities.specs.declared.EntityKind.TheVariants as K
use Rattle.entities.specs.declared.IssueCode.TheVariants as C
use Rattle.entities.specs.declared.Refusal.TheVariants as R
use Rattle.entities.specs.Types.{lane_entity, boundary_entity}
use Rattle.entities.specs.Records.{Lane, Boundary, Map, Issue}
use Rattle.rules.specs.Limits.{max_lanes, max_boundaries}
use Rattle.rules.specs.Map.{centerline, flat_point}
use Rattle.rules.specs.Sound.{within_limits, next_id}
use Rattle.rules.specs.Edit.{check, require, Edited, require_lane, boundaries_where, warning}
use Rattle.rules.specs.Split.{LanePlan, Piece, piece_ids, piece_of, pieces, pieces_ids, halves, second_halves, cut_lane, unshared_piece, dropped_beside, dropped_all, cut_station, cuttable, lane_plans, all_cross, cut, group_of, split_lane}
use Rattle.rules.specs.Ops.{SplitLane, State, edit}
use Rattle.laws.proofs.Lawful.{yields}
use Rattle.laws.proofs.SplitPlans.{bound, plans-of}
use Rattle.laws.proofs.SplitRows.{boundary_test}
use Rattle.laws.proofs.SplitYield.{cut_of, drawn_of, pieces_of, yielded, cut-yields}
use Rattle.sound_facts.proofs.Room.{limits}
use Rattle.list_limits.specs.Enough.{max_cut}
use Rattle.list_limits.proofs.Counts.{both-few, each-few, when-few, where_few, lanes_use}
use Rattle.list_limits.proofs.Few.{Sized, rows_few, Few}

-- ---- how many pieces, ids and lanes

pieces-many : (group : List ℕ) (ls : List Lane) (p : Point2) (next : ℕ) (bs : List Boundary) → length (pieces group ls p next bs) ≡ length bs
unfolding pieces
pieces-many group ls p next [] = refl
pieces-many group ls p next (b ∷ bs) = ap suc (pieces-many group ls p (next + piece_ids (piece_of group ls p next b)) bs)

ids_few : (xs : List Piece) → pieces_ids xs ≤ length xs * 2
unfolding pieces_ids
ids_few [] = omega arith
ids_few (x ∷ xs) = let a = one x.alone in let b = ids_few xs in omega arith
  where
    one : (alone : Bool) → cond alone 1 2 ≤ 2
    one true = omega arith
    one false = omega arith

seconds-many : (xs : List Piece) (hs : List (ℕ × ℕ)) (next : ℕ) (ps : List LanePlan) → length (second_halves xs hs next ps) ≡ length ps
unfolding second_halves
seconds-many xs hs next [] = refl
seconds-many xs hs next (x ∷ ps) = ap suc (seconds-many xs hs (suc next) ps)

-- ---- warnings: one for each piece, and one for each slot of a lane

beside-few : (hs : List (ℕ × ℕ)) (j : ℕ) (o : Option Neighbor) → length (dropped_beside hs j o) ≤ 1
beside-few hs j None = omega arith
beside-few hs j (Some n) = go (second_of hs n.lane)
  where
    go : (o : Option ℕ) → length {A = Issue} (elim o [ None ↦ warning C.NeighborDropped (lane_entity j) (lane_entity n.lane ∷ []) ∷ [] | Some k ↦ [] ]) ≤ 1
    go None = omega arith
    go (Some k) = omega arith

dropped-few : (hs : List (ℕ × ℕ)) (next : ℕ) (ps : List LanePlan) → length (dropped_all hs next ps) ≤ length ps * 2
unfolding dropped_all
dropped-few hs next [] = omega arith
dropped-few hs next (x ∷ ps) =
    let l = x.of.left_neighbor in
    let r = x.of.right_neighbor in
    let rest = dropped_all hs (suc next) ps in
    let a = both-few (dropped_beside hs next l) (dropped_beside hs next r ++ rest) 1 (1 + length ps * 2) (beside-few hs next l)
    (both-few (dropped_beside hs next r) rest 1 (length ps * 2) (beside-few hs next r) (dropped-few hs (suc next) ps)) in
    omega arith

unshared-few : (x : Piece) → length (unshared_piece x) ≤ 1
unshared-few x = when-few (not x.alone) (warning C.BoundaryUnshared (boundary_entity x.of.id) (boundary_entity x.first ∷ boundary_entity x.second ∷ []))

-- ---- what is yielded

module _ (tol : Tolerance) (start : ℕ) (m : Map) (s : Sized m) (i : ℕ) (group : List ℕ) (p : Point2) (ps : List LanePlan)
    (planned : map (λ x. x.of) ps ≡ cut_of m group) where
  abbrev xs : List Piece
  xs = pieces_of m group p start

  plans-many : length ps ≡ length (cut_of m group)
  plans-many = let a = length-map ps (λ x. x.of) in sym a ∙ ap length planned

  abbrev done : Edited
  done = yielded tol start m i group ps xs

  cuts-few : within_limits done.result ≡ true → length ps ≤ max_cut
  cuts-few within =
      let next = start + pieces_ids xs in
      let hs = halves next ps in
      let old = map (cut_lane ps xs hs) m.lanes in
      let a = leb-true (length done.result.lanes) max_lanes (limits done.result within).lanes in
      omega (arith, a, length-append old (second_halves xs hs next ps), length-map m.lanes (cut_lane ps xs hs), seconds-many xs hs next ps, plans-many, length-keep (λ x. has x.id group) m.lanes)

  pieces-few : length xs ≤ length ps * 2
  pieces-few = let a = lanes_use (cut_of m group) m.boundaries s.boundaries-up in omega (arith, a, plans-many, pieces-many group m.lanes p start (drawn_of m group))

  yielded_few : within_limits done.result ≡ true → Few done
  yielded_few within =
      let next = start + pieces_ids xs in
      let hs = halves next ps in
      let a = cuts-few within in
      let b = pieces-few in
      let c = ids_few xs in
      let d = both-few (each unshared_piece xs) (dropped_all hs next ps) (length xs * 1) (length ps * 2) (each-few unshared_piece 1 unshared-few xs) (dropped-few hs next ps) in
      record {
        ids = omega arith;
        modified = rows_few m s m.lanes (boundaries_where (boundary_test xs) m.boundaries) s.lanes (where_few K.Boundary (λ x. x.id) (boundary_test xs) m.boundaries max_boundaries s.boundaries) _ _ _ _;
        deleted = omega arith;
        warnings = omega arith;
      }

  pub cut_few : (e : Edited) → cut tol start m i group ps (pieces_of m group p start) ≡ e → within_limits e.result ≡ true → Few e
  cut_few e is within =
      let q : done ≡ e = sym (cut-yields tol start m i group ps xs) ∙ is in
      subst Few q (yielded_few (ap (λ x. within_limits x.result) q ∙ within))

module _ (tol : Tolerance) (s : State) (m : Sized s.map) (e : Edited) where
  pub split-few : (i : ℕ) (at : SplitAt) (neighbors : Bool) → edit tol (SplitLane i at neighbors) s ≡ Ok e → within_limits e.result ≡ true → Few e
  unfolding edit split_lane
  split-few i at neighbors h within =
      let group = group_of s.map i neighbors in
      let (l, e1, h1) = bound (require_lane s.map i) _ e h in
      let (c, e2, h2) = bound (require (centerline s.map l) (R.NoUsableLine i)) _ e h1 in
      let (f, e3, h3) = bound (cut_station at (line_length c)) _ e h2 in
      let (ok, e4, h4) = bound (check (cuttable tol.piece c f) (R.PositionOutside i)) _ e h3 in
      let (p, e5, h5) = bound (require (flat_point (point_at c f)) (R.NoUsableLine i)) _ e h4 in
      let (ps, e6, h6) = bound (lane_plans tol s.map i f p (cut_of s.map group)) _ e h5 in
      let (ok2, e7, h7) = bound (all_cross s.map p (cut_of s.map group)) _ e h6 in
      cut_few tol (next_id s.counter) s.map m i group p ps (plans-of tol s.map i f p (cut_of s.map group) ps e6) e (yields h7) within
