-- merge_lanes and split_lane keep lent memory: all lines of the new map are laid out anew. Assumes nothing.
use Rattle.std.specs.Prelude.{Ok}
use mathlib.Core.Path.{◌≡◌, refl, subst}
use mathlib.Core.Bool.{Bool, true, not}
use mathlib.Core.List.{List, [], ◌∷◌, map}
use Prim.Native.Nat.{ℕ, ◌+◌}
use lib.Dec.{eqb}
use lib.Ieee.{Float}
use Rattle.lists.specs.Select.{without, same_numbers, insert_after}
use Rattle.lists.proofs.Select.{keys-map}
use Rattle.geometry.specs.declared.Point2.{Point2}
use Rattle.polyline.specs.Polyline.{line_length, point_at}
use Rattle.entities.specs.Records.{Lane, Boundary, Rule, Map}
use Rattle.rules.specs.Names.{Tolerance, Left, Right, SplitAt, NotMergeable, NoUsableLine, PositionOutside}
use Rattle.rules.specs.Map.{centerline, flat_point}
use Rattle.rules.specs.Sound.{next_id}
use Rattle.rules.specs.Edit.{Res, ◌>>=◌, check, require, require_lane, Edited}
use Rattle.rules.specs.Lane.{road_lanes, junction_lanes, rule_lanes}
use Rattle.rules.specs.Merge.{SidePlan, side_plan, replace_lane, merged, merge_lanes}
use Rattle.rules.specs.Split.{LanePlan, Piece, pieces_ids, halves, cut_station, cuttable, lane_plans, all_cross, cut, group_of, split_lane}
use Rattle.rules.specs.Ops as O
use Rattle.laws.proofs.Lawful.{yields}
use Rattle.laws.proofs.MergeLawful.{merge-lawful}
use Rattle.laws.proofs.SplitYield.{cut_of, pieces_of, following}
use Rattle.laws.proofs.SplitLawful.{split-lawful}
use Rattle.tables.specs.View.{Tables, view}
use Rattle.tables.specs.Formed.{sound_tables}
use Rattle.store.specs.Laid.{laid}
use Rattle.sound_facts.proofs.Laid.{SameBeside, view-laid, lengths-laid, kept-laid}
use Rattle.step.proofs.Keeping.{Keeps, Writable, Writes, writes-keep}
use Rattle.step.proofs.Relinking.{goes_on}

-- ---- a map laid out anew

laid-writable : (counter : ℕ) (t : Tables) → sound_tables counter t ≡ true → (d e : Edited) → SameBeside t d.result → ◌≡◌ {A = Res Edited} (Ok d) (Ok e) → Writable laid counter t e
laid-writable counter t s d e same h =
    let next = O.counter_after counter d.ids in
    let m = d.result in
    subst (Writable laid counter t) (yields h) (λ sane room.
    record {
      stays_sound = kept-laid counter next t s m sane room same;
      map-held = view-laid counter next t s m sane room same;
      lengths_left = lengths-laid counter next t s m sane room same;
    })

-- other lanes and boundaries, and lists of lanes: roads, junctions and rules keep their ids, stop lines and crosswalks stay
same_beside : (t : Tables) (ls : List Lane) (bs : List Boundary) (listed ranked : List ℕ → List ℕ) (own : Rule → List ℕ → List ℕ)
    → SameBeside t
    (record {
      lanes = ls;
      boundaries = bs;
      roads = map (road_lanes listed) (view t).roads;
      junctions = map (junction_lanes listed) (view t).junctions;
      rules = map (λ r. rule_lanes (own r) ranked r) (view t).rules;
      stop_lines = (view t).stop_lines;
      crosswalks = (view t).crosswalks;
    })
same_beside t ls bs listed ranked own =
    record {
      roads = keys-map (λ r. r.id) (road_lanes listed) (λ r. refl) (view t).roads;
      junctions = keys-map (λ j. j.id) (junction_lanes listed) (λ j. refl) (view t).junctions;
      rules = keys-map (λ r. r.id) (λ r. rule_lanes (own r) ranked r) (λ r. refl) (view t).rules;
      stop_lines = refl;
      crosswalks = refl;
    }

-- ---- merge_lanes

merged-beside : (tol : Tolerance) (next : ℕ) (t : Tables) (a b : Lane) (pl pr : SidePlan) → SameBeside t (merged tol next (view t) a b pl pr).result
unfolding merged
merged-beside tol next t a b pl pr =
    let read = replace_lane a.id b.id in
    same_beside t _ _ (without b.id) read (λ r. read)

module _ (tol : Tolerance) (a b : ℕ) where
  merge-writes : Writes tol (O.MergeLanes a b)
  unfolding O.edit merge_lanes
  merge-writes counter t s e h =
      let m = view t in
      let (first, h1) = goes_on (require_lane m a) _ e h in
      let (second, h2) = goes_on (require_lane m b) _ e h1 in
      let (ok, h3) = goes_on (check (not (eqb a b)) (NotMergeable a)) _ e h2 in
      let (ok2, h4) = goes_on (check (same_numbers first.successors (b ∷ [])) (NotMergeable a)) _ e h3 in
      let (ok3, h5) = goes_on (check (same_numbers second.predecessors (a ∷ [])) (NotMergeable a)) _ e h4 in
      let (pl, h6) = goes_on (side_plan tol m Left first second) _ e h5 in
      let (pr, h7) = goes_on (side_plan tol m Right first second) _ e h6 in
      let next = next_id counter in
      laid-writable counter t s (merged tol next m first second pl pr) e (merged-beside tol next t first second pl pr) h7

  pub merge_keeps : Keeps tol (O.MergeLanes a b)
  merge_keeps = writes-keep tol (O.MergeLanes a b) (merge-lawful tol a b) merge-writes

-- ---- split_lane

cut-beside : (tol : Tolerance) (next : ℕ) (t : Tables) (i : ℕ) (group : List ℕ) (ps : List LanePlan) (xs : List Piece) → SameBeside t (cut tol next (view t) i group ps xs).result
unfolding cut
cut-beside tol next t i group ps xs =
    let start = next + pieces_ids xs in
    let gains = insert_after (halves start ps) in
    same_beside t _ _ gains gains (following tol (view t) ps xs start)

module _ (tol : Tolerance) (i : ℕ) (at : SplitAt) (neighbors : Bool) where
  -- the last steps of the definition: each lane of the group, then their boundaries
  abbrev cutting : ℕ → Map → Point2 → List LanePlan → Edited
  cutting next m p ps = cut tol next m i (group_of m i neighbors) ps (pieces_of m (group_of m i neighbors) p next)

  abbrev planning : ℕ → Map → Float → Point2 → Res Edited
  planning next m f p =
      let ls = cut_of m (group_of m i neighbors) in
      lane_plans tol m i f p ls >>= (λ ps. all_cross m p ls >>= (λ ok. Ok (cutting next m p ps)))

  planned-writes : (counter : ℕ) (t : Tables) → sound_tables counter t ≡ true → (e : Edited) (f : Float) (p : Point2) → planning (next_id counter) (view t) f p ≡ Ok e
      → Writable laid counter t e
  planned-writes counter t s e f p h =
      let m = view t in
      let next = next_id counter in
      let ls = cut_of m (group_of m i neighbors) in
      let (ps, h1) = goes_on (lane_plans tol m i f p ls) (λ ps. all_cross m p ls >>= (λ ok. Ok (cutting next m p ps))) e h in
      let (ok, h2) = goes_on (all_cross m p ls) (λ ok. Ok (cutting next m p ps)) e h1 in
      laid-writable counter t s (cutting next m p ps) e (cut-beside tol next t i (group_of m i neighbors) ps (pieces_of m (group_of m i neighbors) p next)) h2

  split-writes : Writes tol (O.SplitLane i at neighbors)
  unfolding O.edit split_lane
  split-writes counter t s e h =
      let m = view t in
      let (l, h1) = goes_on (require_lane m i) _ e h in
      let (c, h2) = goes_on (require (centerline m l) (NoUsableLine i)) _ e h1 in
      let (f, h3) = goes_on (cut_station at (line_length c)) _ e h2 in
      let (ok, h4) = goes_on (check (cuttable tol.piece c f) (PositionOutside i)) _ e h3 in
      let (p, h5) = goes_on (require (flat_point (point_at c f)) (NoUsableLine i)) _ e h4 in
      planned-writes counter t s e f p h5

  pub split-keeps : Keeps tol (O.SplitLane i at neighbors)
  split-keeps = writes-keep tol (O.SplitLane i at neighbors) (split-lawful tol i at neighbors) split-writes
