-- merge_lanes: its change set is exact. Assumes nothing.
use Rattle.std.specs.Prelude.{Some}
use mathlib.Core.Path.{◌≡◌, refl, sym, ap, ◌∙◌, subst}
use mathlib.Core.Bool.{Bool, true, false, ◌&&◌, ◌||◌}
use mathlib.Core.List.{List, [], ◌++◌, map}
use Prim.Native.Nat.{ℕ}
use lib.Dec.{eqb}
use Rattle.lists.specs.Select.{keep, find, has, without, ascending}
use Rattle.lists.proofs.Select.{has-append, keys-map, keys-keep}
use Rattle.lists.proofs.Booleans.{or-false}
use Rattle.entities.specs.Types.{kind_number}
use Rattle.entities.specs.declared.Tolerance.{Tolerance}
use Rattle.entities.specs.declared.EntityKind.{EntityKind}
use Rattle.entities.specs.declared.EntityKind.TheVariants as K
use Rattle.entities.specs.declared.EntityRef.{EntityRef}
use Rattle.entities.specs.Records.{Lane, Boundary, Map, Issue}
use Rattle.rules.specs.Map.{lane, lane_ids}
use Rattle.rules.specs.Sound.{ids_ascend}
use Rattle.rules.specs.Edit.{refs, lanes_where, boundaries_where, roads_where, junctions_where, rules_where}
use Rattle.rules.specs.Lane.{road_lanes, junction_lanes, rule_lanes, rule_names_lane}
use Rattle.rules.specs.Merge.{SidePlan, joined_boundary, replace_lane, after_merge}
use Rattle.rules.specs.Demand.{entities, among, lane_row, boundary_row, road_row, junction_row, rule_row, row_of, row_in, row, Exact}
use Rattle.laws.proofs.Exact.{among-refs}
use Rattle.laws.proofs.Part.{Part, part-keep, part-map, part-append, part-behind, part-twice}
use Rattle.laws.proofs.RemoveLinks.{other}
use Rattle.laws.proofs.Entities.{Keys, keys_of, entities-sorted, among-more, among-kind, ids_of, from_roads}
use Rattle.laws.proofs.KeptRows.{kept_row, still-row}
use Rattle.laws.proofs.Forgotten.{road_still, junction_still}
use Rattle.laws.proofs.Change.{part-front, part_stricter, found_before, change-exact}
use Rattle.laws.proofs.Merge.{merged_map, new_ones, still_used, joined-id, after-id, lanes-left}
use Rattle.laws.proofs.MergePlans.{Planned, both_new}
use Rattle.laws.proofs.MergeIds.{Free, kept-joined, boundary-ids, old-not-new, merged-ids}
use Rattle.laws.proofs.MergeStill.{takes_part, joined_here, lane-still, boundary-still, rule-unread, joined-stays}
use Rattle.laws.proofs.MergeLists.{entities-now, made, came, gone, went}

module _ (tol : Tolerance) (next : ℕ) (m : Map) (a b : Lane) (pl pr : SidePlan) (ea : lane m a.id ≡ Some a) (eb : lane m b.id ≡ Some b)
    (apart : eqb a.id b.id ≡ false) (fl : Planned m a.left.boundary pl) (fr : Planned m a.right.boundary pr) (free : Free next m pl pr) where
  abbrev n : Map
  n = merged_map tol next m a b pl pr

  abbrev q : Boundary → Bool
  q = still_used tol next m a b pl pr

  abbrev joins : Boundary → Boundary
  joins = joined_boundary pl pr a

  abbrev rest : List Lane
  rest = keep (other b.id) m.lanes

  -- ---- modified

  abbrev pub touched : List EntityRef
  touched =
      lanes_where (takes_part a b) rest
      ++ (boundaries_where (joined_here pl pr a) m.boundaries
      ++ (roads_where (λ r. has b.id r.lanes) m.roads
      ++ (junctions_where (λ j. has b.id j.lanes) m.junctions ++ rules_where (rule_names_lane b.id) m.rules)))

  -- the ids of one kind that are touched
  abbrev touched_of : EntityKind → List ℕ
  touched_of K.Lane = map (λ l. l.id) (keep (takes_part a b) rest)
  touched_of K.Boundary = map (λ x. x.id) (keep (joined_here pl pr a) m.boundaries)
  touched_of K.Road = map (λ r. r.id) (keep (λ r. has b.id r.lanes) m.roads)
  touched_of K.Junction = map (λ j. j.id) (keep (λ j. has b.id j.lanes) m.junctions)
  touched_of K.StopLine = []
  touched_of K.TrafficSignal = []
  touched_of K.Crosswalk = []
  touched_of K.RegulatoryElement = map (λ r. r.id) (keep (rule_names_lane b.id) m.rules)

  refs-part : {A : Type 0} (k : EntityKind) (key : A → ℕ) {ys xs : List A} → Part ys xs → Part (refs k (map key ys)) (refs k (map key xs))
  refs-part k key r = part-map (λ i. record { kind = k; id = i }) (part-map key r)

  touched-part : (ls bs : List ℕ) → Part (touched_of K.Lane) ls → Part (touched_of K.Boundary) bs → Part touched (refs K.Lane ls ++ (refs K.Boundary bs ++ from_roads m))
  touched-part ls bs r s =
      part-append (part-map (λ i. record { kind = K.Lane; id = i }) r) (part-append (part-map (λ i. record { kind = K.Boundary; id = i }) s)
      (part-append (refs-part K.Road (λ r. r.id) (part-keep (λ r. has b.id r.lanes) m.roads))
      (part-append (refs-part K.Junction (λ j. j.id) (part-keep (λ j. has b.id j.lanes) m.junctions))
      (part-behind (refs K.StopLine (ids_of m K.StopLine)) (part-behind (refs K.Crosswalk (ids_of m K.Crosswalk))
      (refs-part K.RegulatoryElement (λ r. r.id) (part-keep (rule_names_lane b.id) m.rules)))))))

  touched-was : Part touched (entities m)
  unfolding entities
  touched-was =
      touched-part (lane_ids m) (ids_of m K.Boundary) (part-map (λ l. l.id) (part-twice (part-keep (takes_part a b) rest) (part-keep (other b.id) m.lanes)))
      (part-map (λ x. x.id) (part-keep (joined_here pl pr a) m.boundaries))

  touched-is : Part touched (entities n)
  touched-is =
      subst (λ es. Part touched es) (sym (entities-now tol next m a b pl pr ea eb apart fl fr free))
      (touched-part (map (λ l. l.id) rest) (map (λ x. x.id) (keep q m.boundaries) ++ both_new pl pr next) (part-map (λ l. l.id) (part-keep (takes_part a b) rest))
      (part-front (both_new pl pr next) (part-map (λ x. x.id) (part_stricter (joined_here pl pr a) q m.boundaries (joined-stays tol next a b pl pr m ea apart)))))

  among-touched : (e : EntityRef) → among e touched ≡ has e.id (touched_of e.kind)
  among-touched e = split ∙ go e.kind
    where
      tests : EntityKind → Bool
      tests k =
          let n = kind_number k in
          eqb n 0 && has e.id (touched_of K.Lane)
          || (eqb n 1 && has e.id (touched_of K.Boundary)
          || (eqb n 2 && has e.id (touched_of K.Road) || (eqb n 3 && has e.id (touched_of K.Junction) || eqb n 7 && has e.id (touched_of K.RegulatoryElement))))

      split : among e touched ≡ tests e.kind
      split = rw (among-more e K.Lane, among-more e K.Boundary, among-more e K.Road, among-more e K.Junction, among-refs e K.RegulatoryElement)

      go : (k : EntityKind) → tests k ≡ has e.id (touched_of k)
      go K.Lane = or-false (has e.id (touched_of K.Lane))
      go K.Boundary = or-false (has e.id (touched_of K.Boundary))
      go K.Road = or-false (has e.id (touched_of K.Road))
      go K.Junction = or-false (has e.id (touched_of K.Junction))
      go K.StopLine = unfold has in refl
      go K.TrafficSignal = unfold has in refl
      go K.Crosswalk = unfold has in refl
      go K.RegulatoryElement = refl

  -- ---- rows

  -- a boundary of both maps that is not joined in place
  boundary-row-now : (i : ℕ) → Keys m → has i (ids_of m K.Boundary) ≡ true → has i (ids_of n K.Boundary) ≡ true → has i (touched_of K.Boundary) ≡ false
      → find (λ x. eqb x.id i) m.boundaries ≡ find (λ x. eqb x.id i) n.boundaries
  boundary-row-now i u s t h =
      still-row (λ x. x.id) joins (joined-id pl pr a) (joined_here pl pr a) (boundary-still pl pr a) i m.boundaries u.boundaries-up h
      ∙ (kept_row (λ x. x.id) q i (map joins m.boundaries) (ap ascending (keys-map (λ x. x.id) joins (joined-id pl pr a) m.boundaries) ∙ u.boundaries-up) stays
      ∙ found_before (λ x. x.id) i (keep q (map joins m.boundaries)) (new_ones next m a pl pr) stays)
    where
      old : has i (map (λ x. x.id) (keep q m.boundaries)) ≡ true
      old =
          sym (or-false (has i (map (λ x. x.id) (keep q m.boundaries))))
          ∙ (ap (λ c. has i (map (λ x. x.id) (keep q m.boundaries)) || c) (sym (old-not-new tol next m a b pl pr fl fr free i s))
          ∙ (sym (has-append i (map (λ x. x.id) (keep q m.boundaries)) (both_new pl pr next)) ∙ (ap (has i) (sym (boundary-ids tol next m a b pl pr fl fr)) ∙ t)))

      stays : has i (map (λ x. x.id) (keep q (map joins m.boundaries))) ≡ true
      stays =
          ap (λ xs. has i (map (λ x. x.id) xs)) (kept-joined tol next m a b pl pr fl fr)
          ∙ (ap (has i) (keys-map (λ x. x.id) joins (joined-id pl pr a) (keep q m.boundaries)) ∙ old)

  row_now : (k : EntityKind) (i : ℕ) → Keys m → has i (ids_of m k) ≡ true → has i (ids_of n k) ≡ true → has i (touched_of k) ≡ false → row_in m k i ≡ row_in n k i
  row_now K.Lane i u s t h =
      ap (row_of lane_row)
      (kept_row (λ l. l.id) (other b.id) i m.lanes u.lanes-up (ap (has i) (sym (lanes-left tol next a b pl pr m)) ∙ t)
      ∙ still-row (λ l. l.id) (after_merge tol next a b pl pr) (after-id tol next a b pl pr) (takes_part a b) (lane-still tol next a b pl pr) i rest
      (keys-keep (λ l. l.id) (other b.id) m.lanes u.lanes-up) h)
  row_now K.Boundary i u s t h = ap (row_of boundary_row) (boundary-row-now i u s t h)
  row_now K.Road i u s t h =
      ap (row_of road_row) (still-row (λ r. r.id) (road_lanes (without b.id)) (λ r. refl) (λ r. has b.id r.lanes) (road_still b.id) i m.roads u.roads-up h)
  row_now K.Junction i u s t h =
      ap (row_of junction_row)
      (still-row (λ j. j.id) (junction_lanes (without b.id)) (λ j. refl) (λ j. has b.id j.lanes) (junction_still b.id) i m.junctions u.junctions-up h)
  row_now K.StopLine i u s t h = refl
  row_now K.TrafficSignal i u s t h = refl
  row_now K.Crosswalk i u s t h = refl
  row_now K.RegulatoryElement i u s t h =
      ap (row_of rule_row)
      (still-row (λ r. r.id) (rule_lanes (replace_lane a.id b.id) (replace_lane a.id b.id)) (λ r. refl) (rule_names_lane b.id) (rule-unread a.id b.id) i
      m.rules u.rules-up h)

  rows-now : Keys m → (e : EntityRef) → among e (entities m) ≡ true → among e (entities n) ≡ true → among e touched ≡ false → row m e ≡ row n e
  unfolding row
  rows-now u e s t h = row_now e.kind e.id u (sym (among-kind m e) ∙ s) (sym (among-kind n e) ∙ t) (sym (among-touched e) ∙ h)

  -- The lists of a merge are exact.
  pub merge-exact : ids_ascend m ≡ true → (ws : List Issue)
      → Exact m (record { created = made next m a pl pr; modified = touched; deleted = gone tol next m a b pl pr; warnings = ws }) n
  merge-exact h ws =
      let u = keys_of m h in
      change-exact m n (entities-sorted m u) (entities-sorted n (keys_of n ((merged-ids tol next m a b pl pr fl fr free).so h)))
      (made next m a pl pr) touched (gone tol next m a b pl pr) (came tol next m a b pl pr ea eb apart fl fr free)
      (went tol next m a b pl pr ea eb apart fl fr free u) touched-was touched-is (rows-now u) ws
