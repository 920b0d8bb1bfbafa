-- A lane leaves: the lists of the change are exact. Assumes nothing.
use mathlib.Core.Path.{◌≡◌, refl, sym, ap, ◌∙◌, subst}
use mathlib.Core.Bool.{Bool, true, false, not, ◌&&◌, ◌||◌}
use mathlib.Core.List.{List, [], ◌++◌, map, append-nil}
use Prim.Native.Nat.{ℕ}
use lib.Dec.{eqb}
use Rattle.lists.specs.Select.{keep, has, without}
use Rattle.lists.proofs.Select.{keys-map, keys-keep, keep_append, keep-none, all-numbers, keep-map, keep_same}
use Rattle.lists.proofs.Booleans.{or-false}
use Rattle.entities.specs.Types.{kind_number}
use Rattle.entities.specs.declared.EntityKind.{EntityKind}
use Rattle.entities.specs.declared.EntityKind.TheVariants as K
use Rattle.entities.specs.declared.EntityRef.{EntityRef}
use Rattle.entities.specs.Records.{Lane, Boundary, Map, Issue}
use Rattle.rules.specs.Map.{lane_ids}
use Rattle.rules.specs.Sound.{ids_ascend}
use Rattle.rules.specs.Edit.{refs, lanes_where, boundaries_where, roads_where, junctions_where, rules_where}
use Rattle.rules.specs.Lane.{mentions, forgetting, road_lanes, junction_lanes, rule_lanes, rule_names_lane}
use Rattle.rules.specs.Demand.{entities, among, appeared, vanished, lane_row, boundary_row, road_row, junction_row, rule_row, row_of, row_in, row, Exact}
use Rattle.laws.proofs.Exact.{among-refs}
use Rattle.laws.proofs.Part.{Part, part-whole, part-keep, part-map, part-append, part-behind, part-twice}
use Rattle.laws.proofs.Leaving.{thinned}
use Rattle.laws.proofs.Entities.{Keys, keys_of, entities-sorted, among-more, among-kind, ids_of, from_roads}
use Rattle.laws.proofs.Shrink.{shrink-exact}
use Rattle.laws.proofs.KeptRows.{left_out, kept_row, still-row}
use Rattle.laws.proofs.Forgotten.{forgetting-still, road_still, junction_still, rule-still}

-- ---- the entities that are left

module _ (a : ℕ) (p : Lane → Bool) (q : Boundary → Bool) (m : Map) where
  abbrev after : Map
  after = thinned a p q m

  -- the ids of each kind that are left
  lanes-left : lane_ids after ≡ map (λ l. l.id) (keep p m.lanes)
  lanes-left = keys-map (λ l. l.id) (forgetting a) (λ l. refl) (keep p m.lanes)

  roads-left : ids_of after K.Road ≡ ids_of m K.Road
  roads-left = keys-map (λ r. r.id) (road_lanes (without a)) (λ r. refl) m.roads

  junctions-left : ids_of after K.Junction ≡ ids_of m K.Junction
  junctions-left = keys-map (λ j. j.id) (junction_lanes (without a)) (λ j. refl) m.junctions

  rules-left : ids_of after K.RegulatoryElement ≡ ids_of m K.RegulatoryElement
  rules-left = keys-map (λ r. r.id) (rule_lanes (without a) (without a)) (λ r. refl) m.rules

  -- the entities, with the ids of each kind as they were
  abbrev leftover : List EntityRef
  leftover =
      refs K.Lane (map (λ l. l.id) (keep p m.lanes))
      ++ (refs K.Boundary (map (λ b. b.id) (keep q m.boundaries)) ++ from_roads m)

  entities-left : entities after ≡ leftover
  unfolding entities
  entities-left = rw (lanes-left, roads-left, junctions-left, rules-left)

  refs-part : {A : Type 0} (k : EntityKind) (key : A → ℕ) {ys xs : List A} → Part ys xs → Part (refs k (map key ys)) (refs k (map key xs))
  refs-part k key r = part-map (λ i. record { kind = k; id = i }) (part-map key r)

  pub fewer-entities : Part (entities after) (entities m)
  unfolding entities
  fewer-entities =
      subst (λ es. Part es (entities m)) (sym entities-left)
      (part-append (refs-part K.Lane (λ l. l.id) (part-keep p m.lanes)) (part-append (refs-part K.Boundary (λ b. b.id) (part-keep q m.boundaries)) (part-whole (from_roads m))))

  -- ---- modified

  abbrev pub touched : List EntityRef
  touched =
      lanes_where (mentions a) (keep p m.lanes)
      ++ (roads_where (λ r. has a r.lanes) m.roads
      ++ (junctions_where (λ j. has a j.lanes) m.junctions ++ rules_where (rule_names_lane a) m.rules))

  -- a part of the entities with the ids of any lanes that hold those touched, and of any boundaries
  touched-part : (ids bs : List ℕ) → Part (map (λ l. l.id) (keep (mentions a) (keep p m.lanes))) ids
      → Part touched (refs K.Lane ids ++ (refs K.Boundary bs ++ from_roads m))
  touched-part ids bs r =
      part-append (part-map (λ i. record { kind = K.Lane; id = i }) r) (part-behind (refs K.Boundary bs)
      (part-append (refs-part K.Road (λ r. r.id) (part-keep (λ r. has a r.lanes) m.roads))
      (part-append (refs-part K.Junction (λ j. j.id) (part-keep (λ j. has a j.lanes) m.junctions))
      (part-behind (refs K.StopLine (ids_of m K.StopLine)) (part-behind (refs K.Crosswalk (ids_of m K.Crosswalk))
      (refs-part K.RegulatoryElement (λ r. r.id) (part-keep (rule_names_lane a) m.rules)))))))

  touched-was : Part touched (entities m)
  unfolding entities
  touched-was = touched-part (lane_ids m) (ids_of m K.Boundary) (part-map (λ l. l.id) (part-twice (part-keep (mentions a) (keep p m.lanes)) (part-keep p m.lanes)))

  touched-is : Part touched (entities after)
  touched-is =
      subst (λ es. Part touched es) (sym entities-left)
      (touched-part (map (λ l. l.id) (keep p m.lanes)) (map (λ b. b.id) (keep q m.boundaries)) (part-map (λ l. l.id) (part-keep (mentions a) (keep p m.lanes))))

  -- the ids of one kind that are touched
  abbrev touched_of : EntityKind → List ℕ
  touched_of K.Lane = map (λ l. l.id) (keep (mentions a) (keep p m.lanes))
  touched_of K.Boundary = []
  touched_of K.Road = map (λ r. r.id) (keep (λ r. has a r.lanes) m.roads)
  touched_of K.Junction = map (λ j. j.id) (keep (λ j. has a j.lanes) m.junctions)
  touched_of K.StopLine = []
  touched_of K.TrafficSignal = []
  touched_of K.Crosswalk = []
  touched_of K.RegulatoryElement = map (λ r. r.id) (keep (rule_names_lane a) m.rules)

  among-touched : (e : EntityRef) → among e touched ≡ has e.id (touched_of e.kind)
  among-touched e = split ∙ go e.kind
    where
      tests : EntityKind → Bool
      tests k =
          let n = kind_number k in
          eqb n 0 && has e.id (touched_of K.Lane)
          || (eqb n 2 && has e.id (touched_of K.Road) || (eqb n 3 && has e.id (touched_of K.Junction) || eqb n 7 && has e.id (touched_of K.RegulatoryElement)))

      split : among e touched ≡ tests e.kind
      split = rw (among-more e K.Lane, among-more e K.Road, among-more e K.Junction, among-refs e K.RegulatoryElement)

      go : (k : EntityKind) → tests k ≡ has e.id (touched_of k)
      go K.Lane = or-false (has e.id (touched_of K.Lane))
      go K.Boundary = unfold has in refl
      go K.Road = or-false (has e.id (touched_of K.Road))
      go K.Junction = or-false (has e.id (touched_of K.Junction))
      go K.StopLine = unfold has in refl
      go K.TrafficSignal = unfold has in refl
      go K.Crosswalk = unfold has in refl
      go K.RegulatoryElement = refl

  -- ---- rows

  row-left : (k : EntityKind) (i : ℕ) → Keys m → has i (ids_of after k) ≡ true → has i (touched_of k) ≡ false → row_in m k i ≡ row_in after k i
  row-left K.Lane i u t h =
      ap (row_of lane_row)
      (kept_row (λ l. l.id) p i m.lanes u.lanes-up (rw lanes-left at t)
      ∙ still-row (λ l. l.id) (forgetting a) (λ l. refl) (mentions a) (forgetting-still a) i (keep p m.lanes) (keys-keep (λ l. l.id) p m.lanes u.lanes-up) h)
  row-left K.Boundary i u t h = ap (row_of boundary_row) (kept_row (λ b. b.id) q i m.boundaries u.boundaries-up t)
  row-left K.Road i u t h = ap (row_of road_row) (still-row (λ r. r.id) (road_lanes (without a)) (λ r. refl) (λ r. has a r.lanes) (road_still a) i m.roads u.roads-up h)
  row-left K.Junction i u t h =
      ap (row_of junction_row) (still-row (λ j. j.id) (junction_lanes (without a)) (λ j. refl) (λ j. has a j.lanes) (junction_still a) i m.junctions u.junctions-up h)
  row-left K.StopLine i u t h = refl
  row-left K.TrafficSignal i u t h = refl
  row-left K.Crosswalk i u t h = refl
  row-left K.RegulatoryElement i u t h =
      ap (row_of rule_row) (still-row (λ r. r.id) (rule_lanes (without a) (without a)) (λ r. refl) (rule_names_lane a) (rule-still a) i m.rules u.rules-up h)

  rows_left : Keys m → (e : EntityRef) → among e (entities after) ≡ true → among e touched ≡ false → row m e ≡ row after e
  unfolding row
  rows_left u e t h = row-left e.kind e.id u (sym (among-kind after e) ∙ t) (sym (among-touched e) ∙ h)

  -- ---- deleted

  abbrev pub went_out : List EntityRef
  went_out = lanes_where (λ l. not (p l)) m.lanes ++ boundaries_where (λ b. not (q b)) m.boundaries

  abbrev absent : EntityRef → Bool
  absent e = not (among e (entities after))

  gone_of : (k : EntityKind) (ids : List ℕ) → keep absent (refs k ids) ≡ refs k (keep (λ i. not (has i (ids_of after k))) ids)
  gone_of k ids =
      keep-map absent (λ i. record { kind = k; id = i }) ids
      ∙ ap (refs k) (keep_same (λ i. absent (record { kind = k; id = i })) (λ i. not (has i (ids_of after k))) ids (λ i. ap not (among-kind after (record { kind = k; id = i }))))

  none-of-kind : (k : EntityKind) → ids_of after k ≡ ids_of m k → keep absent (refs k (ids_of m k)) ≡ []
  none-of-kind k h =
      gone_of k (ids_of m k)
      ∙ ap (refs k) (keep-none (λ i. not (has i (ids_of after k))) (ids_of m k) (all-numbers (λ i. not (not (has i (ids_of after k)))) (ids_of m k) (λ i t. ap (λ b. not (not b)) (ap (has i) h ∙ t))))

  went-out : Keys m → went_out ≡ vanished m after
  unfolding vanished appeared
  went-out u = sym all-gone
    where
      lanes-gone : keep absent (refs K.Lane (lane_ids m)) ≡ lanes_where (λ l. not (p l)) m.lanes
      lanes-gone =
          gone_of K.Lane (lane_ids m)
          ∙ ap (λ ids. refs K.Lane (keep (λ i. not (has i ids)) (lane_ids m))) lanes-left
          ∙ ap (refs K.Lane) (left_out (λ l. l.id) p m.lanes u.lanes-up)

      boundaries-gone : keep absent (refs K.Boundary (ids_of m K.Boundary)) ≡ boundaries_where (λ b. not (q b)) m.boundaries
      boundaries-gone = gone_of K.Boundary (ids_of m K.Boundary) ∙ ap (refs K.Boundary) (left_out (λ b. b.id) q m.boundaries u.boundaries-up)

      all-gone : keep absent (entities m) ≡ went_out
      all-gone =
          unfold entities in
          rw (
            keep_append absent,
            keep_append absent,
            keep_append absent,
            keep_append absent,
            keep_append absent,
            keep_append absent,
            lanes-gone,
            boundaries-gone,
            none-of-kind K.Road roads-left,
            none-of-kind K.Junction junctions-left,
            none-of-kind K.StopLine refl,
            none-of-kind K.Crosswalk refl,
            none-of-kind K.RegulatoryElement rules-left,
            append-nil,
          )

  -- The lists of a lane's leaving are exact.
  pub thinned-exact : ids_ascend m ≡ true → (ws : List Issue) → Exact m (record { created = []; modified = touched; deleted = went_out; warnings = ws }) after
  thinned-exact h ws =
      let u = keys_of m h in
      shrink-exact m after fewer-entities (entities-sorted m u) touched went_out touched-was touched-is (went-out u) (rows_left u) ws
