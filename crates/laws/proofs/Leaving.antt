-- A lane leaves: of a map with some lanes and boundaries left out and one lane's name taken from every list, each clause of soundness but reciprocity.
-- Assumes nothing.
use Rattle.std.specs.Prelude.{Option, None, Some}
use mathlib.Core.Path.{◌≡◌, refl}
use mathlib.Core.Bool.{Bool, true, false, not, ◌&&◌, ◌||◌, cond}
use mathlib.Core.List.{List, [], ◌∷◌, ◌++◌, map}
use Prim.Native.Nat.{ℕ, ◌≤◌}
use native.Mathlib.Omega.{arith}
use lib.Dec.{eqb, ltb, leb}
use lib.ListN.{length, length-map}
use borrow.Author.Tests.{eqb-true, eq-eqb, leb-true, le-leb}
use Rattle.lists.specs.Every.{all}
use Rattle.lists.specs.Select.{keep, each, without, ascending}
use Rattle.lists.proofs.Select.{keys-map, keys-keep, ascending-keep, length-keep, length_without}
use Rattle.geometry.specs.Point.{in_reach}
use Rattle.entities.specs.declared.Neighbor.{Neighbor}
use Rattle.entities.specs.Records.{Lane, Boundary, Rule, Map}
use Rattle.rules.specs.Map.{lane_ids}
use Rattle.rules.specs.Sound.{lines, optional_line, optional_id, point_count, ids_named, lane_names, rule_names, slot_id, next_id, last_counter, ids_ascend, counter_above, lines_in_reach, kinds_legal, rule_legal, has_content, stop_lines_fit, given, handles_legal, handle_width, speed_legal, id_lists, within_limits, links_ascend}
use Rattle.rules.specs.Lane.{freed, forgetting, road_lanes, junction_lanes, rule_lanes}
use Rattle.laws.proofs.Keeps.{each_map}
use Rattle.laws.proofs.Part.{Part, done, also, less, part-whole, part-keep, part-map, part-append, part-each, total-part, Gives, ◌&also◌, stays, within, all-fewer, all-image}

-- ---- a list without a name, a slot that is freed

pub part_without : (a : ℕ) (xs : List ℕ) → Part (without a xs) xs
unfolding without
part_without a xs = part-keep (λ y. not (eqb a y)) xs

pub ascending-without : (a : ℕ) (xs : List ℕ) → Gives (ascending xs) (ascending (without a xs))
unfolding without
ascending-without a xs = record { so = ascending-keep (λ y. not (eqb a y)) xs }

-- an empty list stays empty
pub empty-without : (a : ℕ) (xs : List ℕ) → Gives (eqb (length xs) 0) (eqb (length (without a xs)) 0)
empty-without a xs =
    record { so = λ t. let u : length xs ≡ 0 = eqb-true (length xs) 0 t in let v = length_without a xs in eq-eqb (length (without a xs)) 0 (omega arith) }

part-freed : (a : ℕ) (o : Option Neighbor) → Part (slot_id (freed a o)) (slot_id o)
part-freed a None = done
part-freed a (Some n) = go (eqb n.lane a)
  where
    go : (b : Bool) → Part (slot_id (cond b None (Some n))) (n.lane ∷ [])
    go true = less done
    go false = also done

-- the names of a lane, a road, a junction and a rule that forget lane a
pub names_forgotten : (a : ℕ) (l : Lane) → Part (lane_names (forgetting a l)) (lane_names l)
names_forgotten a l =
    also (also (also (part-append (part-freed a l.left_neighbor) (part-append (part-freed a l.right_neighbor)
    (part-append (part_without a l.predecessors) (part_without a l.successors))))))

pub rule_forgotten : (a : ℕ) (r : Rule) → Part (rule_names (rule_lanes (without a) (without a) r)) (rule_names r)
rule_forgotten a r =
    also (part-append (part-whole (optional_id r.crosswalk)) (part-append (part_without a r.lanes)
    (part-append (part-whole r.controlled_crosswalks) (part-append (part-whole r.stop_lines)
    (part-append (part_without a r.priority) (part_without a r.yielding))))))

pub rule-stays-legal : (a : ℕ) (r : Rule) → Gives (rule_legal r) (rule_legal (rule_lanes (without a) (without a) r))
rule-stays-legal a r =
    stays (leb r.kind 5)
    &also stays (has_content r.kind || eqb r.content 0)
    &also stays (stop_lines_fit r.kind (length r.stop_lines))
    &also or-stays (eqb r.kind 3) (empty-without a r.priority &also empty-without a r.yielding)
    &also stays (cond (eqb r.kind 4) (given r.crosswalk) (not (given r.crosswalk)))
  where
    or-stays : (c : Bool) {p q : Bool} → Gives p q → Gives (c || p) (c || q)
    or-stays true g = stays true
    or-stays false g = g

-- each changed element's list, of a part
pub each-image : {A B : Type 0} (g : A → List B) (f : A → A) → ((x : A) → Part (g (f x)) (g x)) → {ys xs : List A} → Part ys xs → Part (each g (map f ys)) (each g xs)
each-image g f h {ys} {xs} r = rw (each_map g f ys) (part-each (λ x. g (f x)) g h r)

-- ---- a map with less

-- the lanes that pass p and the boundaries that pass q; nothing names lane a any more
abbrev pub thinned : ℕ → (Lane → Bool) → (Boundary → Bool) → Map → Map
thinned a p q m =
    record {
      lanes = map (forgetting a) (keep p m.lanes);
      boundaries = keep q m.boundaries;
      roads = map (road_lanes (without a)) m.roads;
      junctions = map (junction_lanes (without a)) m.junctions;
      rules = map (rule_lanes (without a) (without a)) m.rules;
      stop_lines = m.stop_lines;
      crosswalks = m.crosswalks;
    }

module _ (a : ℕ) (p : Lane → Bool) (q : Boundary → Bool) (m : Map) where
  abbrev after : Map
  after = thinned a p q m

  -- ---- counts

  fewer-lanes : length after.lanes ≤ length m.lanes
  fewer-lanes = let h = length-keep p m.lanes in rw (length-map (keep p m.lanes) (forgetting a)) h

  lines-part : Part (lines after) (lines m)
  unfolding lines
  lines-part =
      part-append (part-map (λ b. b.geometry) (part-keep q m.boundaries))
      (part-append (each-image (λ l. optional_line l.centerline) (forgetting a) (λ l. part-whole (optional_line l.centerline)) (part-keep p m.lanes))
      (part-whole (map (λ s. s.geometry) m.stop_lines ++ (map (λ c. c.left_edge) m.crosswalks ++ map (λ c. c.right_edge) m.crosswalks))))

  pub thinned-fewer : (length after.lanes ≤ length m.lanes) × (length after.boundaries ≤ length m.boundaries) × (point_count after ≤ point_count m)
  thinned-fewer = (fewer-lanes, length-keep q m.boundaries, total-part (part-map length lines-part))

  same_length : {A : Type 0} (f : A → A) (xs : List A) (k : ℕ) → Gives (leb (length xs) k) (leb (length (map f xs)) k)
  same_length f xs k = within xs (map f xs) k (let h = length-map xs f in omega arith)

  short : (xs : List ℕ) (k : ℕ) → Gives (leb (length xs) k) (leb (length (without a xs)) k)
  short xs k = within xs (without a xs) k (length_without a xs)

  rule-limits : (r : Rule) → Gives (all (λ ids. leb (length ids) 64) (id_lists r)) (all (λ ids. leb (length ids) 64) (id_lists (rule_lanes (without a) (without a) r)))
  unfolding all
  rule-limits r =
      short r.lanes 64
      &also (stays (leb (length r.controlled_crosswalks) 64)
      &also (stays (leb (length r.stop_lines) 64) &also (short r.priority 64 &also (short r.yielding 64 &also stays true))))

  points-within : Gives (leb (point_count m) 65536) (leb (point_count after) 65536)
  points-within = record { so = λ t. let u = leb-true (point_count m) 65536 t in let v = total-part (part-map length lines-part) in le-leb (point_count after) 65536 (omega arith) }

  pub thinned-limits : Gives (within_limits m) (within_limits after)
  unfolding within_limits
  thinned-limits =
      within m.lanes after.lanes 1024 fewer-lanes
      &also within m.boundaries after.boundaries 4096 (length-keep q m.boundaries)
      &also same_length (road_lanes (without a)) m.roads 256
      &also same_length (junction_lanes (without a)) m.junctions 256
      &also same_length (rule_lanes (without a) (without a)) m.rules 512
      &also stays (leb (length m.stop_lines) 512)
      &also stays (leb (length m.crosswalks) 128)
      &also all-fewer (λ c. leb (length c) 256) lines-part
      &also points-within
      &also all-image (λ l. leb (length l.predecessors) 16 && leb (length l.successors) 16) (λ l. leb (length l.predecessors) 16 && leb (length l.successors) 16)
      (forgetting a) (λ l. short l.predecessors 16 &also short l.successors 16) (part-keep p m.lanes)
      &also all-image (λ r. leb (length r.lanes) 64) (λ r. leb (length r.lanes) 64) (road_lanes (without a)) (λ r. short r.lanes 64) (part-whole m.roads)
      &also all-image (λ j. leb (length j.lanes) 64) (λ j. leb (length j.lanes) 64) (junction_lanes (without a)) (λ j. short j.lanes 64) (part-whole m.junctions)
      &also all-image (λ r. all (λ ids. leb (length ids) 64) (id_lists r)) (λ r. all (λ ids. leb (length ids) 64) (id_lists r)) (rule_lanes (without a) (without a))
      rule-limits (part-whole m.rules)

  -- ---- ids

  keys-stay : {A : Type 0} (key : A → ℕ) (f : A → A) → ((x : A) → key (f x) ≡ key x) → (xs : List A) → Gives (ascending (map key xs)) (ascending (map key (map f xs)))
  keys-stay key f h xs = record { so = λ t. rw (keys-map key f h xs) t }

  lanes-ascend : Gives (ascending (lane_ids m)) (ascending (lane_ids after))
  lanes-ascend = record { so = λ t. rw (keys-map (λ l. l.id) (forgetting a) (λ l. refl) (keep p m.lanes)) (keys-keep (λ l. l.id) p m.lanes t) }

  boundaries-ascend : Gives (ascending (map (λ b. b.id) m.boundaries)) (ascending (map (λ b. b.id) after.boundaries))
  boundaries-ascend = record { so = keys-keep (λ b. b.id) q m.boundaries }

  pub thinned-ids : Gives (ids_ascend m) (ids_ascend after)
  unfolding ids_ascend
  thinned-ids =
      lanes-ascend
      &also boundaries-ascend
      &also keys-stay (λ r. r.id) (road_lanes (without a)) (λ r. refl) m.roads
      &also keys-stay (λ j. j.id) (junction_lanes (without a)) (λ j. refl) m.junctions
      &also keys-stay (λ r. r.id) (rule_lanes (without a) (without a)) (λ r. refl) m.rules
      &also stays (ascending (map (λ s. s.id) m.stop_lines))
      &also stays (ascending (map (λ c. c.id) m.crosswalks))

  names-part : Part (ids_named after) (ids_named m)
  unfolding ids_named
  names-part =
      part-append (each-image lane_names (forgetting a) (names_forgotten a) (part-keep p m.lanes))
      (part-append (part-map (λ b. b.id) (part-keep q m.boundaries))
      (part-append (each-image (λ r. r.id ∷ r.lanes) (road_lanes (without a)) (λ r. also (part_without a r.lanes)) (part-whole m.roads))
      (part-append (each-image (λ j. j.id ∷ j.lanes) (junction_lanes (without a)) (λ j. also (part_without a j.lanes)) (part-whole m.junctions))
      (part-append (each-image rule_names (rule_lanes (without a) (without a)) (rule_forgotten a) (part-whole m.rules))
      (part-whole (map (λ s. s.id) m.stop_lines ++ map (λ c. c.id) m.crosswalks))))))

  pub thinned-counter : (counter : ℕ) → Gives (counter_above counter m) (counter_above counter after)
  unfolding counter_above
  thinned-counter counter = go (eqb counter last_counter)
    where
      go : (b : Bool) → Gives (b || all (λ i. ltb i (next_id counter)) (ids_named m)) (b || all (λ i. ltb i (next_id counter)) (ids_named after))
      go true = stays true
      go false = all-fewer (λ i. ltb i (next_id counter)) names-part

  -- ---- lines, kinds, handles, links

  pub thinned-reach : Gives (lines_in_reach m) (lines_in_reach after)
  unfolding lines_in_reach
  thinned-reach = all-fewer (all in_reach) lines-part

  pub thinned-kinds : Gives (kinds_legal m) (kinds_legal after)
  unfolding kinds_legal
  thinned-kinds =
      all-image (λ l. leb l.kind 7 && leb l.turn_direction 3) (λ l. leb l.kind 7 && leb l.turn_direction 3) (forgetting a)
      (λ l. stays (leb l.kind 7 && leb l.turn_direction 3)) (part-keep p m.lanes)
      &also all-fewer (λ b. leb b.kind 13) (part-keep q m.boundaries)
      &also all-image rule_legal rule_legal (rule_lanes (without a) (without a)) (rule-stays-legal a) (part-whole m.rules)

  pub thinned_handles : Gives (handles_legal m) (handles_legal after)
  unfolding handles_legal
  thinned_handles =
      all-image (λ l. ltb l.attributes handle_width && speed_legal l.speed_limit) (λ l. ltb l.attributes handle_width && speed_legal l.speed_limit) (forgetting a)
      (λ l. stays (ltb l.attributes handle_width && speed_legal l.speed_limit)) (part-keep p m.lanes)
      &also all-fewer (λ b. ltb b.attributes handle_width) (part-keep q m.boundaries)
      &also all-image (λ r. ltb r.name handle_width && ltb r.attributes handle_width) (λ r. ltb r.name handle_width && ltb r.attributes handle_width) (road_lanes (without a))
      (λ r. stays (ltb r.name handle_width && ltb r.attributes handle_width)) (part-whole m.roads)
      &also all-image (λ j. ltb j.name handle_width && ltb j.outline handle_width && ltb j.attributes handle_width)
      (λ j. ltb j.name handle_width && ltb j.outline handle_width && ltb j.attributes handle_width) (junction_lanes (without a))
      (λ j. stays (ltb j.name handle_width && ltb j.outline handle_width && ltb j.attributes handle_width)) (part-whole m.junctions)
      &also all-image (λ r. ltb r.content handle_width && ltb r.attributes handle_width) (λ r. ltb r.content handle_width && ltb r.attributes handle_width)
      (rule_lanes (without a) (without a)) (λ r. stays (ltb r.content handle_width && ltb r.attributes handle_width)) (part-whole m.rules)
      &also stays (all (λ s. ltb s.attributes handle_width) m.stop_lines)
      &also stays (all (λ c. ltb c.outline handle_width && ltb c.attributes handle_width) m.crosswalks)

  pub thinned-ascend : Gives (links_ascend m) (links_ascend after)
  unfolding links_ascend
  thinned-ascend =
      all-image (λ l. ascending l.predecessors && ascending l.successors) (λ l. ascending l.predecessors && ascending l.successors) (forgetting a)
      (λ l. ascending-without a l.predecessors &also ascending-without a l.successors) (part-keep p m.lanes)
