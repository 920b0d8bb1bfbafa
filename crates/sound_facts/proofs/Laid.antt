-- A sound map that has room, written back with all its lines laid out anew, as a split or a merge of lanes does: the tables hold the map, stay sound and keep
-- their lengths. Assumes nothing.
use mathlib.Core.Path.{◌≡◌, refl, sym, ap, ◌∙◌}
use Prim.Native.Nat.{ℕ, ◌+◌, ◌/◌, ◌≤◌, min}
use native.Mathlib.Omega.{arith}
use mathlib.Core.Bool.{true, ◌&&◌}
use mathlib.Core.List.{List, [], ◌∷◌, ◌++◌, map}
use lib.Dec.{leb}
use lib.Ieee.{Float}
use lib.ListN.{length}
use borrow.Author.Tests.{leb-true}
use Rattle.lists.specs.Every.{all}
use Rattle.lists.proofs.Booleans.{and_both, and-fst, and-snd}
use Rattle.lists.proofs.Every.{all-and}
use Rattle.entities.specs.Records.{Road, Junction, Rule, Map}
use Rattle.rules.specs.Sound.{sound, lines, point_count, kinds_legal, rule_legal, fits_room}
use Rattle.rules.proofs.Facts.{sound-facts}
use Rattle.tables.specs.View.{Tables, word, rows, view, lane_of, boundary_of, road_of, junction_of, rule_of, stop_line_of, crosswalk_of}
use Rattle.tables.specs.Formed.{Span, stored, spans, all_clear, formed, sound_tables, lane_formed, rule_formed}
use Rattle.row_tests.specs.Good.{all_rows}
use Rattle.soundness.proofs.Counts.{Counts}
use Rattle.soundness.proofs.Whole.{rows-count}
use Rattle.store.specs.Store.{room_of}
use Rattle.store.specs.Laid.{points_of, laid}
use Rattle.store.proofs.Back.{map-fields}
use Rattle.store.proofs.LaidRows.{held-laid, settled}
use Rattle.store.proofs.LaidTables.{settled-clear, settled-stored}
use Rattle.sound_facts.proofs.Stored.{formed-counts}
use Rattle.sound_facts.proofs.Room.{Limits, limits}
use Rattle.sound_facts.proofs.Thinned.{lengths_in, few_ids}
use Rattle.sound_facts.proofs.LaidTables.{Wrote, roads-wrote, junctions-wrote, rules-wrote}
use Rattle.sound_facts.proofs.LaidLines.{lanes-wrote, lanes-spans, boundaries-wrote, boundaries-spans}
use Rattle.sound_facts.proofs.LaidPlaces.{new_coordinates, centers_at, stops_at, lefts_at, rights_at, Lying, lying, settled-columns, same_count, roomy, coordinates-long}
use Rattle.sound_facts.proofs.LaidStops.{stops-wrote, stops-spans, walks-wrote, lefts-spans, rights-spans}

-- the same roads, junctions and rules by number and id, and the same stop lines and crosswalks
pub record SameBeside (t : Tables) (m : Map) : Type 0 where
  pub roads : map (λ (r : Road). r.id) m.roads ≡ map (λ (r : Road). r.id) (view t).roads
  pub junctions : map (λ (j : Junction). j.id) m.junctions ≡ map (λ (j : Junction). j.id) (view t).junctions
  pub rules : map (λ (r : Rule). r.id) m.rules ≡ map (λ (r : Rule). r.id) (view t).rules
  pub stop_lines : m.stop_lines ≡ (view t).stop_lines
  pub crosswalks : m.crosswalks ≡ (view t).crosswalks

-- ---- general

eight-lengths : {a b d e i j m n v w x y p q k l : ℕ} → a ≡ b → d ≡ e → i ≡ j → m ≡ n → v ≡ w → x ≡ y → p ≡ q → k ≡ l
    → ◌≡◌ {A = List ℕ} (a ∷ d ∷ i ∷ m ∷ v ∷ x ∷ p ∷ k ∷ []) (b ∷ e ∷ j ∷ n ∷ w ∷ y ∷ q ∷ l ∷ [])
eight-lengths e1 e2 e3 e4 e5 e6 e7 e8 = rw (e1, e2, e3, e4, e5, e6, e7, e8)

joined : {b c s l r b₁ c₁ s₁ l₁ r₁ : List Span} → b ≡ b₁ → c ≡ c₁ → s ≡ s₁ → l ≡ l₁ → r ≡ r₁ → b ++ (c ++ (s ++ (l ++ r))) ≡ b₁ ++ (c₁ ++ (s₁ ++ (l₁ ++ r₁)))
joined p q u v x = cc

-- ---- the tables

module _ (counter next : ℕ) (t : Tables) (h : sound_tables counter t ≡ true) (m : Map) (s : sound next m ≡ true) (r : fits_room (room_of t) m ≡ true) (same : SameBeside t m) where
  abbrev c : List Float
  c = new_coordinates t m

  whole : formed t ≡ true
  unfolding sound_tables
  whole = and-fst (formed t) (sound counter (view t)) h

  counts : Counts t
  counts = formed-counts t whole

  lim : Limits m
  lim = limits m (sound-facts next m s).limits

  lies : Lying c m
  lies = lying c m (held-laid t.coordinates (lines m))

  legal : all (λ r. few_ids r && rule_legal r) m.rules ≡ true
  unfolding kinds_legal
  legal =
      let rs = m.rules in
      let k = and-snd (all (λ l. leb l.kind 7 && leb l.turn_direction 3) m.lanes && all (λ b. leb b.kind 13) m.boundaries) (all rule_legal rs) (sound-facts next m s).kinds in
      all-and few_ids rule_legal rs ∙ and_both (all few_ids rs) (all rule_legal rs) lim.rule-lists k

  road_count : length m.roads ≡ word 0 t.roads
  road_count = same_count (λ (r : Road). r.id) m.roads (view t).roads same.roads ∙ (unfold view in rows-count 68 road_of t.roads)

  junction_count : length m.junctions ≡ word 0 t.junctions
  junction_count = same_count (λ (j : Junction). j.id) m.junctions (view t).junctions same.junctions ∙ (unfold view in rows-count 69 junction_of t.junctions)

  rule-count : length m.rules ≡ word 0 t.rules
  rule-count = same_count (λ (r : Rule). r.id) m.rules (view t).rules same.rules ∙ (unfold view in rows-count 330 rule_of t.rules)

  stops_same : m.stop_lines ≡ rows 4 (stop_line_of t.coordinates) t.stop_lines
  stops_same = same.stop_lines ∙ (unfold view in refl)

  walks_same : m.crosswalks ≡ rows 7 (crosswalk_of t.coordinates) t.crosswalks
  walks_same = same.crosswalks ∙ (unfold view in refl)

  lanes : Wrote 1024 52 (lane_of c) lane_formed m.lanes t.lanes (laid t m).lanes
  unfolding laid
  lanes = lanes-wrote c t.lanes counts.lanes m.lanes (roomy t m r).lanes (centers_at m) lies.centers lim.links (leb-true (length m.lanes) 1024 lim.lanes)

  boundaries : Wrote 4096 5 (boundary_of c) (λ w. true) m.boundaries t.boundaries (laid t m).boundaries
  unfolding laid
  boundaries =
      boundaries-wrote c t.boundaries counts.boundaries m.boundaries (roomy t m r).boundaries 0 lies.boundaries (leb-true (length m.boundaries) 4096 lim.boundaries)

  roads : Wrote 256 68 road_of (λ w. leb (word 3 w) 64) m.roads t.roads (laid t m).roads
  unfolding laid
  roads = roads-wrote t.roads counts.roads m.roads (leb-true (length m.roads) 256 lim.roads) road_count lim.road_lists

  junctions : Wrote 256 69 junction_of (λ w. leb (word 4 w) 64) m.junctions t.junctions (laid t m).junctions
  unfolding laid
  junctions =
      junctions-wrote t.junctions counts.junctions m.junctions (leb-true (length m.junctions) 256 lim.junctions) junction_count lim.junction_lists

  rules : Wrote 512 330 rule_of rule_formed m.rules t.rules (laid t m).rules
  unfolding laid
  rules = rules-wrote t.rules counts.rules m.rules (leb-true (length m.rules) 512 lim.rules) rule-count legal

  stops : Wrote 512 4 (stop_line_of c) (λ w. true) m.stop_lines t.stop_lines (laid t m).stop_lines
  unfolding laid
  stops = stops-wrote t.coordinates c t.stop_lines counts.stop_lines m.stop_lines stops_same (stops_at m) lies.stops

  walks : Wrote 128 7 (crosswalk_of c) (λ w. true) m.crosswalks t.crosswalks (laid t m).crosswalks
  unfolding laid
  walks = walks-wrote t.coordinates c t.crosswalks counts.crosswalks m.crosswalks walks_same (lefts_at m) (rights_at m) lies.lefts lies.rights

  -- the tables hold the map
  pub view-laid : view (laid t m) ≡ m
  unfolding view laid
  view-laid = map-fields lanes.read boundaries.read roads.read junctions.read rules.read stops.read walks.read

  -- ---- lengths

  points-long : length c ≡ length t.coordinates
  points-long = coordinates-long t m (roomy t m r).points

  -- each slice keeps its length
  pub lengths-laid : lengths_in (laid t m) ≡ lengths_in t
  unfolding laid
  lengths-laid = eight-lengths lanes.long boundaries.long roads.long junctions.long rules.long stops.long walks.long points-long

  -- ---- lines

  -- all lines lie one after another
  spans-laid : spans (laid t m) ≡ settled 0 (lines m)
  unfolding spans laid
  spans-laid =
      let room = roomy t m r in
      joined (boundaries-spans c t.boundaries counts.boundaries m.boundaries room.boundaries 0 lies.boundaries)
      (lanes-spans c t.lanes counts.lanes m.lanes room.lanes (centers_at m) lies.centers lim.links)
      (stops-spans t.coordinates c t.stop_lines counts.stop_lines m.stop_lines stops_same (stops_at m) lies.stops)
      (lefts-spans t.coordinates c t.crosswalks counts.crosswalks m.crosswalks walks_same (lefts_at m) (rights_at m) lies.lefts lies.rights)
      (rights-spans t.coordinates c t.crosswalks counts.crosswalks m.crosswalks walks_same (lefts_at m) (rights_at m) lies.lefts lies.rights)
      ∙ sym (settled-columns m)

  lines_stored : all (stored (laid t m).coordinates) (spans (laid t m)) ≡ true
  unfolding laid
  lines_stored =
      let few : point_count m ≤ 65536 = leb-true (point_count m) 65536 lim.total in
      let l : 0 + points_of (lines m) ≤ min 65536 (length c / 3) = omega (arith, few, points-long, (roomy t m r).points) in
      ap (all (stored c)) spans-laid ∙ settled-stored c 0 (lines m) l

  formed-laid : formed (laid t m) ≡ true
  unfolding formed all_rows
  formed-laid =
      rw (
        lanes.count,
        boundaries.count,
        roads.count,
        junctions.count,
        rules.count,
        stops.count,
        walks.count,
        lanes.marked,
        roads.marked,
        junctions.marked,
        rules.marked,
        lines_stored,
        ap all_clear spans-laid ∙ settled-clear 0 (lines m),
      )

  -- they stay sound
  pub kept-laid : sound_tables next (laid t m) ≡ true
  unfolding sound_tables
  kept-laid = and_both (formed (laid t m)) (sound next (view (laid t m))) formed-laid (ap (sound next) view-laid ∙ s)
