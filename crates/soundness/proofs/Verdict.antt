-- The verdict of the test is the definition's: soundness from the parts, and the parts from soundness.
use mathlib.Core.Path.{◌≡◌, refl, sym, ap, ◌∙◌}
use mathlib.Core.Bool.{Bool, true, false, not, ◌&&◌, ◌||◌, true≢false}
use mathlib.Core.List.{List}
use Prim.Native.Nat.{ℕ, suc, ◌+◌, ◌*◌, ◌≤◌, min}
use native.Mathlib.Omega.{arith}
use lib.Dec.{eqb, leb}
use lib.ListN.{length, drop, length-take}
use lib.Ieee.{Float}
use borrow.Author.Tests.{leb-true, le-leb}
use Rattle.lists.specs.Every.{all}
use Rattle.lists.specs.Rows.{keys}
use Rattle.lists.specs.Select.{ascending}
use Rattle.lists.proofs.Booleans.{and_both, and-fst, and-snd}
use Rattle.geometry.specs.Point.{in_reach}
use Rattle.entities.specs.Records.{Line}
use Rattle.rules.specs.Sound.{last_counter, sound, within_limits, ids_ascend, counter_above, lines_in_reach, kinds_legal, handles_legal, links_ascend, links_reciprocal, neighbors_reciprocal, repeat_free, point_count, id_lists, lines, optional_line}
use Rattle.rules.proofs.Facts.{facts-sound}
use Rattle.tables.specs.View.{Tables, word, ids_at, ids_where, line_at, rows, view, lane_of, boundary_of, road_of, junction_of, rule_of, stop_line_of, crosswalk_of}
use Rattle.tables.specs.Formed.{span_at, stored, spans, all_clear, formed, sound_tables, lane_formed, rule_formed}
use Rattle.row_tests.specs.Good.{largest_id, all_rows, lane_good, boundary_good, road_good, junction_good, rule_good, stop_line_good, crosswalk_good}
use Rattle.soundness.proofs.Rows.{every_row, rows-three, rows-weaken}
use Rattle.soundness.proofs.Pointwise.{ok, and3}
use Rattle.soundness.proofs.Others.{line_asked}
use Rattle.soundness.proofs.Parts.{Held, room, LaneParts, lane-parts, BoundaryParts, boundary-parts, RoadParts, road_parts, JunctionParts, junction_parts, RuleParts, rule-parts, StopLineParts, stop-line-parts, CrosswalkParts, crosswalk-parts}
use Rattle.soundness.proofs.Whole.{counter-same, ids-keys, rows-count, all_lines, all-stored, all-names}
use Rattle.soundness.proofs.Words.{AllHeld, names-ok}

-- ---- lines of a table: in the store, short, within reach

pub record LineParts (c : List Float) (s k : ℕ) (t : List ℕ) : Type 0 where
  pub store : all_rows s (λ w. stored c (span_at k w)) t ≡ true
  pub short : all_rows s (λ w. leb (length (line_at c k w)) 256) t ≡ true
  pub near : all_rows s (λ w. all in_reach (line_at c k w)) t ≡ true

pub line-parts : (c : List Float) (s k : ℕ) (t : List ℕ) → all_rows s (line_asked c k) t ≡ true → LineParts c s k t
line-parts c s k t h =
    let (a, b, d) = and3 (all_rows s (λ w. stored c (span_at k w)) t) (all_rows s (λ w. leb (length (line_at c k w)) 256) t) (all_rows s (λ w. all in_reach (line_at c k w)) t)
    (sym (rows-three s (λ w. stored c (span_at k w)) (λ w. leb (length (line_at c k w)) 256) (λ w. all in_reach (line_at c k w)) t) ∙ h) in
    record { store = a; short = b; near = d }

pub parts-line : (c : List Float) (s k : ℕ) (t : List ℕ) → LineParts c s k t → all_rows s (line_asked c k) t ≡ true
parts-line c s k t p =
    rows-three s (λ w. stored c (span_at k w)) (λ w. leb (length (line_at c k w)) 256) (λ w. all in_reach (line_at c k w)) t ∙ rw (p.store, p.short, p.near)

-- ---- limits that follow from the counts

few : (limit s : ℕ) (t : List ℕ) → Held limit s t → leb (word 0 t) limit ≡ true
few limit s t h =
    let (a, b, c) = and3 (leb 1 (length t)) (leb (word 0 t) limit) (leb (1 + word 0 t * s) (length t)) h.count in b

count_fits : {B : Type 0} (limit s : ℕ) (dec : List ℕ → B) (t : List ℕ) → Held limit s t → leb (length (rows s dec t)) limit ≡ true
count_fits limit s dec t h = ap (λ n. leb n limit) (rows-count s dec t) ∙ few limit s t h

ids_few : (k most : ℕ) (w : List ℕ) → word k w ≤ most → leb (length (ids_at k w)) most ≡ true
ids_few k most w h = let e : length (ids_at k w) ≡ min (word k w) (length (drop (suc k) w)) = length-take (word k w) (drop (suc k) w) in le-leb (length (ids_at k w)) most (omega arith)

where_few : (b : Bool) (k most : ℕ) (w : List ℕ) → (b ≡ true → word k w ≤ most) → leb (length (ids_where b k w)) most ≡ true
where_few true k most w h = ids_few k most w (h refl)
where_few false k most w h = le-leb 0 most (omega arith)

lane-links-few : (c : List Float) (w : List ℕ) → lane_formed w ≡ true → (leb (length (lane_of c w).predecessors) 16 && leb (length (lane_of c w).successors) 16) ≡ true
unfolding lane_formed lane_of
lane-links-few c w f =
    let a7 = leb (word 3 w) 1 && leb (word 5 w) 1 && leb (word 6 w) 1 && leb (word 9 w) 1 && leb (word 11 w) 1 && leb (word 14 w) 2 && leb (word 16 w) 2 in
    let h = and-fst (a7 && leb (word 18 w) 16) (leb (word 35 w) 16) f in
    and_both (leb (length (ids_at 18 w)) 16) (leb (length (ids_at 35 w)) 16)
    (ids_few 18 16 w (leb-true (word 18 w) 16 (and-snd a7 (leb (word 18 w) 16) h))) (ids_few 35 16 w (leb-true (word 35 w) 16 (and-snd (a7 && leb (word 18 w) 16) (leb (word 35 w) 16) f)))

rule-lists-few : (w : List ℕ) → rule_formed w ≡ true → all (λ ids. leb (length ids) 64) (id_lists (rule_of w)) ≡ true
unfolding rule_formed rule_of all
rule-lists-few w f =
    let own = leb (word 5 w) 64 && leb (word 70 w) 64 in
    let stops = eqb (word 1 w) 5 || leb (word 135 w) 64 in
    let ways = not (eqb (word 1 w) 3) || (leb (word 200 w) 64 && leb (word 265 w) 64) in
    let (a, b, c) = and3 own stops ways f in
    rw (
      ids_few 5 64 w (leb-true (word 5 w) 64 (and-fst (leb (word 5 w) 64) (leb (word 70 w) 64) a)),
      ids_few 70 64 w (leb-true (word 70 w) 64 (and-snd (leb (word 5 w) 64) (leb (word 70 w) 64) a)),
      where_few (not (eqb (word 1 w) 5)) 135 64 w (stop-count (eqb (word 1 w) 5) b),
      where_few (eqb (word 1 w) 3) 200 64 w (λ e. leb-true (word 200 w) 64 (and-fst (leb (word 200 w) 64) (leb (word 265 w) 64) (way-count (eqb (word 1 w) 3) e c))),
      where_few (eqb (word 1 w) 3) 265 64 w (λ e. leb-true (word 265 w) 64 (and-snd (leb (word 200 w) 64) (leb (word 265 w) 64) (way-count (eqb (word 1 w) 3) e c))),
    )
  where
    stop-count : (x : Bool) → (x || leb (word 135 w) 64) ≡ true → not x ≡ true → word 135 w ≤ 64
    stop-count true h e = absurd (true≢false (sym e))
    stop-count false h e = leb-true (word 135 w) 64 h

    way-count : (x : Bool) → x ≡ true → (not x || (leb (word 200 w) 64 && leb (word 265 w) 64)) ≡ true → (leb (word 200 w) 64 && leb (word 265 w) 64) ≡ true
    way-count true e h = h
    way-count false e h = absurd (true≢false (sym e))

-- five facts as one
pub five : {a b d e f : Bool} → a ≡ true → b ≡ true → d ≡ true → e ≡ true → f ≡ true → (a && (b && (d && (e && f)))) ≡ true
five h i k n o = rw (h, i, k, n, o)

-- ---- what the test finds

pub record Tested (counter : ℕ) (t : Tables) : Type 0 where
  pub lanes : all_rows 52 (lane_good (largest_id counter) t.coordinates) t.lanes ≡ true
  pub boundaries : all_rows 5 (boundary_good (largest_id counter) t.coordinates) t.boundaries ≡ true
  pub roads : all_rows 68 (road_good (largest_id counter)) t.roads ≡ true
  pub junctions : all_rows 69 (junction_good (largest_id counter)) t.junctions ≡ true
  pub rules : all_rows 330 (rule_good (largest_id counter)) t.rules ≡ true
  pub stop_lines : all_rows 4 (stop_line_good (largest_id counter) t.coordinates) t.stop_lines ≡ true
  pub crosswalks : all_rows 7 (crosswalk_good (largest_id counter) t.coordinates) t.crosswalks ≡ true
  pub lane-keys : ascending (keys 52 (word 0 t.lanes) (drop 1 t.lanes)) ≡ true
  pub boundary-keys : ascending (keys 5 (word 0 t.boundaries) (drop 1 t.boundaries)) ≡ true
  pub road_keys : ascending (keys 68 (word 0 t.roads) (drop 1 t.roads)) ≡ true
  pub junction_keys : ascending (keys 69 (word 0 t.junctions) (drop 1 t.junctions)) ≡ true
  pub rule-keys : ascending (keys 330 (word 0 t.rules) (drop 1 t.rules)) ≡ true
  pub stop-line-keys : ascending (keys 4 (word 0 t.stop_lines) (drop 1 t.stop_lines)) ≡ true
  pub crosswalk-keys : ascending (keys 7 (word 0 t.crosswalks) (drop 1 t.crosswalks)) ≡ true
  pub apart : all_clear (spans t) ≡ true
  pub total : leb (point_count (view t)) 65536 ≡ true
  pub links : links_reciprocal (view t) ≡ true
  pub neighbors : neighbors_reciprocal (view t) ≡ true

module _ (counter : ℕ) (t : Tables) (small : counter ≤ last_counter) (held : AllHeld t) where
  -- the parts of every table
  record Parts : Type 0 where
    l : LaneParts (largest_id counter) t.coordinates t.lanes
    b : BoundaryParts (largest_id counter) t.coordinates t.boundaries
    r : RoadParts (largest_id counter) t.roads
    j : JunctionParts (largest_id counter) t.junctions
    u : RuleParts (largest_id counter) t.rules
    s : StopLineParts (largest_id counter) t.coordinates t.stop_lines
    x : CrosswalkParts (largest_id counter) t.coordinates t.crosswalks

  parts-of : Tested counter t → Parts
  parts-of h =
      record {
        l = lane-parts (largest_id counter) t.coordinates t.lanes held.lanes h.lanes;
        b = boundary-parts (largest_id counter) t.coordinates t.boundaries held.boundaries h.boundaries;
        r = road_parts (largest_id counter) t.roads held.roads h.roads;
        j = junction_parts (largest_id counter) t.junctions held.junctions h.junctions;
        u = rule-parts (largest_id counter) t.rules held.rules h.rules;
        s = stop-line-parts (largest_id counter) t.coordinates t.stop_lines held.stop_lines h.stop_lines;
        x = crosswalk-parts (largest_id counter) t.coordinates t.crosswalks held.crosswalks h.crosswalks;
      }

  -- the lines of the four tables that have them
  bl : Parts → LineParts t.coordinates 5 2 t.boundaries
  bl p = line-parts t.coordinates 5 2 t.boundaries p.b.lines

  sl : Parts → LineParts t.coordinates 4 1 t.stop_lines
  sl p = line-parts t.coordinates 4 1 t.stop_lines p.s.lines

  xl : Parts → LineParts t.coordinates 7 1 t.crosswalks
  xl p = line-parts t.coordinates 7 1 t.crosswalks p.x.left-lines

  xr : Parts → LineParts t.coordinates 7 3 t.crosswalks
  xr p = line-parts t.coordinates 7 3 t.crosswalks p.x.right-lines

  -- ---- from the test to the definition

  stored-hold : Parts → all (stored t.coordinates) (spans t) ≡ true
  stored-hold p = all-stored t.coordinates t ∙ five (bl p).store p.l.store (sl p).store (xl p).store (xr p).store

  formed-holds : Parts → all_clear (spans t) ≡ true → formed t ≡ true
  unfolding formed all_rows
  formed-holds p apart =
      rw (
        held.lanes.count,
        held.boundaries.count,
        held.roads.count,
        held.junctions.count,
        held.rules.count,
        held.stop_lines.count,
        held.crosswalks.count,
        p.l.formed,
        p.r.formed,
        p.j.formed,
        p.u.formed,
        stored-hold p,
        apart,
      )

  -- a test of every line, from the five columns of lines
  lines-hold : (q : Line → Bool) → all_rows 5 (λ w. q (line_at t.coordinates 2 w)) t.boundaries ≡ true
      → all (λ l. all q (optional_line l.centerline)) (rows 52 (lane_of t.coordinates) t.lanes) ≡ true
      → all_rows 4 (λ w. q (line_at t.coordinates 1 w)) t.stop_lines ≡ true
      → all_rows 7 (λ w. q (line_at t.coordinates 1 w)) t.crosswalks ≡ true → all_rows 7 (λ w. q (line_at t.coordinates 3 w)) t.crosswalks ≡ true
      → all q (lines (view t)) ≡ true
  unfolding view boundary_of stop_line_of crosswalk_of
  lines-hold q h1 h2 h3 h4 h5 =
      all_lines q (view t)
      ∙ five (every_row 5 (boundary_of t.coordinates) (λ b. q b.geometry) t.boundaries ∙ h1) h2
      (every_row 4 (stop_line_of t.coordinates) (λ x. q x.geometry) t.stop_lines ∙ h3)
      (every_row 7 (crosswalk_of t.coordinates) (λ x. q x.left_edge) t.crosswalks ∙ h4)
      (every_row 7 (crosswalk_of t.coordinates) (λ x. q x.right_edge) t.crosswalks ∙ h5)

  lines-short : Parts → all (λ x. leb (length x) 256) (lines (view t)) ≡ true
  lines-short p = lines-hold (λ x. leb (length x) 256) (bl p).short p.l.short (sl p).short (xl p).short (xr p).short

  lines_near : Parts → lines_in_reach (view t) ≡ true
  unfolding lines_in_reach
  lines_near p = lines-hold (all in_reach) (bl p).near p.l.near (sl p).near (xl p).near (xr p).near

  links-few : Parts → all (λ l. leb (length l.predecessors) 16 && leb (length l.successors) 16) (rows 52 (lane_of t.coordinates) t.lanes) ≡ true
  links-few p =
      every_row 52 (lane_of t.coordinates) (λ l. leb (length l.predecessors) 16 && leb (length l.successors) 16) t.lanes
      ∙ rows-weaken 52 lane_formed (λ w. leb (length (lane_of t.coordinates w).predecessors) 16 && leb (length (lane_of t.coordinates w).successors) 16) ok
      (λ w n o f. lane-links-few t.coordinates w f) t.lanes (room 1024 52 t.lanes held.lanes) held.lanes.words p.l.formed

  roads-few : Parts → all (λ r. leb (length r.lanes) 64) (rows 68 road_of t.roads) ≡ true
  unfolding road_of
  roads-few p =
      every_row 68 road_of (λ r. leb (length r.lanes) 64) t.roads
      ∙ rows-weaken 68 (λ w. leb (word 3 w) 64) (λ w. leb (length (ids_at 3 w)) 64) ok (λ w n o f. ids_few 3 64 w (leb-true (word 3 w) 64 f))
      t.roads (room 256 68 t.roads held.roads) held.roads.words p.r.formed

  junctions-few : Parts → all (λ j. leb (length j.lanes) 64) (rows 69 junction_of t.junctions) ≡ true
  unfolding junction_of
  junctions-few p =
      every_row 69 junction_of (λ j. leb (length j.lanes) 64) t.junctions
      ∙ rows-weaken 69 (λ w. leb (word 4 w) 64) (λ w. leb (length (ids_at 4 w)) 64) ok (λ w n o f. ids_few 4 64 w (leb-true (word 4 w) 64 f))
      t.junctions (room 256 69 t.junctions held.junctions) held.junctions.words p.j.formed

  rules-few : Parts → all (λ r. all (λ ids. leb (length ids) 64) (id_lists r)) (rows 330 rule_of t.rules) ≡ true
  rules-few p =
      every_row 330 rule_of (λ r. all (λ ids. leb (length ids) 64) (id_lists r)) t.rules
      ∙ rows-weaken 330 rule_formed (λ w. all (λ ids. leb (length ids) 64) (id_lists (rule_of w))) ok (λ w n o f. rule-lists-few w f)
      t.rules (room 512 330 t.rules held.rules) held.rules.words p.u.formed

  limits-hold : Parts → leb (point_count (view t)) 65536 ≡ true → within_limits (view t) ≡ true
  unfolding within_limits view
  limits-hold p total =
      rw (
        count_fits 1024 52 (lane_of t.coordinates) t.lanes held.lanes,
        count_fits 4096 5 (boundary_of t.coordinates) t.boundaries held.boundaries,
        count_fits 256 68 road_of t.roads held.roads,
        count_fits 256 69 junction_of t.junctions held.junctions,
        count_fits 512 330 rule_of t.rules held.rules,
        count_fits 512 4 (stop_line_of t.coordinates) t.stop_lines held.stop_lines,
        count_fits 128 7 (crosswalk_of t.coordinates) t.crosswalks held.crosswalks,
        lines-short p,
        total,
        links-few p,
        roads-few p,
        junctions-few p,
        rules-few p,
      )

  names-hold : Parts → counter_above counter (view t) ≡ true
  unfolding view boundary_of stop_line_of crosswalk_of
  names-hold p =
      counter-same counter (view t) small (names-ok t held)
      ∙ (all-names (λ i. leb i (largest_id counter)) (view t)
      ∙ rw (p.l.named, p.b.named, p.r.named, p.j.named, p.u.named, p.s.named, p.x.named))

  kinds-hold : Parts → kinds_legal (view t) ≡ true
  unfolding kinds_legal view
  kinds-hold p = rw (p.l.kinds, p.b.kinds, p.u.kinds)

  handles_hold : Parts → handles_legal (view t) ≡ true
  unfolding handles_legal view
  handles_hold p = rw (p.l.handles, p.b.handles, p.r.handles, p.j.handles, p.u.handles, p.s.handles, p.x.handles)

  ascend-holds : Parts → links_ascend (view t) ≡ true
  unfolding links_ascend view
  ascend-holds p = p.l.ascend

  once-holds : Parts → repeat_free (view t) ≡ true
  unfolding repeat_free view
  once-holds p = rw (p.r.once, p.j.once, p.u.once)

  pub ids-same : ids_ascend (view t)
      ≡ (ascending (keys 52 (word 0 t.lanes) (drop 1 t.lanes)) && ascending (keys 5 (word 0 t.boundaries) (drop 1 t.boundaries))
      && ascending (keys 68 (word 0 t.roads) (drop 1 t.roads)) && ascending (keys 69 (word 0 t.junctions) (drop 1 t.junctions))
      && ascending (keys 330 (word 0 t.rules) (drop 1 t.rules)) && ascending (keys 4 (word 0 t.stop_lines) (drop 1 t.stop_lines))
      && ascending (keys 7 (word 0 t.crosswalks) (drop 1 t.crosswalks)))
  unfolding ids_ascend view lane_of boundary_of road_of junction_of rule_of stop_line_of crosswalk_of
  ids-same =
      rw (
        ids-keys 52 (lane_of t.coordinates) (λ l. l.id) t.lanes (λ w. refl),
        ids-keys 5 (boundary_of t.coordinates) (λ b. b.id) t.boundaries (λ w. refl),
        ids-keys 68 road_of (λ r. r.id) t.roads (λ w. refl),
        ids-keys 69 junction_of (λ j. j.id) t.junctions (λ w. refl),
        ids-keys 330 rule_of (λ r. r.id) t.rules (λ w. refl),
        ids-keys 4 (stop_line_of t.coordinates) (λ x. x.id) t.stop_lines (λ w. refl),
        ids-keys 7 (crosswalk_of t.coordinates) (λ x. x.id) t.crosswalks (λ w. refl),
      )

  -- What passes the test is sound.
  pub tested-sound : Tested counter t → sound_tables counter t ≡ true
  unfolding sound_tables
  tested-sound h =
      let p = parts-of h in
      and_both (formed t) (sound counter (view t)) (formed-holds p h.apart)
      (facts-sound counter (view t)
      (record {
        limits = limits-hold p h.total;
        ids = ids-same ∙ rw (h.lane-keys, h.boundary-keys, h.road_keys, h.junction_keys, h.rule-keys, h.stop-line-keys, h.crosswalk-keys);
        counter-above = names-hold p;
        reach = lines_near p;
        kinds = kinds-hold p;
        handles = handles_hold p;
        links-ascend = ascend-holds p;
        links = h.links;
        neighbors = h.neighbors;
        once = once-holds p;
      }))
