-- From soundness to the test: each clause gives its part of every table.
use mathlib.Core.Path.{◌≡◌, sym, ◌∙◌}
use mathlib.Core.Bool.{Bool, true, ◌&&◌}
use mathlib.Core.List.{◌∷◌}
use Prim.Native.Nat.{ℕ, ◌≤◌}
use lib.Dec.{leb, ltb}
use lib.ListN.{length, drop}
use Rattle.lists.specs.Every.{all}
use Rattle.lists.specs.Rows.{keys}
use Rattle.lists.specs.Select.{ascending, distinct}
use Rattle.lists.proofs.Booleans.{and-fst, and-snd}
use Rattle.geometry.specs.Point.{in_reach}
use Rattle.entities.specs.Records.{Line}
use Rattle.rules.specs.Sound.{last_counter, handle_width, speed_legal, sound, within_limits, counter_above, lines_in_reach, kinds_legal, handles_legal, links_ascend, repeat_free, point_count, id_lists, lines, optional_line, lane_names, rule_names, rule_legal}
use Rattle.rules.proofs.Facts.{sound-facts}
use Rattle.tables.specs.View.{Tables, word, line_at, rows, view, lane_of, boundary_of, road_of, junction_of, rule_of, stop_line_of, crosswalk_of}
use Rattle.tables.specs.Formed.{span_at, center_span, stored, spans, all_clear, formed, sound_tables, lane_formed, rule_formed}
use Rattle.row_tests.specs.Good.{largest_id, all_rows}
use Rattle.soundness.specs.Parts.{all_counted}
use Rattle.soundness.proofs.Rows.{every_row}
use Rattle.soundness.proofs.Pointwise.{and3, and5}
use Rattle.soundness.proofs.Parts.{parts-lane, parts-boundary, parts_road, parts_junction, parts-rule, parts-stop-line, parts-crosswalk}
use Rattle.soundness.proofs.Whole.{counter-same, all_lines, all-stored, all-names}
use Rattle.soundness.proofs.Words.{AllHeld, names-ok}
use Rattle.soundness.proofs.Verdict.{Tested, parts-line, ids-same}

pub and7 : (a b c d e f g : Bool) → (a && b && c && d && e && f && g) ≡ true
    → (a ≡ true) × (b ≡ true) × (c ≡ true) × (d ≡ true) × (e ≡ true) × (f ≡ true) × (g ≡ true)
and7 a b c d e f g h =
    let i = and-fst (a && b && c && d && e && f) g h in
    let j = and-fst (a && b && c && d && e) f i in
    let (p, q, r, s, t) = and5 a b c d e j in
    (p, q, r, s, t, and-snd (a && b && c && d && e) f i, and-snd (a && b && c && d && e && f) g h)

pub five-of : (a b c d e : Bool) → (a && (b && (c && (d && e)))) ≡ true → (a ≡ true) × (b ≡ true) × (c ≡ true) × (d ≡ true) × (e ≡ true)
five-of a b c d e h =
    let i = and-snd a (b && (c && (d && e))) h in
    let j = and-snd b (c && (d && e)) i in
    let k = and-snd c (d && e) j in
    (and-fst a (b && (c && (d && e))) h, and-fst b (c && (d && e)) i, and-fst c (d && e) j, and-fst d e k, and-snd d e k)

seven-of : (a b c d e f g : Bool) → (a && (b && (c && (d && (e && (f && g)))))) ≡ true
    → (a ≡ true) × (b ≡ true) × (c ≡ true) × (d ≡ true) × (e ≡ true) × (f ≡ true) × (g ≡ true)
seven-of a b c d e f g h =
    let i = and-snd a (b && (c && (d && (e && (f && g))))) h in
    let j = and-snd b (c && (d && (e && (f && g)))) i in
    let (r, s, t, u, v) = five-of c d e f g j in
    (and-fst a (b && (c && (d && (e && (f && g))))) h, and-fst b (c && (d && (e && (f && g)))) i, r, s, t, u, v)

-- ---- the shape of the tables

pub record FormedParts (t : Tables) : Type 0 where
  pub counts : all_counted t ≡ true
  pub lanes : all_rows 52 lane_formed t.lanes ≡ true
  pub roads : all_rows 68 (λ w. leb (word 3 w) 64) t.roads ≡ true
  pub junctions : all_rows 69 (λ w. leb (word 4 w) 64) t.junctions ≡ true
  pub rules : all_rows 330 rule_formed t.rules ≡ true
  pub store : all (stored t.coordinates) (spans t) ≡ true
  pub apart : all_clear (spans t) ≡ true

pub formed-parts : (t : Tables) → formed t ≡ true → FormedParts t
unfolding formed all_rows all_counted
formed-parts t h =
    let (a, b, c, d, e, f, g) = and7 (all_counted t) (all_rows 52 lane_formed t.lanes) (all_rows 68 (λ w. leb (word 3 w) 64) t.roads)
    (all_rows 69 (λ w. leb (word 4 w) 64) t.junctions) (all_rows 330 rule_formed t.rules)
    (all (stored t.coordinates) (spans t)) (all_clear (spans t)) h in
    record { counts = a; lanes = b; roads = c; junctions = d; rules = e; store = f; apart = g }

-- ---- the five columns of lines

pub record Columns (t : Tables) (q : Line → Bool) : Type 0 where
  pub boundaries : all_rows 5 (λ w. q (line_at t.coordinates 2 w)) t.boundaries ≡ true
  pub lanes : all (λ l. all q (optional_line l.centerline)) (rows 52 (lane_of t.coordinates) t.lanes) ≡ true
  pub stop_lines : all_rows 4 (λ w. q (line_at t.coordinates 1 w)) t.stop_lines ≡ true
  pub left_edges : all_rows 7 (λ w. q (line_at t.coordinates 1 w)) t.crosswalks ≡ true
  pub right_edges : all_rows 7 (λ w. q (line_at t.coordinates 3 w)) t.crosswalks ≡ true

columns : (t : Tables) (q : Line → Bool) → all q (lines (view t)) ≡ true → Columns t q
unfolding view boundary_of stop_line_of crosswalk_of
columns t q h =
    let x = t.coordinates in
    let (a, b, c, d, e) = five-of (all (λ b. q b.geometry) (rows 5 (boundary_of x) t.boundaries)) (all (λ l. all q (optional_line l.centerline)) (rows 52 (lane_of x) t.lanes))
    (all (λ s. q s.geometry) (rows 4 (stop_line_of x) t.stop_lines)) (all (λ c. q c.left_edge) (rows 7 (crosswalk_of x) t.crosswalks))
    (all (λ c. q c.right_edge) (rows 7 (crosswalk_of x) t.crosswalks)) (sym (all_lines q (view t)) ∙ h) in
    record {
      boundaries = sym (every_row 5 (boundary_of x) (λ b. q b.geometry) t.boundaries) ∙ a;
      lanes = b;
      stop_lines = sym (every_row 4 (stop_line_of x) (λ s. q s.geometry) t.stop_lines) ∙ c;
      left_edges = sym (every_row 7 (crosswalk_of x) (λ s. q s.left_edge) t.crosswalks) ∙ d;
      right_edges = sym (every_row 7 (crosswalk_of x) (λ s. q s.right_edge) t.crosswalks) ∙ e;
    }

record Stored (t : Tables) : Type 0 where
  boundaries : all_rows 5 (λ w. stored t.coordinates (span_at 2 w)) t.boundaries ≡ true
  lanes : all_rows 52 (λ w. all (stored t.coordinates) (center_span w)) t.lanes ≡ true
  stop_lines : all_rows 4 (λ w. stored t.coordinates (span_at 1 w)) t.stop_lines ≡ true
  left_edges : all_rows 7 (λ w. stored t.coordinates (span_at 1 w)) t.crosswalks ≡ true
  right_edges : all_rows 7 (λ w. stored t.coordinates (span_at 3 w)) t.crosswalks ≡ true

stored-columns : (t : Tables) → all (stored t.coordinates) (spans t) ≡ true → Stored t
stored-columns t h =
    let x = t.coordinates in
    let (a, b, c, d, e) = five-of (all_rows 5 (λ w. stored x (span_at 2 w)) t.boundaries) (all_rows 52 (λ w. all (stored x) (center_span w)) t.lanes)
    (all_rows 4 (λ w. stored x (span_at 1 w)) t.stop_lines) (all_rows 7 (λ w. stored x (span_at 1 w)) t.crosswalks)
    (all_rows 7 (λ w. stored x (span_at 3 w)) t.crosswalks) (sym (all-stored x t) ∙ h) in
    record { boundaries = a; lanes = b; stop_lines = c; left_edges = d; right_edges = e }

-- ---- the clauses of the map

record Limits (t : Tables) : Type 0 where
  short : all (λ x. leb (length x) 256) (lines (view t)) ≡ true
  total : leb (point_count (view t)) 65536 ≡ true

limits_of : (t : Tables) → within_limits (view t) ≡ true → Limits t
unfolding within_limits
limits_of t h =
    let m = view t in
    let sizes = leb (length m.lanes) 1024 && leb (length m.boundaries) 4096 && leb (length m.roads) 256 && leb (length m.junctions) 256
    && leb (length m.rules) 512 && leb (length m.stop_lines) 512 && leb (length m.crosswalks) 128 in
    let (a, b, c, d, e, f, g) = and7 sizes (all (λ x. leb (length x) 256) (lines m)) (leb (point_count m) 65536)
    (all (λ l. leb (length l.predecessors) 16 && leb (length l.successors) 16) m.lanes) (all (λ r. leb (length r.lanes) 64) m.roads)
    (all (λ j. leb (length j.lanes) 64) m.junctions) (all (λ r. all (λ ids. leb (length ids) 64) (id_lists r)) m.rules) h in
    record { short = b; total = c }

record Kinds (t : Tables) : Type 0 where
  lanes : all (λ l. leb l.kind 7 && leb l.turn_direction 3) (rows 52 (lane_of t.coordinates) t.lanes) ≡ true
  boundaries : all (λ b. leb b.kind 13) (rows 5 (boundary_of t.coordinates) t.boundaries) ≡ true
  rules : all rule_legal (rows 330 rule_of t.rules) ≡ true

kinds-of : (t : Tables) → kinds_legal (view t) ≡ true → Kinds t
unfolding kinds_legal view
kinds-of t h =
    let x = t.coordinates in
    let (a, b, c) = and3 (all (λ l. leb l.kind 7 && leb l.turn_direction 3) (rows 52 (lane_of x) t.lanes)) (all (λ b. leb b.kind 13) (rows 5 (boundary_of x) t.boundaries))
    (all rule_legal (rows 330 rule_of t.rules)) h in
    record { lanes = a; boundaries = b; rules = c }

record Handles (t : Tables) : Type 0 where
  lanes : all (λ l. ltb l.attributes handle_width && speed_legal l.speed_limit) (rows 52 (lane_of t.coordinates) t.lanes) ≡ true
  boundaries : all (λ b. ltb b.attributes handle_width) (rows 5 (boundary_of t.coordinates) t.boundaries) ≡ true
  roads : all (λ r. ltb r.name handle_width && ltb r.attributes handle_width) (rows 68 road_of t.roads) ≡ true
  junctions : all (λ j. ltb j.name handle_width && ltb j.outline handle_width && ltb j.attributes handle_width) (rows 69 junction_of t.junctions) ≡ true
  rules : all (λ r. ltb r.content handle_width && ltb r.attributes handle_width) (rows 330 rule_of t.rules) ≡ true
  stop_lines : all (λ s. ltb s.attributes handle_width) (rows 4 (stop_line_of t.coordinates) t.stop_lines) ≡ true
  crosswalks : all (λ c. ltb c.outline handle_width && ltb c.attributes handle_width) (rows 7 (crosswalk_of t.coordinates) t.crosswalks) ≡ true

handles_of : (t : Tables) → handles_legal (view t) ≡ true → Handles t
unfolding handles_legal view
handles_of t h =
    let x = t.coordinates in
    let (a, b, c, d, e, f, g) = and7 (all (λ l. ltb l.attributes handle_width && speed_legal l.speed_limit) (rows 52 (lane_of x) t.lanes))
    (all (λ b. ltb b.attributes handle_width) (rows 5 (boundary_of x) t.boundaries)) (all (λ r. ltb r.name handle_width && ltb r.attributes handle_width) (rows 68 road_of t.roads))
    (all (λ j. ltb j.name handle_width && ltb j.outline handle_width && ltb j.attributes handle_width) (rows 69 junction_of t.junctions))
    (all (λ r. ltb r.content handle_width && ltb r.attributes handle_width) (rows 330 rule_of t.rules)) (all (λ s. ltb s.attributes handle_width) (rows 4 (stop_line_of x) t.stop_lines))
    (all (λ c. ltb c.outline handle_width && ltb c.attributes handle_width) (rows 7 (crosswalk_of x) t.crosswalks)) h in
    record { lanes = a; boundaries = b; roads = c; junctions = d; rules = e; stop_lines = f; crosswalks = g }

record Names (most : ℕ) (t : Tables) : Type 0 where
  lanes : all (λ l. all (λ i. leb i most) (lane_names l)) (rows 52 (lane_of t.coordinates) t.lanes) ≡ true
  boundaries : all (λ b. leb b.id most) (rows 5 (boundary_of t.coordinates) t.boundaries) ≡ true
  roads : all (λ r. all (λ i. leb i most) (r.id ∷ r.lanes)) (rows 68 road_of t.roads) ≡ true
  junctions : all (λ j. all (λ i. leb i most) (j.id ∷ j.lanes)) (rows 69 junction_of t.junctions) ≡ true
  rules : all (λ r. all (λ i. leb i most) (rule_names r)) (rows 330 rule_of t.rules) ≡ true
  stop_lines : all (λ s. leb s.id most) (rows 4 (stop_line_of t.coordinates) t.stop_lines) ≡ true
  crosswalks : all (λ c. leb c.id most) (rows 7 (crosswalk_of t.coordinates) t.crosswalks) ≡ true

names_of : (counter : ℕ) (t : Tables) → counter ≤ last_counter → AllHeld t → counter_above counter (view t) ≡ true → Names (largest_id counter) t
unfolding view
names_of counter t small held h =
    let x = t.coordinates in
    let most = largest_id counter in
    let (a, b, c, d, e, f, g) = seven-of (all (λ l. all (λ i. leb i most) (lane_names l)) (rows 52 (lane_of x) t.lanes)) (all (λ b. leb b.id most) (rows 5 (boundary_of x) t.boundaries))
    (all (λ r. all (λ i. leb i most) (r.id ∷ r.lanes)) (rows 68 road_of t.roads)) (all (λ j. all (λ i. leb i most) (j.id ∷ j.lanes)) (rows 69 junction_of t.junctions))
    (all (λ r. all (λ i. leb i most) (rule_names r)) (rows 330 rule_of t.rules)) (all (λ s. leb s.id most) (rows 4 (stop_line_of x) t.stop_lines))
    (all (λ c. leb c.id most) (rows 7 (crosswalk_of x) t.crosswalks)) (sym (all-names (λ i. leb i most) (view t)) ∙ (sym (counter-same counter (view t) small (names-ok t held)) ∙ h)) in
    record { lanes = a; boundaries = b; roads = c; junctions = d; rules = e; stop_lines = f; crosswalks = g }

ascend-of : (t : Tables) → links_ascend (view t) ≡ true → all (λ l. ascending l.predecessors && ascending l.successors) (rows 52 (lane_of t.coordinates) t.lanes) ≡ true
unfolding links_ascend view
ascend-of t h = h

record Once (t : Tables) : Type 0 where
  roads : all (λ r. distinct r.lanes) (rows 68 road_of t.roads) ≡ true
  junctions : all (λ j. distinct j.lanes) (rows 69 junction_of t.junctions) ≡ true
  rules : all (λ r. distinct r.lanes && distinct r.priority && distinct r.yielding) (rows 330 rule_of t.rules) ≡ true

once-of : (t : Tables) → repeat_free (view t) ≡ true → Once t
unfolding repeat_free view
once-of t h =
    let (a, b, c) = and3 (all (λ r. distinct r.lanes) (rows 68 road_of t.roads)) (all (λ j. distinct j.lanes) (rows 69 junction_of t.junctions))
    (all (λ r. distinct r.lanes && distinct r.priority && distinct r.yielding) (rows 330 rule_of t.rules)) h in
    record { roads = a; junctions = b; rules = c }

near_of : (t : Tables) → lines_in_reach (view t) ≡ true → Columns t (all in_reach)
unfolding lines_in_reach
near_of t h = columns t (all in_reach) h

-- ---- the verdict

-- What is sound passes the test.
pub sound-tested : (counter : ℕ) (t : Tables) → counter ≤ last_counter → AllHeld t → sound_tables counter t ≡ true → Tested counter t
unfolding sound_tables
sound-tested counter t small held h =
    let c = t.coordinates in
    let most = largest_id counter in
    let fp = formed-parts t (and-fst (formed t) (sound counter (view t)) h) in
    let sf = sound-facts counter (view t) (and-snd (formed t) (sound counter (view t)) h) in
    let lim = limits_of t sf.limits in
    let ks = kinds-of t sf.kinds in
    let hs = handles_of t sf.handles in
    let ns = names_of counter t small held sf.counter-above in
    let on = once-of t sf.once in
    let st = stored-columns t fp.store in
    let sh = columns t (λ x. leb (length x) 256) lim.short in
    let nr = near_of t sf.reach in
    let (k1, k2, k3, k4, k5, k6, k7) = and7 (ascending (keys 52 (word 0 t.lanes) (drop 1 t.lanes))) (ascending (keys 5 (word 0 t.boundaries) (drop 1 t.boundaries)))
    (ascending (keys 68 (word 0 t.roads) (drop 1 t.roads))) (ascending (keys 69 (word 0 t.junctions) (drop 1 t.junctions))) (ascending (keys 330 (word 0 t.rules) (drop 1 t.rules)))
    (ascending (keys 4 (word 0 t.stop_lines) (drop 1 t.stop_lines))) (ascending (keys 7 (word 0 t.crosswalks) (drop 1 t.crosswalks))) (sym (ids-same counter t small held) ∙ sf.ids) in
    record {
      lanes = parts-lane most c t.lanes held.lanes
          (record { formed = fp.lanes; kinds = ks.lanes; handles = hs.lanes; named = ns.lanes; ascend = ascend-of t sf.links-ascend; store = st.lanes; short = sh.lanes; near = nr.lanes });
      boundaries = parts-boundary most c t.boundaries held.boundaries
          (record { kinds = ks.boundaries; handles = hs.boundaries; named = ns.boundaries; lines = parts-line c 5 2 t.boundaries (record { store = st.boundaries; short = sh.boundaries; near = nr.boundaries }) });
      roads = parts_road most t.roads held.roads (record { formed = fp.roads; handles = hs.roads; named = ns.roads; once = on.roads });
      junctions = parts_junction most t.junctions held.junctions (record { formed = fp.junctions; handles = hs.junctions; named = ns.junctions; once = on.junctions });
      rules = parts-rule most t.rules held.rules (record { formed = fp.rules; kinds = ks.rules; handles = hs.rules; named = ns.rules; once = on.rules });
      stop_lines = parts-stop-line most c t.stop_lines held.stop_lines
          (record { handles = hs.stop_lines; named = ns.stop_lines; lines = parts-line c 4 1 t.stop_lines (record { store = st.stop_lines; short = sh.stop_lines; near = nr.stop_lines }) });
      crosswalks = parts-crosswalk most c t.crosswalks held.crosswalks
          (record {
            handles = hs.crosswalks;
            named = ns.crosswalks;
            left-lines = parts-line c 7 1 t.crosswalks (record { store = st.left_edges; short = sh.left_edges; near = nr.left_edges });
            right-lines = parts-line c 7 3 t.crosswalks (record { store = st.right_edges; short = sh.right_edges; near = nr.right_edges });
          });
      lane-keys = k1;
      boundary-keys = k2;
      road_keys = k3;
      junction_keys = k4;
      rule-keys = k5;
      stop-line-keys = k6;
      crosswalk-keys = k7;
      apart = fp.apart;
      total = lim.total;
      links = sf.links;
      neighbors = sf.neighbors;
    }
