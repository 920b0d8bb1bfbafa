-- An edit of links and neighbours of a sound map fits the room if its lists have at most 16 ids. Assumes nothing.
use Rattle.std.specs.Prelude.{Option}
use mathlib.Core.Path.{◌≡◌, refl, ap, ◌∙◌}
use Prim.Native.Nat.{ℕ, ◌-◌, ◌/◌, ◌≤◌, min}
use native.Mathlib.Omega.{arith}
use mathlib.Core.Bool.{Bool, true, false, ◌&&◌}
use mathlib.Core.List.{List, map}
use lib.Dec.{leb}
use lib.ListN.{length, length-map}
use borrow.Author.Tests.{le-leb}
use Rattle.lists.specs.Every.{all}
use Rattle.lists.proofs.Booleans.{and-fst, and-snd}
use Rattle.lists.proofs.Select.{all_map}
use Rattle.entities.specs.Records.{Lane, Map}
use Rattle.entities.specs.declared.Neighbor.{Neighbor}
use Rattle.rules.specs.Sound.{fits_room, within_limits, sound, lines, optional_line, point_count, id_lists, total}
use Rattle.rules.proofs.Facts.{sound-facts}
use Rattle.laws.proofs.Keeps.{each_map}
use Rattle.tables.specs.View.{Tables, word, view, lane_of, boundary_of}
use Rattle.tables.specs.Formed.{spans, formed, sound_tables}
use Rattle.row_tests.proofs.Tables.{table-room}
use Rattle.soundness.proofs.Back.{and7, formed-parts}
use Rattle.soundness.proofs.Few.{sizes, sizes-among, points-sizes}
use Rattle.soundness.proofs.Whole.{rows-count}
use Rattle.store.specs.Store.{room_of}
use Rattle.sound_facts.specs.Room.{relinked_by, relinked_map, links_fit}
use Rattle.sound_facts.proofs.Stored.{formed-counts}

-- ---- limits as facts

pub record Limits (m : Map) : Type 0 where
  pub lanes : leb (length m.lanes) 1024 ≡ true
  pub boundaries : leb (length m.boundaries) 4096 ≡ true
  pub roads : leb (length m.roads) 256 ≡ true
  pub junctions : leb (length m.junctions) 256 ≡ true
  pub rules : leb (length m.rules) 512 ≡ true
  pub stop_lines : leb (length m.stop_lines) 512 ≡ true
  pub crosswalks : leb (length m.crosswalks) 128 ≡ true
  pub short : all (λ c. leb (length c) 256) (lines m) ≡ true
  pub total : leb (point_count m) 65536 ≡ true
  pub links : all (λ l. leb (length l.predecessors) 16 && leb (length l.successors) 16) m.lanes ≡ true
  pub road_lists : all (λ r. leb (length r.lanes) 64) m.roads ≡ true
  pub junction_lists : all (λ j. leb (length j.lanes) 64) m.junctions ≡ true
  pub rule-lists : all (λ r. all (λ ids. leb (length ids) 64) (id_lists r)) m.rules ≡ true

pub limits : (m : Map) → within_limits m ≡ true → Limits m
unfolding within_limits
limits m h =
    let first = leb (length m.lanes) 1024 && leb (length m.boundaries) 4096 && leb (length m.roads) 256 && leb (length m.junctions) 256
    && leb (length m.rules) 512 && leb (length m.stop_lines) 512 && leb (length m.crosswalks) 128 in
    let (a, b, c, d, e, f, g) = and7 first (all (λ x. leb (length x) 256) (lines m)) (leb (point_count m) 65536)
    (all (λ l. leb (length l.predecessors) 16 && leb (length l.successors) 16) m.lanes) (all (λ r. leb (length r.lanes) 64) m.roads)
    (all (λ j. leb (length j.lanes) 64) m.junctions) (all (λ r. all (λ ids. leb (length ids) 64) (id_lists r)) m.rules) h in
    let (n, o, p, q, r, s, t) = and7 (leb (length m.lanes) 1024) (leb (length m.boundaries) 4096) (leb (length m.roads) 256) (leb (length m.junctions) 256)
    (leb (length m.rules) 512) (leb (length m.stop_lines) 512) (leb (length m.crosswalks) 128) a in
    record {
      lanes = n;
      boundaries = o;
      roads = p;
      junctions = q;
      rules = r;
      stop_lines = s;
      crosswalks = t;
      short = b;
      total = c;
      links = d;
      road_lists = e;
      junction_lists = f;
      rule-lists = g;
    }

-- ---- lent lengths

-- lines that lie apart among the points stored have no more points than are lent
pub points-room : (t : Tables) → formed t ≡ true → point_count (view t) ≤ length t.coordinates / 3
points-room t h =
    let p = formed-parts t h in
    let n = min 65536 (length t.coordinates / 3) in
    let a : sizes (spans t) ≤ n = sizes-among n (spans t) p.store p.apart in
    let b = points-sizes t in
    omega arith

-- ---- a change of links and neighbours

ended : (x : Bool) → (x && true && true && true) ≡ x
ended true = refl
ended false = refl

-- thirteen limits of which one is open
one_open : (x : Bool) {a b c d e f g h i j k l : Bool} → a ≡ true → b ≡ true → c ≡ true → d ≡ true → e ≡ true → f ≡ true → g ≡ true → h ≡ true → i ≡ true → j ≡ true → k ≡ true → l ≡ true
    → (a && b && c && d && e && f && g && h && i && x && j && k && l) ≡ x
one_open x p0 p1 p2 p3 p4 p5 p6 p7 p8 p9 p10 p11 = rw (p0, p1, p2, p3, p4, p5, p6, p7, p8, p9, p10, p11) (ended x)

module _ (ln rn : Lane → Option Neighbor) (ps ss : Lane → List ℕ) where
  pub lines-relinked : (m : Map) → lines (relinked_map ln rn ps ss m) ≡ lines m
  unfolding lines
  lines-relinked m = rw (each_map (λ l. optional_line l.centerline) (relinked_by ln rn ps ss) m.lanes)

  pub limits-relinked : (m : Map) → within_limits m ≡ true → within_limits (relinked_map ln rn ps ss m) ≡ links_fit ps ss m.lanes
  unfolding within_limits
  limits-relinked m h =
      let f = limits m h in
      let n : length (map (relinked_by ln rn ps ss) m.lanes) ≡ length m.lanes = length-map m.lanes (relinked_by ln rn ps ss) in
      let e = lines-relinked m in
      one_open (all (λ l. leb (length l.predecessors) 16 && leb (length l.successors) 16) (map (relinked_by ln rn ps ss) m.lanes))
      (ap (λ z. leb z 1024) n ∙ f.lanes) f.boundaries f.roads f.junctions f.rules f.stop_lines f.crosswalks
      (ap (all (λ c. leb (length c) 256)) e ∙ f.short) (ap (λ z. leb (total (map length z)) 65536) e ∙ f.total) f.road_lists f.junction_lists f.rule-lists
      ∙ all_map (λ l. leb (length l.predecessors) 16 && leb (length l.successors) 16) (relinked_by ln rn ps ss) m.lanes

  room_fits : (counter : ℕ) (t : Tables) → sound_tables counter t ≡ true
      → fits_room (room_of t) (relinked_map ln rn ps ss (view t)) ≡ links_fit ps ss (view t).lanes
  unfolding sound_tables fits_room
  room_fits counter t h =
      let fm = and-fst (formed t) (sound counter (view t)) h in
      let s = sound-facts counter (view t) (and-snd (formed t) (sound counter (view t)) h) in
      let n = formed-counts t fm in
      let f = relinked_by ln rn ps ss in
      let a : leb (length (map f (view t).lanes)) ((length t.lanes - 1) / 52) ≡ true =
      ap (λ z. leb z ((length t.lanes - 1) / 52)) (length-map (view t).lanes f ∙ lane_count) ∙ le-leb (word 0 t.lanes) ((length t.lanes - 1) / 52) (omega (arith, table-room 1024 52 t.lanes n.lanes)) in
      let b : leb (length (view t).boundaries) ((length t.boundaries - 1) / 5) ≡ true =
      ap (λ z. leb z ((length t.boundaries - 1) / 5)) boundary-count ∙ le-leb (word 0 t.boundaries) ((length t.boundaries - 1) / 5) (omega (arith, table-room 4096 5 t.boundaries n.boundaries)) in
      let c : leb (point_count (relinked_map ln rn ps ss (view t))) (length t.coordinates / 3) ≡ true =
      ap (λ z. leb (total (map length z)) (length t.coordinates / 3)) (lines-relinked (view t)) ∙ le-leb (point_count (view t)) (length t.coordinates / 3) (points-room t fm) in
      four (limits-relinked (view t) s.limits) a b c
    where
      lane_count : length (view t).lanes ≡ word 0 t.lanes
      lane_count = unfold view in rows-count 52 (lane_of t.coordinates) t.lanes

      boundary-count : length (view t).boundaries ≡ word 0 t.boundaries
      boundary-count = unfold view in rows-count 5 (boundary_of t.coordinates) t.boundaries

      four : {w x a b c : Bool} → w ≡ x → a ≡ true → b ≡ true → c ≡ true → (w && a && b && c) ≡ x
      four {w} {x} e p q r = rw (e, p, q, r) (ended x)

-- The room holds a sound map's lanes with other links and neighbours, if the new lists do not pass 16 ids: nothing else changes.
pub room-relinked : (counter : ℕ) (t : Tables) → sound_tables counter t ≡ true → (ln rn : Lane → Option Neighbor) (ps ss : Lane → List ℕ)
    → fits_room (room_of t) (relinked_map ln rn ps ss (view t)) ≡ links_fit ps ss (view t).lanes
room-relinked counter t h ln rn ps ss = room_fits ln rn ps ss counter t h
