-- What edits know of a sound map: its tables can be searched, its lines read, its links and neighbours followed and answered.
-- Words need not fit 64 bits, and the counter may be any: nothing here asks for it. Assumes nothing.
use Rattle.std.specs.Prelude.{Option, None, Some}
use mathlib.Core.Path.{◌≡◌, refl, sym, ap, ◌∙◌}
use Prim.Native.Nat.{ℕ, suc, ◌<◌}
use mathlib.Core.Bool.{Bool, true, false, not, ◌&&◌, ◌||◌, cond, true≢false}
use mathlib.Core.List.{List, [], ◌∷◌, map}
use lib.Dec.{eqb, leb}
use lib.Ieee.{Float}
use lib.ListN.{length, drop}
use borrow.Author.Tests.{eqb-true}
use Rattle.lists.specs.Every.{all}
use Rattle.lists.specs.Rows.{keys, row_with}
use Rattle.lists.specs.Select.{has, ascending}
use Rattle.lists.proofs.Booleans.{and_both, and-fst, and-snd}
use Rattle.lists.proofs.Select.{all-has}
use Rattle.entities.specs.Records.{Line, Lane}
use Rattle.entities.specs.Types.{reciprocal_side}
use Rattle.rules.specs.Names.{Side, Left, Right, NeighborDirection, Same, Opposite, Neighbor}
use Rattle.rules.specs.Map.{neighbor_on}
use Rattle.rules.specs.Sound as S
use Rattle.rules.proofs.Facts.{Sound, sound-facts}
use Rattle.tables.specs.View.{Tables, word, mark, ids_at, line_at, option_line_at, rows, view, lane_of, boundary_of, road_of, junction_of, rule_of, stop_line_of, crosswalk_of}
use Rattle.tables.specs.Formed.{span_at, center_span, stored, spans, formed, sound_tables}
use Rattle.row_tests.specs.Good.{all_rows}
use Rattle.row_tests.specs.Returned.{searchable, lane_at, lane_returned, row_test, on_row, names_back}
use Rattle.row_tests.proofs.Relations.{any-lane, links-tie}
use Rattle.soundness.proofs.Back.{and7, five-of, FormedParts, formed-parts}
use Rattle.soundness.proofs.Pointwise.{line-length}
use Rattle.soundness.proofs.Rows.{every_row, rows-and}
use Rattle.soundness.proofs.Whole.{ids-keys, all_lines, all-stored}
use Rattle.lookup.specs.Lookup.{sorted_table, row_at, place_of, all_stored, all_short, centers_stored, Drawable, Crossable}
use Rattle.lookup.proofs.Laws.{row-passes}
use Rattle.lookup.proofs.Good.{rows-weaker, table-sorted}
use Rattle.topology.specs.Topology.{id_at, links_at, slot_held}
use Rattle.sound_facts.proofs.Stored.{formed-counts}
use Rattle.sound_facts.proofs.Room.{limits}

-- ---- keys

pub record Keys (t : Tables) : Type 0 where
  pub lanes : ascending (keys 52 (word 0 t.lanes) (drop 1 t.lanes)) ≡ true
  pub boundaries : ascending (keys 5 (word 0 t.boundaries) (drop 1 t.boundaries)) ≡ true
  pub roads : ascending (keys 68 (word 0 t.roads) (drop 1 t.roads)) ≡ true
  pub junctions : ascending (keys 69 (word 0 t.junctions) (drop 1 t.junctions)) ≡ true
  pub rules : ascending (keys 330 (word 0 t.rules) (drop 1 t.rules)) ≡ true
  pub stop_lines : ascending (keys 4 (word 0 t.stop_lines) (drop 1 t.stop_lines)) ≡ true
  pub crosswalks : ascending (keys 7 (word 0 t.crosswalks) (drop 1 t.crosswalks)) ≡ true

pub keys-ascend : (t : Tables) → S.ids_ascend (view t) ≡ true → Keys t
unfolding S.ids_ascend view lane_of boundary_of road_of junction_of rule_of stop_line_of crosswalk_of
keys-ascend t h =
    let x = t.coordinates in
    let (a, b, c, d, e, f, g) = and7 (ascending (map (λ l. l.id) (rows 52 (lane_of x) t.lanes))) (ascending (map (λ b. b.id) (rows 5 (boundary_of x) t.boundaries)))
    (ascending (map (λ r. r.id) (rows 68 road_of t.roads))) (ascending (map (λ j. j.id) (rows 69 junction_of t.junctions))) (ascending (map (λ r. r.id) (rows 330 rule_of t.rules)))
    (ascending (map (λ s. s.id) (rows 4 (stop_line_of x) t.stop_lines))) (ascending (map (λ c. c.id) (rows 7 (crosswalk_of x) t.crosswalks))) h in
    record {
      lanes = ap ascending (sym (ids-keys 52 (lane_of x) (λ l. l.id) t.lanes (λ w. refl))) ∙ a;
      boundaries = ap ascending (sym (ids-keys 5 (boundary_of x) (λ b. b.id) t.boundaries (λ w. refl))) ∙ b;
      roads = ap ascending (sym (ids-keys 68 road_of (λ r. r.id) t.roads (λ w. refl))) ∙ c;
      junctions = ap ascending (sym (ids-keys 69 junction_of (λ j. j.id) t.junctions (λ w. refl))) ∙ d;
      rules = ap ascending (sym (ids-keys 330 rule_of (λ r. r.id) t.rules (λ w. refl))) ∙ e;
      stop_lines = ap ascending (sym (ids-keys 4 (stop_line_of x) (λ s. s.id) t.stop_lines (λ w. refl))) ∙ f;
      crosswalks = ap ascending (sym (ids-keys 7 (crosswalk_of x) (λ c. c.id) t.crosswalks (λ w. refl))) ∙ g;
    }

-- ---- lines

-- stored, and with at most 256 points
record Column (s k : ℕ) (c : List Float) (t : List ℕ) : Type 0 where
  store : all_stored s k c t ≡ true
  short : all_short s k t ≡ true

column : (s k : ℕ) (c : List Float) (t : List ℕ) → all_rows s (λ w. stored c (span_at k w)) t ≡ true → all_rows s (λ w. leb (length (line_at c k w)) 256) t ≡ true → Column s k c t
unfolding all_stored all_short
column s k c t a b =
    let p : List ℕ → Bool = λ w. stored c (span_at k w) in
    let q : List ℕ → Bool = λ w. leb (length (line_at c k w)) 256 in
    let both : all_rows s (λ w. p w && q w) t ≡ true = rows-and s p q t ∙ and_both (all_rows s p t) (all_rows s q t) a b in
    record {
      store = unfold all_rows in a;
      short = rows-weaker s (λ w. p w && q w) (λ w. leb (word (suc k) w) 256)
          (λ w h. ap (λ n. leb n 256) (sym (line-length c (span_at k w) (and-fst (p w) (q w) h))) ∙ and-snd (p w) (q w) h) t both;
    }

-- explicit centrelines
centers : (c : List Float) (t : List ℕ) → all_rows 52 (λ w. all (stored c) (center_span w)) t ≡ true
    → all (λ l. all (λ x. leb (length x) 256) (S.optional_line l.centerline)) (rows 52 (lane_of c) t) ≡ true → centers_stored c t ≡ true
unfolding centers_stored lane_of
centers c t a b =
    let p : List ℕ → Bool = λ w. all (stored c) (center_span w) in
    let q : List ℕ → Bool = λ w. all (λ x. leb (length x) 256) (S.optional_line (option_line_at c 6 w)) in
    let d : all_rows 52 q t ≡ true = sym (every_row 52 (lane_of c) (λ l. all (λ x. leb (length x) 256) (S.optional_line l.centerline)) t) ∙ b in
    let both : all_rows 52 (λ w. p w && q w) t ≡ true = rows-and 52 p q t ∙ and_both (all_rows 52 p t) (all_rows 52 q t) a d in
    rows-weaker 52 (λ w. p w && q w) (λ w. not (mark 6 w) || (stored c (span_at 7 w) && leb (word 8 w) 256))
    (λ w h. go w (mark 6 w) (and-fst (p w) (q w) h) (and-snd (p w) (q w) h)) t both
  where
    go : (w : List ℕ) (b : Bool) → all (stored c) (cond b (span_at 7 w ∷ []) []) ≡ true → all (λ x. leb (length x) 256) (S.optional_line (cond b (Some (line_at c 7 w)) None)) ≡ true
        → (not b || (stored c (span_at 7 w) && leb (word 8 w) 256)) ≡ true
    go w true u v =
        let e : stored c (span_at 7 w) ≡ true = unfold all in and-fst (stored c (span_at 7 w)) true u in
        let f : leb (length (line_at c 7 w)) 256 ≡ true = unfold all in and-fst (leb (length (line_at c 7 w)) 256) true v in
        and_both (stored c (span_at 7 w)) (leb (word 8 w) 256) e (ap (λ n. leb n 256) (sym (line-length c (span_at 7 w) e)) ∙ f)
    go w false u v = refl

record Lines (t : Tables) : Type 0 where
  boundaries : Column 5 2 t.coordinates t.boundaries
  lanes : centers_stored t.coordinates t.lanes ≡ true
  stop_lines : Column 4 1 t.coordinates t.stop_lines
  lefts : Column 7 1 t.coordinates t.crosswalks
  rights : Column 7 3 t.coordinates t.crosswalks

lines_of : (t : Tables) → all (stored t.coordinates) (spans t) ≡ true → all (λ x. leb (length x) 256) (S.lines (view t)) ≡ true → Lines t
unfolding view boundary_of stop_line_of crosswalk_of
lines_of t h k =
    let x = t.coordinates in
    let q : Line → Bool = λ l. leb (length l) 256 in
    let (a, b, c, d, e) = five-of (all_rows 5 (λ w. stored x (span_at 2 w)) t.boundaries) (all_rows 52 (λ w. all (stored x) (center_span w)) t.lanes)
    (all_rows 4 (λ w. stored x (span_at 1 w)) t.stop_lines) (all_rows 7 (λ w. stored x (span_at 1 w)) t.crosswalks)
    (all_rows 7 (λ w. stored x (span_at 3 w)) t.crosswalks) (sym (all-stored x t) ∙ h) in
    let (f, g, i, j, l) = five-of (all (λ b. q b.geometry) (rows 5 (boundary_of x) t.boundaries)) (all (λ l. all q (S.optional_line l.centerline)) (rows 52 (lane_of x) t.lanes))
    (all (λ s. q s.geometry) (rows 4 (stop_line_of x) t.stop_lines)) (all (λ c. q c.left_edge) (rows 7 (crosswalk_of x) t.crosswalks))
    (all (λ c. q c.right_edge) (rows 7 (crosswalk_of x) t.crosswalks)) (sym (all_lines q (view t)) ∙ k) in
    record {
      boundaries = column 5 2 x t.boundaries a (sym (every_row 5 (boundary_of x) (λ b. q b.geometry) t.boundaries) ∙ f);
      lanes = centers x t.lanes b g;
      stop_lines = column 4 1 x t.stop_lines c (sym (every_row 4 (stop_line_of x) (λ s. q s.geometry) t.stop_lines) ∙ i);
      lefts = column 7 1 x t.crosswalks d (sym (every_row 7 (crosswalk_of x) (λ s. q s.left_edge) t.crosswalks) ∙ j);
      rights = column 7 3 x t.crosswalks e (sym (every_row 7 (crosswalk_of x) (λ s. q s.right_edge) t.crosswalks) ∙ l);
    }

-- ---- links and neighbours

-- a test that all rows pass, of one of them
each_row : (s : ℕ) (good : List ℕ → Bool) (t : List ℕ) → all_rows s good t ≡ true → (j : ℕ) → j < word 0 t → good (row_at s t j) ≡ true
unfolding all_rows
each_row s good t h j l = row-passes s good t h j l

-- a row that is found and passes
row-there : (q : List ℕ → Bool) (t : List ℕ) (b : ℕ) → row_test q t b ≡ true → (j : ℕ) × (place_of 52 t b ≡ Some j) × (q (lane_at t j) ≡ true)
unfolding row_test place_of
row-there q t b h = go (row_with b (keys 52 (word 0 t) (drop 1 t))) refl h
  where
    go : (r : Option ℕ) → row_with b (keys 52 (word 0 t) (drop 1 t)) ≡ r → on_row q t r ≡ true → (j : ℕ) × (row_with b (keys 52 (word 0 t) (drop 1 t)) ≡ Some j) × (q (lane_at t j) ≡ true)
    go None e u = absurd (true≢false (sym u))
    go (Some j) e u = (j, e, u)

-- lane b is there, and its list at k has the lane in row i
abbrev pub LinkThere : List ℕ → ℕ → ℕ → ℕ → Type 0
LinkThere t i k b = (j : ℕ) × (place_of 52 t b ≡ Some j) × (has (id_at t i) (links_at t j k) ≡ true)

-- the neighbour is there, and holds the lane in row i in the slot that answers
abbrev pub NeighborThere : List ℕ → ℕ → Side → Neighbor → Type 0
NeighborThere t i side n =
    (j : ℕ) × (place_of 52 t n.lane ≡ Some j) × (slot_held t j (reciprocal_side side n.direction) ≡ Some (record { lane = id_at t i; direction = n.direction }))

holds-is : (o : Option Neighbor) (i : ℕ) (d : NeighborDirection) → S.holds o i d ≡ true → o ≡ Some (record { lane = i; direction = d })
holds-is None i d h = absurd (true≢false (sym h))
holds-is (Some n) i d h =
    let e : n.lane ≡ i = eqb-true n.lane i (and-fst (eqb n.lane i) (S.same_direction n.direction d) h) in
    let f : n.direction ≡ d = way n.direction d (and-snd (eqb n.lane i) (S.same_direction n.direction d) h) in
    ap (λ z. Some (record { lane = z; direction = n.direction })) e ∙ ap (λ z. Some (record { lane = i; direction = z })) f
  where
    way : (a b : NeighborDirection) → S.same_direction a b ≡ true → a ≡ b
    way Same Same h = refl
    way Same Opposite h = absurd (true≢false (sym h))
    way Opposite Same h = absurd (true≢false (sym h))
    way Opposite Opposite h = refl

-- slots are read without coordinates
slot-any : (c d : List Float) (side : Side) (w : List ℕ) → neighbor_on side (lane_of c w) ≡ neighbor_on side (lane_of d w)
unfolding lane_of
slot-any c d Left w = refl
slot-any c d Right w = refl

module _ (t : Tables) (s : searchable t.lanes ≡ true) (i : ℕ) (l : i < word 0 t.lanes) where
  links-up : S.links_ascend (view t) ≡ true → (ascending (links_at t.lanes i 18) ≡ true) × (ascending (links_at t.lanes i 35) ≡ true)
  unfolding S.links_ascend view lane_of
  links-up h =
      let c = t.coordinates in
      let q : Lane → Bool = λ x. ascending x.predecessors && ascending x.successors in
      let a : all_rows 52 (λ w. q (lane_of c w)) t.lanes ≡ true = sym (every_row 52 (lane_of c) q t.lanes) ∙ h in
      let b = each_row 52 (λ w. q (lane_of c w)) t.lanes a i l in
      let x = ascending (links_at t.lanes i 18) in
      let y = ascending (links_at t.lanes i 35) in
      (and-fst x y b, and-snd x y b)

  returned : S.links_reciprocal (view t) ≡ true → lane_returned t.lanes (lane_at t.lanes i) ≡ true
  unfolding view
  returned h = row-passes 52 (lane_returned t.lanes) t.lanes (links-tie t.coordinates t.lanes s (view t) refl ∙ h) i l

  successor : S.links_reciprocal (view t) ≡ true → (b : ℕ) → has b (links_at t.lanes i 35) ≡ true → LinkThere t.lanes i 18 b
  unfolding lane_returned
  successor h b k =
      let w = lane_at t.lanes i in
      let a = and-fst (all (names_back t.lanes 18 (word 0 w)) (ids_at 35 w)) (all (names_back t.lanes 35 (word 0 w)) (ids_at 18 w)) (returned h) in
      row-there (λ v. has (word 0 w) (ids_at 18 v)) t.lanes b (all-has (names_back t.lanes 18 (word 0 w)) b (ids_at 35 w) a k)

  predecessor : S.links_reciprocal (view t) ≡ true → (b : ℕ) → has b (links_at t.lanes i 18) ≡ true → LinkThere t.lanes i 35 b
  unfolding lane_returned
  predecessor h b k =
      let w = lane_at t.lanes i in
      let a = and-snd (all (names_back t.lanes 18 (word 0 w)) (ids_at 35 w)) (all (names_back t.lanes 35 (word 0 w)) (ids_at 18 w)) (returned h) in
      row-there (λ v. has (word 0 w) (ids_at 35 v)) t.lanes b (all-has (names_back t.lanes 35 (word 0 w)) b (ids_at 18 w) a k)

  -- both slots of a lane are answered
  answered : S.neighbors_reciprocal (view t) ≡ true → (side : Side) → S.slot_returned (view t) (id_at t.lanes i) side (slot_held t.lanes i side) ≡ true
  unfolding S.neighbors_reciprocal view lane_of
  answered h side =
      let c = t.coordinates in
      let q : Lane → Bool = λ x. S.slot_returned (view t) x.id Left x.left_neighbor && S.slot_returned (view t) x.id Right x.right_neighbor in
      let a : all_rows 52 (λ w. q (lane_of c w)) t.lanes ≡ true = sym (every_row 52 (lane_of c) q t.lanes) ∙ h in
      let b = each_row 52 (λ w. q (lane_of c w)) t.lanes a i l in
      on side b
    where
      on : (side : Side) → (S.slot_returned (view t) (id_at t.lanes i) Left (slot_held t.lanes i Left) && S.slot_returned (view t) (id_at t.lanes i) Right (slot_held t.lanes i Right)) ≡ true
          → S.slot_returned (view t) (id_at t.lanes i) side (slot_held t.lanes i side) ≡ true
      on Left b = and-fst (S.slot_returned (view t) (id_at t.lanes i) Left (slot_held t.lanes i Left)) (S.slot_returned (view t) (id_at t.lanes i) Right (slot_held t.lanes i Right)) b
      on Right b = and-snd (S.slot_returned (view t) (id_at t.lanes i) Left (slot_held t.lanes i Left)) (S.slot_returned (view t) (id_at t.lanes i) Right (slot_held t.lanes i Right)) b

  neighbor : S.neighbors_reciprocal (view t) ≡ true → (side : Side) (n : Neighbor) → slot_held t.lanes i side ≡ Some n → NeighborThere t.lanes i side n
  unfolding S.has_neighbor view
  neighbor h side n e =
      let c = t.coordinates in
      let d = n.direction in
      let r = reciprocal_side side d in
      let a : S.has_neighbor (view t) n.lane r (id_at t.lanes i) d ≡ true = sym (ap (S.slot_returned (view t) (id_at t.lanes i) side) e) ∙ answered h side in
      let b : row_test (λ w. S.holds (neighbor_on r (lane_of c w)) (id_at t.lanes i) d) t.lanes n.lane ≡ true =
      sym (any-lane c t.lanes s (λ x. S.holds (neighbor_on r x) (id_at t.lanes i) d) n.lane) ∙ a in
      let (j, p, q) = row-there (λ w. S.holds (neighbor_on r (lane_of c w)) (id_at t.lanes i) d) t.lanes n.lane b in
      (j, p, slot-any [] c r (lane_at t.lanes j) ∙ holds-is (neighbor_on r (lane_of c (lane_at t.lanes j))) (id_at t.lanes i) d q)

-- ---- all of it

pub record Facts (counter : ℕ) (t : Tables) : Type 0 where
  pub lanes : searchable t.lanes ≡ true
  pub boundaries : sorted_table 4096 5 t.boundaries ≡ true
  pub roads : sorted_table 256 68 t.roads ≡ true
  pub junctions : sorted_table 256 69 t.junctions ≡ true
  pub rules : sorted_table 512 330 t.rules ≡ true
  pub stop_lines : sorted_table 512 4 t.stop_lines ≡ true
  pub crosswalks : sorted_table 128 7 t.crosswalks ≡ true
  pub boundary_lines : all_stored 5 2 t.coordinates t.boundaries ≡ true
  pub boundary-short : all_short 5 2 t.boundaries ≡ true
  pub stop-short : all_short 4 1 t.stop_lines ≡ true
  pub left-short : all_short 7 1 t.crosswalks ≡ true
  pub right-short : all_short 7 3 t.crosswalks ≡ true
  pub drawable : Drawable t.lanes t.boundaries t.coordinates
  pub crossable : Crossable t.stop_lines t.crosswalks t.coordinates
  pub links-ascend : (i : ℕ) → i < word 0 t.lanes → (ascending (links_at t.lanes i 18) ≡ true) × (ascending (links_at t.lanes i 35) ≡ true)
  pub successor_there : (i b : ℕ) → i < word 0 t.lanes → has b (links_at t.lanes i 35) ≡ true → LinkThere t.lanes i 18 b
  pub predecessor_there : (i b : ℕ) → i < word 0 t.lanes → has b (links_at t.lanes i 18) ≡ true → LinkThere t.lanes i 35 b
  pub neighbor_there : (i : ℕ) (side : Side) (n : Neighbor) → i < word 0 t.lanes → slot_held t.lanes i side ≡ Some n → NeighborThere t.lanes i side n
  pub parts : FormedParts t
  pub clauses : Sound counter (view t)

pub facts : (counter : ℕ) (t : Tables) → sound_tables counter t ≡ true → Facts counter t
unfolding sound_tables searchable
facts counter t h =
    let fm = and-fst (formed t) (S.sound counter (view t)) h in
    let fp = formed-parts t fm in
    let n = formed-counts t fm in
    let sf = sound-facts counter (view t) (and-snd (formed t) (S.sound counter (view t)) h) in
    let k = keys-ascend t sf.ids in
    let ls = lines_of t fp.store (limits (view t) sf.limits).short in
    let lanes : searchable t.lanes ≡ true = rw (n.lanes, k.lanes) (unfold all_rows in fp.lanes) in
    let sorted-lanes = table-sorted 1024 52 t.lanes n.lanes k.lanes in
    let sorted-boundaries = table-sorted 4096 5 t.boundaries n.boundaries k.boundaries in
    let sorted-stops = table-sorted 512 4 t.stop_lines n.stop_lines k.stop_lines in
    let sorted-crosswalks = table-sorted 128 7 t.crosswalks n.crosswalks k.crosswalks in
    record {
      lanes = lanes;
      boundaries = sorted-boundaries;
      roads = table-sorted 256 68 t.roads n.roads k.roads;
      junctions = table-sorted 256 69 t.junctions n.junctions k.junctions;
      rules = table-sorted 512 330 t.rules n.rules k.rules;
      stop_lines = sorted-stops;
      crosswalks = sorted-crosswalks;
      boundary_lines = ls.boundaries.store;
      boundary-short = ls.boundaries.short;
      stop-short = ls.stop_lines.short;
      left-short = ls.lefts.short;
      right-short = ls.rights.short;
      drawable =
          record {
            lanes_are_sorted = sorted-lanes;
            boundaries_are_sorted = sorted-boundaries;
            boundaries_stored = ls.boundaries.store;
            boundaries_short = ls.boundaries.short;
            centers_are_stored = ls.lanes;
          };
      crossable =
          record {
            stops_sorted = sorted-stops;
            stops_stored = ls.stop_lines.store;
            crosswalks_are_sorted = sorted-crosswalks;
            lefts_stored = ls.lefts.store;
            rights_stored = ls.rights.store;
          };
      links-ascend = λ i l. links-up t lanes i l sf.links-ascend;
      successor_there = λ i b l k. successor t lanes i l sf.links b k;
      predecessor_there = λ i b l k. predecessor t lanes i l sf.links b k;
      neighbor_there = λ i side m l e. neighbor t lanes i l sf.neighbors side m e;
      parts = fp;
      clauses = sf;
    }
