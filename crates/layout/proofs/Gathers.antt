-- Rows that point into `work`, laid out: the map written back with all its lines one after another. Assumes nothing.
use mathlib.Core.Path.{◌≡◌, refl, sym, ap, ◌∙◌}
use Prim.Native.Nat.{ℕ, ◌+◌, ◌*◌, ◌/◌, ◌≤◌}
use native.Mathlib.Omega.{arith}
use mathlib.Core.Bool.{Bool, true, ◌&&◌}
use mathlib.Core.List.{List, [], ◌∷◌, ◌++◌, map}
use lib.Ieee.{Float}
use lib.ListN.{length, drop, length-drop, length-map}
use Rattle.lists.specs.Every.{all}
use Rattle.lists.specs.Rows.{over}
use Rattle.lists.specs.Select.{each}
use Rattle.lists.proofs.Booleans.{and_both}
use Rattle.lists.proofs.Every.{all_append}
use Rattle.lists.proofs.Select.{each_append, all_map, map-twice}
use Rattle.polyline.specs.Polyline.{flat}
use Rattle.polyline.proofs.Points.{flat_append}
use Rattle.entities.specs.Records.{Line, Lane, Boundary, StopLine, Crosswalk, Map}
use Rattle.rules.specs.Sound.{optional_line}
use Rattle.rules.specs.Sound as S
use Rattle.tables.specs.View.{Tables, word}
use Rattle.tables.specs.Formed.{Span, spans, counted}
use Rattle.apart.specs.Marks.{within}
use Rattle.apart.proofs.Marks.{counted-facts}
use Rattle.store.specs.Store.{store_rows}
use Rattle.store.specs.Laid.{points_of, placed, lane_laid, boundary_laid, stop_laid, crosswalk_laid, laid}
use Rattle.store.proofs.LaidRows.{points-append}
use Rattle.store.proofs.LaidTables.{each-one}
use Rattle.layout.specs.Layout as L
use Rattle.layout.specs.Layout.{Column, Gatherable, gathered, counted_lines, laid_from, boundary_lines_of, centerlines, stop_lines_of, left_edges_of, right_edges_of}
use Rattle.layout.proofs.Column.{total-append, laid-append}
use Rattle.layout.proofs.Stages.{spans-columns, counts}
use Rattle.layout.specs.Pointed.{Starts, pointed, EachOf, LineIn, Lies, HasRoom}
use Rattle.layout.proofs.Columns.{Written, Sits, lying, lying-points, lying-laid, lying-fits, each_map, each-of-weaken, replaced, replaced-count, replaced-placed, replaced-inner, table-lines, table-counts, table-laid}
use Rattle.layout.proofs.Written.{line-sits, center_sits, few_links, lanes-written, boundaries-written, stops-written, lefts-written, rights-written}

-- ---- general

all_yes : {A : Type 0} (xs : List A) → all (λ x. true) xs ≡ true
unfolding all
all_yes [] = refl
all_yes (x ∷ xs) = all_yes xs

tables-fields : {l l₁ b b₁ r j u s s₁ x x₁ : List ℕ} {c c₁ : List Float} → l ≡ l₁ → b ≡ b₁ → s ≡ s₁ → x ≡ x₁ → c ≡ c₁
    → ◌≡◌ {A = Tables} (record { lanes = l; boundaries = b; roads = r; junctions = j; rules = u; stop_lines = s; crosswalks = x; coordinates = c })
    (record { lanes = l₁; boundaries = b₁; roads = r; junctions = j; rules = u; stop_lines = s₁; crosswalks = x₁; coordinates = c₁ })
tables-fields p q r u v = cc

-- ---- spans in `work` whose lines are cs

record Spread (work : List Float) (ss : List Span) (cs : List Line) : Type 0 where
  points : L.points_in ss ≡ points_of cs
  floats : L.line_floats work ss ≡ flat (each (λ c. c) cs)
  fits : all (within (length work / 3)) ss ≡ true

module _ (work : List Float) where
  spread-append : (a b : List Span) (cs ds : List Line) → Spread work a cs → Spread work b ds → Spread work (a ++ b) (cs ++ ds)
  spread-append a b cs ds x y =
      record {
        points = total-append a b ∙ (ap (λ n. n + L.points_in b) x.points ∙ (ap (λ n. points_of cs + n) y.points ∙ sym (points-append cs ds)));
        floats =
            laid-append work a b
            ∙ (ap (λ z. z ++ L.line_floats work b) x.floats
            ∙ (ap (λ z. flat (each (λ c. c) cs) ++ z) y.floats
            ∙ (sym (flat_append (each (λ c. c) cs) (each (λ c. c) ds)) ∙ ap flat (sym (each_append (λ c. c) cs ds)))));
        fits = all_append (within (length work / 3)) a b x.fits y.fits;
      }

  -- the lines of records
  spread-lying : {P : Type 0} (start : P → ℕ) (line : P → List Line) (ps : List P) (ss : List Span) (cs : List Line) → ss ≡ lying start line ps → each line ps ≡ cs
      → EachOf (λ p. Sits work (start p) (line p)) ps → Spread work ss cs
  spread-lying start line ps ss cs e c h =
      record {
        points = ap L.points_in e ∙ (lying-points start line ps ∙ ap points_of c);
        floats = ap (L.line_floats work) e ∙ (lying-laid start line work ps h ∙ ap (λ z. flat (each (λ c. c) z)) c);
        fits = ap (all (within (length work / 3))) e ∙ lying-fits start line work ps h;
      }

-- records with one line each
one_each : {P R : Type 0} (f : P → R) (line : R → Line) (ps : List P) (rs : List R) → map f ps ≡ rs → each (λ p. line (f p) ∷ []) ps ≡ map line rs
one_each f line ps rs e = each-one (λ p. line (f p)) ps ∙ (sym (map-twice f line ps) ∙ ap (map line) e)

-- ---- one table

-- of rows that point into `work`: their lines are cs, they are counted, and a layout from `at` on gives `after at`
record Laying (work : List Float) (k : Column) (limit : ℕ) (v : List ℕ) (cs : List Line) (after : ℕ → List ℕ) : Type 0 where
  spread : Spread work (L.column_lines k v) cs
  counts : counted limit k.words v ≡ true
  done : (at : ℕ) → laid_from at k v ≡ after at

module _ {P : Type 0} (k : Column) (onto : List ℕ → P → List ℕ) (start : P → ℕ) (line : P → List Line) (move : ℕ → P → P) (ok : P → Bool) (row : Written P k onto start line move ok)
    (key : P → ℕ) (same : (at : ℕ) (p : P) → key (move at p) ≡ key p) where
  held_of : (most : ℕ) (t : List ℕ) → counted most k.words t ≡ true → word 0 t * k.words ≤ length (drop 1 t)
  held_of most t old = rw length-drop (omega (arith, (counted-facts most k.words t old).1.1))

  free_of : (t : List ℕ) (ps : List P) → 1 + length ps * k.words ≤ length t → length ps * k.words ≤ length (drop 1 t)
  free_of t ps room = rw length-drop (omega (arith, room))

  rows-laid : (most : ℕ) (t : List ℕ) (ps : List P) → counted most k.words t ≡ true → 1 + length ps * k.words ≤ length t → all ok ps ≡ true → (at : ℕ)
      → laid_from at k (store_rows k.words onto key t ps) ≡ store_rows k.words onto key t (replaced move line at ps)
  rows-laid most t ps old room fine = table-laid k onto start line move ok row key t ps (held_of most t old) (free_of t ps room) fine same

  laying : (work : List Float) (most limit : ℕ) (t : List ℕ) (ps : List P) (cs : List Line) → counted most k.words t ≡ true → 1 + length ps * k.words ≤ length t → length ps ≤ limit
      → all ok ps ≡ true → each line ps ≡ cs → EachOf (λ p. Sits work (start p) (line p)) ps
      → Laying work k limit (store_rows k.words onto key t ps) cs (λ at. store_rows k.words onto key t (replaced move line at ps))
  laying work most limit t ps cs old room few fine e h =
      let held = held_of most t old in
      let free = free_of t ps room in
      record {
        spread = spread-lying work start line ps (L.column_lines k (store_rows k.words onto key t ps)) cs (table-lines k onto start line move ok row key t ps held free fine) e h;
        counts = table-counts k onto start line move ok row key t ps held free fine limit (counted-facts most k.words t old).0 few;
        done = rows-laid most t ps old room fine;
      }

-- ---- the tables

-- as many records as the map has
count_of : {P R : Type 0} (f : P → R) (ps : List P) (rs : List R) → map f ps ≡ rs → length ps ≡ length rs
count_of f ps rs e = sym (length-map ps f) ∙ ap length e

module _ (work : List Float) (t : Tables) (s : Starts) (m : Map) (lies : Lies work s m) (room : HasRoom t m) where
  -- lanes
  abbrev lane_table : List (ℕ × Lane) → List ℕ
  lane_table ps = store_rows 52 lane_laid (λ r. r.1.id) t.lanes ps

  abbrev center_of : Lane → List Line
  center_of l = optional_line l.centerline

  lanes-lie : Laying work centerlines 1024 (lane_table s.lanes) (each center_of m.lanes) (λ at. lane_table (replaced (λ i p. (i, p.1)) (λ p. center_of p.1) at s.lanes))
  lanes-lie =
      let n = count_of (λ r. r.1) s.lanes m.lanes lies.lanes in
      laying centerlines lane_laid (λ p. p.0) (λ p. center_of p.1) (λ i p. (i, p.1)) (λ p. few_links p.1) lanes-written (λ r. r.1.id) (λ i p. refl)
      work 1024 1024 t.lanes s.lanes (each center_of m.lanes) (counts t room.counts).0 (omega (arith, n, room.lane_rows)) (omega (arith, n, room.lanes))
      (sym (all_map few_links (λ p. p.1) s.lanes) ∙ (ap (all few_links) lies.lanes ∙ room.links))
      (each_map center_of (λ p. p.1) s.lanes ∙ ap (each center_of) lies.lanes)
      (each-of-weaken (λ r. EachOf (LineIn work r.0) (center_of r.1)) (λ r. Sits work r.0 (center_of r.1)) (λ r h. center_sits work r.0 r.1.centerline h) s.lanes lies.centerlines)

  lanes-laid : (at : ℕ) → laid_from at centerlines (lane_table s.lanes) ≡ lane_table (placed center_of at m.lanes)
  lanes-laid at = lanes-lie.done at ∙ ap lane_table (replaced-placed center_of at s.lanes ∙ ap (placed center_of at) lies.lanes)

  -- boundaries
  abbrev boundary_table : List (ℕ × Boundary) → List ℕ
  boundary_table ps = store_rows 5 boundary_laid (λ r. r.1.id) t.boundaries ps

  boundaries-lie : Laying work boundary_lines_of 4096 (boundary_table s.boundaries) (map (λ b. b.geometry) m.boundaries) (λ at. boundary_table (replaced (λ i p. (i, p.1)) (λ p. p.1.geometry ∷ []) at s.boundaries))
  boundaries-lie =
      let n = count_of (λ r. r.1) s.boundaries m.boundaries lies.boundaries in
      laying boundary_lines_of boundary_laid (λ p. p.0) (λ p. p.1.geometry ∷ []) (λ i p. (i, p.1)) (λ p. true) boundaries-written (λ r. r.1.id) (λ i p. refl)
      work 4096 4096 t.boundaries s.boundaries (map (λ b. b.geometry) m.boundaries) (counts t room.counts).1.0 (omega (arith, n, room.boundary_rows)) (omega (arith, n, room.boundaries))
      (all_yes s.boundaries) (one_each (λ p. p.1) (λ b. b.geometry) s.boundaries m.boundaries lies.boundaries)
      (each-of-weaken (λ r. LineIn work r.0 r.1.geometry) (λ r. Sits work r.0 (r.1.geometry ∷ [])) (λ r h. line-sits work r.0 r.1.geometry h) s.boundaries lies.boundary_lines)

  boundaries-laid : (at : ℕ) → laid_from at boundary_lines_of (boundary_table s.boundaries) ≡ boundary_table (placed (λ b. b.geometry ∷ []) at m.boundaries)
  boundaries-laid at = boundaries-lie.done at ∙ ap boundary_table (replaced-placed (λ b. b.geometry ∷ []) at s.boundaries ∙ ap (placed (λ b. b.geometry ∷ []) at) lies.boundaries)

  -- stop lines
  abbrev stop_table : List (ℕ × StopLine) → List ℕ
  stop_table ps = store_rows 4 stop_laid (λ r. r.1.id) t.stop_lines ps

  stops-lie : Laying work stop_lines_of 512 (stop_table s.stop_lines) (map (λ b. b.geometry) m.stop_lines) (λ at. stop_table (replaced (λ i p. (i, p.1)) (λ p. p.1.geometry ∷ []) at s.stop_lines))
  stops-lie =
      let n = count_of (λ r. r.1) s.stop_lines m.stop_lines lies.stop_lines in
      laying stop_lines_of stop_laid (λ p. p.0) (λ p. p.1.geometry ∷ []) (λ i p. (i, p.1)) (λ p. true) stops-written (λ r. r.1.id) (λ i p. refl)
      work 4096 512 t.stop_lines s.stop_lines (map (λ b. b.geometry) m.stop_lines) (counts t room.counts).1.1.0 (omega (arith, n, room.stop_rows)) (omega (arith, n, room.stop_lines))
      (all_yes s.stop_lines) (one_each (λ p. p.1) (λ b. b.geometry) s.stop_lines m.stop_lines lies.stop_lines)
      (each-of-weaken (λ r. LineIn work r.0 r.1.geometry) (λ r. Sits work r.0 (r.1.geometry ∷ [])) (λ r h. line-sits work r.0 r.1.geometry h) s.stop_lines lies.stops)

  stops-laid : (at : ℕ) → laid_from at stop_lines_of (stop_table s.stop_lines) ≡ stop_table (placed (λ b. b.geometry ∷ []) at m.stop_lines)
  stops-laid at = stops-lie.done at ∙ ap stop_table (replaced-placed (λ b. b.geometry ∷ []) at s.stop_lines ∙ ap (placed (λ b. b.geometry ∷ []) at) lies.stop_lines)

  -- crosswalks: the left edges, then the right ones, of which only the records matter
  abbrev walk_table : List (ℕ × (ℕ × Crosswalk)) → List ℕ
  walk_table ps = store_rows 7 crosswalk_laid (λ r. r.1.1.id) t.crosswalks ps

  abbrev left_moved : ℕ → List (ℕ × (ℕ × Crosswalk))
  left_moved at = replaced (λ i p. (p.0, (i, p.1.1))) (λ p. p.1.1.left_edge ∷ []) at s.crosswalks

  lefts-lie : Laying work left_edges_of 128 (walk_table s.crosswalks) (map (λ c. c.left_edge) m.crosswalks) (λ at. walk_table (left_moved at))
  lefts-lie =
      let n = count_of (λ r. r.1.1) s.crosswalks m.crosswalks lies.crosswalks in
      laying left_edges_of crosswalk_laid (λ p. p.1.0) (λ p. p.1.1.left_edge ∷ []) (λ i p. (p.0, (i, p.1.1))) (λ p. true) lefts-written (λ r. r.1.1.id) (λ i p. refl)
      work 4096 128 t.crosswalks s.crosswalks (map (λ c. c.left_edge) m.crosswalks) (counts t room.counts).1.1.1 (omega (arith, n, room.crosswalk_rows)) (omega (arith, n, room.crosswalks))
      (all_yes s.crosswalks) (one_each (λ p. p.1.1) (λ c. c.left_edge) s.crosswalks m.crosswalks lies.crosswalks)
      (each-of-weaken (λ r. LineIn work r.1.0 r.1.1.left_edge) (λ r. Sits work r.1.0 (r.1.1.left_edge ∷ [])) (λ r h. line-sits work r.1.0 r.1.1.left_edge h) s.crosswalks lies.left_edges)

  rights-lie : Laying work right_edges_of 128 (walk_table s.crosswalks) (map (λ c. c.right_edge) m.crosswalks) (λ at. walk_table (replaced (λ i p. (i, p.1)) (λ p. p.1.1.right_edge ∷ []) at s.crosswalks))
  rights-lie =
      let n = count_of (λ r. r.1.1) s.crosswalks m.crosswalks lies.crosswalks in
      laying right_edges_of crosswalk_laid (λ p. p.0) (λ p. p.1.1.right_edge ∷ []) (λ i p. (i, p.1)) (λ p. true) rights-written (λ r. r.1.1.id) (λ i p. refl)
      work 4096 128 t.crosswalks s.crosswalks (map (λ c. c.right_edge) m.crosswalks) (counts t room.counts).1.1.1 (omega (arith, n, room.crosswalk_rows)) (omega (arith, n, room.crosswalks))
      (all_yes s.crosswalks) (one_each (λ p. p.1.1) (λ c. c.right_edge) s.crosswalks m.crosswalks lies.crosswalks)
      (each-of-weaken (λ r. LineIn work r.0 r.1.1.right_edge) (λ r. Sits work r.0 (r.1.1.right_edge ∷ [])) (λ r h. line-sits work r.0 r.1.1.right_edge h) s.crosswalks lies.right_edges)

  walks-laid : (lefts rights : ℕ) → laid_from rights right_edges_of (laid_from lefts left_edges_of (walk_table s.crosswalks))
      ≡ walk_table (placed (λ r. r.1.right_edge ∷ []) rights (placed (λ c. c.left_edge ∷ []) lefts m.crosswalks))
  walks-laid lefts rights =
      let n = count_of (λ r. r.1.1) s.crosswalks m.crosswalks lies.crosswalks in
      let k = replaced-count (λ i p. (p.0, (i, p.1.1))) (λ p. p.1.1.left_edge ∷ []) lefts s.crosswalks in
      ap (laid_from rights right_edges_of) (lefts-lie.done lefts)
      ∙ (rows-laid right_edges_of crosswalk_laid (λ p. p.0) (λ p. p.1.1.right_edge ∷ []) (λ i p. (i, p.1)) (λ p. true) rights-written (λ r. r.1.1.id) (λ i p. refl)
      4096 t.crosswalks (left_moved lefts) (counts t room.counts).1.1.1 (omega (arith, n, k, room.crosswalk_rows)) (all_yes (left_moved lefts)) rights
      ∙ ap walk_table (replaced-placed (λ r. r.1.right_edge ∷ []) rights (left_moved lefts)
      ∙ ap (placed (λ r. r.1.right_edge ∷ []) rights) (replaced-inner (λ c. c.left_edge ∷ []) lefts s.crosswalks ∙ ap (placed (λ c. c.left_edge ∷ []) lefts) lies.crosswalks)))

  -- ---- the whole

  abbrev points_to : Tables
  points_to = pointed t s m.roads m.junctions m.rules

  -- all lines
  whole : Spread work (spans points_to) (S.lines m)
  unfolding pointed S.lines
  whole =
      let bs = L.column_lines boundary_lines_of (boundary_table s.boundaries) in
      let cs = L.column_lines centerlines (lane_table s.lanes) in
      let ss = L.column_lines stop_lines_of (stop_table s.stop_lines) in
      let ls = L.column_lines left_edges_of (walk_table s.crosswalks) in
      let rs = L.column_lines right_edges_of (walk_table s.crosswalks) in
      let mb = map (λ b. b.geometry) m.boundaries in
      let mc = each center_of m.lanes in
      let ms = map (λ b. b.geometry) m.stop_lines in
      let ml = map (λ c. c.left_edge) m.crosswalks in
      let mr = map (λ c. c.right_edge) m.crosswalks in
      let d = spread-append work ls rs ml mr lefts-lie.spread rights-lie.spread in
      let e = spread-append work ss (ls ++ rs) ms (ml ++ mr) stops-lie.spread d in
      let f = spread-append work cs (ss ++ (ls ++ rs)) mc (ms ++ (ml ++ mr)) lanes-lie.spread e in
      let g = spread-append work bs (cs ++ (ss ++ (ls ++ rs))) mb (mc ++ (ms ++ (ml ++ mr))) boundaries-lie.spread f in
      rw (spans-columns points_to) g

  -- THE LAW: a layout of the rows that point into `work` writes the map with all its lines one after another
  pub gathered-laid : gathered work (pointed t s m.roads m.junctions m.rules) ≡ laid t m
  unfolding gathered pointed laid
  gathered-laid =
      let a = boundaries-lie.spread.points in
      let b = lanes-lie.spread.points in
      let c = stops-lie.spread.points in
      let d = lefts-lie.spread.points in
      tables-fields (rw a (lanes-laid (points_of (map (λ b. b.geometry) m.boundaries)))) (boundaries-laid 0) (rw (a, b) (stops-laid _)) (rw (a, b, c, d) (walks-laid _ _)) (ap (over t.coordinates 0) whole.floats)

  -- and the code that gathers may be called
  pub gatherable-pointed : Gatherable work (pointed t s m.roads m.junctions m.rules)
  gatherable-pointed =
      record {
        counts = counts-kept;
        fits = whole.fits;
        room = room-kept;
      }
    where
      counts-kept : counted_lines points_to ≡ true
      counts-kept = unfold counted_lines pointed in
          and_both (counted 1024 52 (lane_table s.lanes) && counted 4096 5 (boundary_table s.boundaries) && counted 512 4 (stop_table s.stop_lines)) (counted 128 7 (walk_table s.crosswalks))
          (and_both (counted 1024 52 (lane_table s.lanes) && counted 4096 5 (boundary_table s.boundaries)) (counted 512 4 (stop_table s.stop_lines))
          (and_both (counted 1024 52 (lane_table s.lanes)) (counted 4096 5 (boundary_table s.boundaries)) lanes-lie.counts boundaries-lie.counts) stops-lie.counts) lefts-lie.counts

      room-kept : L.points_in (spans points_to) * 3 ≤ length points_to.coordinates
      room-kept = unfold pointed in omega (arith, whole.points, room.points)
