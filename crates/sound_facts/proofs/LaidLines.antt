-- The tables of lanes, boundaries, stop lines and crosswalks whose lines are laid out anew: what is read from each, where its lines lie, its marks, its count
-- and its length. Assumes nothing.
use mathlib.Core.Path.{◌≡◌, refl, ap, ◌∙◌}
use Prim.Native.Nat.{ℕ, ◌*◌, ◌≤◌}
use mathlib.Core.Bool.{true}
use mathlib.Core.List.{List, [], ◌∷◌, map}
use lib.Dec.{leb}
use lib.Ieee.{Float}
use lib.ListN.{length, drop}
use borrow.Author.Tests.{leb-true}
use Rattle.lists.specs.Every.{all}
use Rattle.lists.specs.Select.{each}
use Rattle.lists.proofs.Booleans.{and-fst, and-snd}
use Rattle.lists.proofs.Select.{map-itself}
use Rattle.entities.specs.Records.{Line, Lane, Boundary}
use Rattle.rules.specs.Sound.{optional_line}
use Rattle.tables.specs.View.{word, rows, lane_of, boundary_of}
use Rattle.tables.specs.Formed.{Span, span_at, center_span, counted, lane_formed}
use Rattle.store.specs.Store.{store_rows, packed}
use Rattle.store.specs.Laid.{placed, lane_laid, boundary_laid}
use Rattle.store.proofs.Back.{TableFits}
use Rattle.store.proofs.LaidRows as L
use Rattle.store.proofs.LaidRows.{Held, settled}
use Rattle.store.proofs.LaidTables.{each-one, each-joined, rows-any, rows-placed, placed-map, placed-count, placed-settled, placed-spans, table-read}
use Rattle.sound_facts.proofs.Stored.{rows-room}
use Rattle.sound_facts.proofs.Kept.{few_links}
use Rattle.sound_facts.proofs.LaidTables.{Wrote, wrote, wrote_as}

-- ---- general

all_pass : {A : Type 0} (xs : List A) → all (λ x. true) xs ≡ true
unfolding all
all_pass [] = refl
all_pass (x ∷ xs) = all_pass xs

-- ---- lanes

abbrev pub center_of : Lane → List Line
center_of l = optional_line l.centerline

abbrev LaneOk : List Float → List ℕ → ℕ × Lane → Type 0
LaneOk c w r = Held c r.0 (center_of r.1) × (few_links r.1 ≡ true)

few-before : (l : Lane) → few_links l ≡ true → length l.predecessors ≤ 16
few-before l g = leb-true (length l.predecessors) 16 (and-fst (leb (length l.predecessors) 16) (leb (length l.successors) 16) g)

few-after : (l : Lane) → few_links l ≡ true → length l.successors ≤ 16
few-after l g = leb-true (length l.successors) 16 (and-snd (leb (length l.predecessors) 16) (leb (length l.successors) 16) g)

module _ (c : List Float) (t : List ℕ) (h : counted 1024 52 t ≡ true) (ls : List Lane) (room : length ls * 52 ≤ length (drop 1 t)) (at : ℕ) (k : Held c at (each center_of ls)) (fit : all few_links ls ≡ true) where
  abbrev lanes : List (ℕ × Lane)
  lanes = placed center_of at ls

  abbrev lane_key : ℕ × Lane → ℕ
  lane_key r = r.1.id

  lane-long : (w : List ℕ) → length w ≡ 52 → (r : ℕ × Lane) → LaneOk c w r → length (lane_laid w r) ≡ 52
  lane-long w l r g = L.lane-laid-length w l r.0 r.1 (few-before r.1 g.1) (few-after r.1 g.1)

  lanes_fit : TableFits (ℕ × Lane) 52 lane_key (LaneOk c) t lanes
  lanes_fit =
      let w = packed 52 (map lane_key lanes) (word 0 t) (drop 1 t) in
      record {
        held = rows-room 1024 52 t h;
        room = rw (placed-count center_of at ls) room;
        rows = rows-placed 52 (λ w r. few_links r ≡ true) c center_of at w ls k (rows-any 52 few_links w ls fit);
      }

  pub lanes-wrote : length ls ≤ 1024 → Wrote 1024 52 (lane_of c) lane_formed ls t (store_rows 52 lane_laid lane_key t lanes)
  lanes-wrote few =
      let f : ℕ × Lane → Lane = λ r. r.1 in
      wrote_as 1024 52 (lane_of c) lane_formed (map f lanes) ls t (store_rows 52 lane_laid lane_key t lanes) (placed-map center_of (λ l. l) at ls ∙ map-itself ls)
      (wrote 1024 52 lane_laid lane_key (LaneOk c) (lane_of c) lane_formed f lane-long
      (λ w l r g. L.lane-laid-back w l r.0 r.1 (few-before r.1 g.1) (few-after r.1 g.1) c g.0)
      (λ w l r g. L.lane-laid-formed w l r.0 r.1 (few-before r.1 g.1) (few-after r.1 g.1)) t h lanes (rw (placed-count center_of at ls) few) lanes_fit)

  pub lanes-spans : each (λ s. s) (rows 52 center_span (store_rows 52 lane_laid lane_key t lanes)) ≡ settled at (each center_of ls)
  lanes-spans =
      let f : ℕ × Lane → List Span = λ r. settled r.0 (center_of r.1) in
      ap (each (λ s. s)) (table-read 52 lane_laid (LaneOk c) lane-long lane_key t lanes lanes_fit center_span f (λ w l r g. L.lane-laid-span w l r.0 r.1))
      ∙ (each-joined f lanes ∙ placed-settled center_of at ls)

-- ---- boundaries

abbrev boundary_line : Boundary → List Line
boundary_line b = b.geometry ∷ []

module _ (c : List Float) (t : List ℕ) (h : counted 4096 5 t ≡ true) (bs : List Boundary) (room : length bs * 5 ≤ length (drop 1 t)) (at : ℕ) (k : Held c at (map (λ b. b.geometry) bs)) where
  abbrev boundaries : List (ℕ × Boundary)
  boundaries = placed boundary_line at bs

  abbrev boundary_key : ℕ × Boundary → ℕ
  boundary_key r = r.1.id

  abbrev BoundaryOk : List ℕ → ℕ × Boundary → Type 0
  BoundaryOk w r = Held c r.0 (boundary_line r.1) × (true ≡ true)

  boundary-long : (w : List ℕ) → length w ≡ 5 → (r : ℕ × Boundary) → BoundaryOk w r → length (boundary_laid w r) ≡ 5
  boundary-long w l r g = L.boundary-laid-length w r.0 r.1

  boundaries_fit : TableFits (ℕ × Boundary) 5 boundary_key BoundaryOk t boundaries
  boundaries_fit =
      let w = packed 5 (map boundary_key boundaries) (word 0 t) (drop 1 t) in
      record {
        held = rows-room 4096 5 t h;
        room = rw (placed-count boundary_line at bs) room;
        rows = rows-placed 5 (λ w r. true ≡ true) c boundary_line at w bs (rw (each-one (λ (b : Boundary). b.geometry) bs) k) (rows-any 5 (λ b. true) w bs (all_pass bs));
      }

  pub boundaries-wrote : length bs ≤ 4096 → Wrote 4096 5 (boundary_of c) (λ w. true) bs t (store_rows 5 boundary_laid boundary_key t boundaries)
  boundaries-wrote few =
      let f : ℕ × Boundary → Boundary = λ r. r.1 in
      wrote_as 4096 5 (boundary_of c) (λ w. true) (map f boundaries) bs t (store_rows 5 boundary_laid boundary_key t boundaries) (placed-map boundary_line (λ b. b) at bs ∙ map-itself bs)
      (wrote 4096 5 boundary_laid boundary_key BoundaryOk (boundary_of c) (λ w. true) f boundary-long (λ w l r g. L.boundary-laid-back w r.0 r.1 c g.0)
      (λ w l r g. refl) t h boundaries (rw (placed-count boundary_line at bs) few) boundaries_fit)

  pub boundaries-spans : rows 5 (span_at 2) (store_rows 5 boundary_laid boundary_key t boundaries) ≡ settled at (map (λ b. b.geometry) bs)
  boundaries-spans =
      let f : ℕ × Boundary → Span = λ r. record { start = r.0; size = length r.1.geometry } in
      table-read 5 boundary_laid BoundaryOk boundary-long boundary_key t boundaries boundaries_fit (span_at 2) f (λ w l r g. L.boundary-laid-span w r.0 r.1)
      ∙ placed-spans (λ (b : Boundary). b.geometry) at bs
