-- A map written back of which only links and neighbours changed: the lane table changes, and nothing else. Assumes nothing.
use Rattle.std.specs.Prelude.{Option, None, Some}
use mathlib.Core.Path.{◌≡◌, refl, sym, ap, ◌∙◌}
use Prim.Native.Nat.{ℕ, ◌*◌, ◌≤◌}
use native.Mathlib.Omega.{arith}
use mathlib.Core.Bool.{Bool, true, false, cond}
use mathlib.Core.List.{List, [], ◌∷◌, map}
use lib.Dec.{leb}
use lib.Ieee.{Float}
use lib.ListN.{length, get_or, take, drop, length-drop}
use borrow.Author.Tests.{leb-true}
use Rattle.store.proofs.Packing.{every-row}
use Rattle.entities.specs.Records.{Line, Lane}
use Rattle.entities.specs.declared.Neighbor.{Neighbor}
use Rattle.rules.specs.Edit.{with_lanes, relinked}
use Rattle.tables.specs.View.{Tables, word, mark, line_at, rows, view, lane_of, boundary_of, road_of, junction_of, rule_of}
use Rattle.tables.specs.Formed.{counted, formed, rule_formed}
use Rattle.row_tests.specs.Good.{all_rows}
use Rattle.row_tests.proofs.Tables.{table-some, table-room}
use Rattle.soundness.proofs.Back.{formed-parts}
use Rattle.soundness.proofs.Counts.{Counts, counts}
use Rattle.store.specs.Store.{lane_onto, boundary_onto, road_onto, junction_onto, rule_onto, store_rows, store, present}
use Rattle.store.specs.Rows.{map_rows, on_rows}
use Rattle.store.proofs.Rows.{rows-agree-at}
use Rattle.store.proofs.Whole.{store-changed, store_same}
use Rattle.store.proofs.OtherRows.{boundary-same, road_same, junction_same, rule-same}
use Rattle.topology.specs.Topology.{lanes_changed}

-- ---- counts

pub formed-counts : (t : Tables) → formed t ≡ true → Counts t
formed-counts t h = counts t (formed-parts t h).counts

-- the rows lie behind the count
pub rows-room : (limit s : ℕ) (t : List ℕ) → counted limit s t ≡ true → word 0 t * s ≤ length (drop 1 t)
rows-room limit s t h = rw length-drop (omega (arith, table-room limit s t h))

-- ---- tables written as they were read

module _ {R : Type 0} (limit s : ℕ) (onto : List ℕ → R → List ℕ) (key : R → ℕ) (dec : List ℕ → R) (t : List ℕ) (h : counted limit s t ≡ true) where
  pub table_same : (good : List ℕ → Bool) → ((r : List ℕ) → key (dec r) ≡ get_or r 0 0) → ((r : List ℕ) → length r ≡ s → good r ≡ true → onto r (dec r) ≡ r)
      → all_rows s good t ≡ true → store_rows s onto key t (rows s dec t) ≡ t
  unfolding all_rows rows
  table_same good keys same a = store_same s onto key dec t (rows-room limit s t h) good keys same (table-some limit s t h) a

boundaries-same : (c : List Float) (t : List ℕ) → counted 4096 5 t ≡ true → store_rows 5 boundary_onto (λ b. b.id) t (rows 5 (boundary_of c) t) ≡ t
unfolding boundary_of
boundaries-same c t h =
    table_same 4096 5 boundary_onto (λ b. b.id) (boundary_of c) t h (λ r. true) (λ r. refl) (λ r l _. boundary-same c r l)
    (unfold all_rows rows in every-row 5 (word 0 t) (drop 1 t))

roads-same : (t : List ℕ) → counted 256 68 t ≡ true → all_rows 68 (λ w. leb (word 3 w) 64) t ≡ true → store_rows 68 road_onto (λ r. r.id) t (rows 68 road_of t) ≡ t
unfolding road_of
roads-same t h f =
    table_same 256 68 road_onto (λ r. r.id) road_of t h (λ w. leb (word 3 w) 64) (λ r. refl) (λ r l g. road_same r l (leb-true (word 3 r) 64 g)) f

junctions-same : (t : List ℕ) → counted 256 69 t ≡ true → all_rows 69 (λ w. leb (word 4 w) 64) t ≡ true → store_rows 69 junction_onto (λ j. j.id) t (rows 69 junction_of t) ≡ t
unfolding junction_of
junctions-same t h f =
    table_same 256 69 junction_onto (λ j. j.id) junction_of t h (λ w. leb (word 4 w) 64) (λ r. refl) (λ r l g. junction_same r l (leb-true (word 4 r) 64 g)) f

rules-same : (t : List ℕ) → counted 512 330 t ≡ true → all_rows 330 rule_formed t ≡ true → store_rows 330 rule_onto (λ r. r.id) t (rows 330 rule_of t) ≡ t
unfolding rule_of
rules-same t h f = table_same 512 330 rule_onto (λ r. r.id) rule_of t h rule_formed (λ r. refl) rule-same f

-- ---- lanes changed

-- the tables with another lane table
abbrev pub with_lane_table : List ℕ → Tables → Tables
with_lane_table l t =
    record {
      lanes = l;
      boundaries = t.boundaries;
      roads = t.roads;
      junctions = t.junctions;
      rules = t.rules;
      stop_lines = t.stop_lines;
      crosswalks = t.crosswalks;
      coordinates = t.coordinates;
    }

pub five-same : {l m b d r s j k u v : List ℕ} (x y : List ℕ) (c : List Float) → l ≡ m → b ≡ d → r ≡ s → j ≡ k → u ≡ v
    → ◌≡◌ {A = Tables} (record { lanes = l; boundaries = b; roads = r; junctions = j; rules = u; stop_lines = x; crosswalks = y; coordinates = c })
    (record { lanes = m; boundaries = d; roads = s; junctions = k; rules = v; stop_lines = x; crosswalks = y; coordinates = c })
five-same x y c p q i e o = rw (p, q, i, e, o)

pub lane-key : (c : List Float) (w : List ℕ) → (lane_of c w).id ≡ get_or w 0 0
unfolding lane_of
lane-key c w = refl

module _ (t : Tables) (h : formed t ≡ true) (f : Lane → Lane) (same : (l : Lane) → (f l).id ≡ l.id) where
  -- each lane's row with the changed lane written over it
  pub store-mapped : store t (with_lanes (map f (view t).lanes) (view t)) ≡ with_lane_table (on_rows 52 (λ w. lane_onto w (f (lane_of t.coordinates w))) t.lanes) t
  unfolding store view on_rows
  store-mapped =
      let n = formed-counts t h in
      let p = formed-parts t h in
      let c = t.coordinates in
      five-same t.stop_lines t.crosswalks c
      (store-changed 52 lane_onto (λ l. l.id) (lane_of c) t.lanes (rows-room 1024 52 t.lanes n.lanes) f (λ w. same (lane_of c w) ∙ lane-key c w))
      (boundaries-same c t.boundaries n.boundaries) (roads-same t.roads n.roads p.roads)
      (junctions-same t.junctions n.junctions p.junctions) (rules-same t.rules n.rules p.rules)

  -- the same, where coordinates have no part in the change
  pub store-relinked : ((w : List ℕ) → lane_onto w (f (lane_of t.coordinates w)) ≡ lane_onto w (f (lane_of [] w)))
      → store t (with_lanes (map f (view t).lanes) (view t)) ≡ with_lane_table (lanes_changed f t.lanes) t
  unfolding on_rows lanes_changed
  store-relinked e =
      let n = word 0 t.lanes in
      let w = drop 1 t.lanes in
      let c = t.coordinates in
      let a : map_rows 52 (λ r. lane_onto r (f (lane_of c r))) n w ≡ map_rows 52 (λ r. lane_onto r (f (lane_of [] r))) n w =
      rows-agree-at 52 (λ r. lane_onto r (f (lane_of c r))) (λ r. lane_onto r (f (lane_of [] r))) n w (λ j _. e (take 52 (drop (j * 52) w))) in
      let b = store-changed 52 lane_onto (λ l. l.id) (lane_of []) t.lanes (rows-room 1024 52 t.lanes (formed-counts t h).lanes) f (λ r. same (lane_of [] r) ∙ lane-key [] r) in
      store-mapped ∙ ap (λ z. with_lane_table z t) (ap (λ z. n ∷ z) a ∙ sym b)

-- ---- what a relinked lane's row takes from the coordinates: nothing

pub onto-any : (w : List ℕ) (c d : List Float) (ln rn : Option Neighbor) (ps ss : List ℕ)
    → lane_onto w (relinked (lane_of c w) ln rn ps ss) ≡ lane_onto w (relinked (lane_of d w) ln rn ps ss)
unfolding lane_onto lane_of
onto-any w c d ln rn ps ss = rw (line (mark 6 w) (line_at c 7 w) (line_at d 7 w))
  where
    line : (b : Bool) (x y : Line) → present (cond b (Some x) None) ≡ present (cond b (Some y) None)
    line true x y = refl
    line false x y = refl
