-- An edit of lanes that keeps their ids and centrelines, as one of links and neighbours does, written back: the tables hold the edited map, and stay sound.
-- Assumes nothing.
use Rattle.std.specs.Prelude.{Option, None, Some}
use mathlib.Core.Path.{◌≡◌, refl, sym, ap, ◌∙◌}
use Prim.Native.Nat.{ℕ, suc, ◌+◌, ◌*◌, ◌≤◌}
use mathlib.Core.Bool.{Bool, true, false, not, ◌&&◌, cond}
use mathlib.Core.List.{List, [], ◌∷◌, ◌++◌, map}
use lib.Dec.{eqb, leb}
use lib.Ieee.{Float}
use lib.ListN.{length, drop}
use lib.Seq.{drop-cons}
use borrow.Author.Tests.{leb-true}
use Rattle.lists.specs.Every.{all}
use Rattle.lists.specs.Select.{each}
use Rattle.lists.proofs.Booleans.{and_both, and-fst, and-snd}
use Rattle.lists.proofs.Select.{all_map}
use Rattle.entities.specs.Records.{Line, Lane, Map}
use Rattle.entities.specs.declared.Neighbor.{Neighbor}
use Rattle.rules.specs.Edit.{with_lanes}
use Rattle.rules.specs.Sound.{sound}
use Rattle.rules.proofs.Facts.{sound-facts}
use Rattle.tables.specs.View.{Tables, word, mark, line_at, option_line_at, rows, view, lane_of}
use Rattle.tables.specs.Formed.{span_at, center_span, stored, counted, spans, all_clear, formed, sound_tables, lane_formed}
use Rattle.row_tests.specs.Good.{all_rows}
use Rattle.row_tests.proofs.Tables.{table-some}
use Rattle.soundness.proofs.Back.{formed-parts}
use Rattle.soundness.proofs.Rows.{every_row, rows-and}
use Rattle.soundness.proofs.Words.{reads_true}
use Rattle.lists.proofs.Rows.{mapped-reads}
use Rattle.store.specs.Store.{lane_onto, store, present}
use Rattle.store.specs.Rows.{map_rows, on_rows}
use Rattle.store.proofs.Rows.{passing, rows-read, rows-length}
use Rattle.store.proofs.Back.{lane-back, lane-length, lane-formed}
use Rattle.sound_facts.specs.Room.{relinked_by, relinked_map, links_fit}
use Rattle.sound_facts.proofs.Stored.{formed-counts, rows-room, with_lane_table, store-mapped}
use Rattle.sound_facts.proofs.Room.{limits}

-- ---- one row

-- the mark of a line that may be missing
mark-kept : (o : Option Line) (b : Bool) (x : Line) → o ≡ cond b (Some x) None → not (eqb (present o) 0) ≡ b
mark-kept o b x e = rw e (go b)
  where
    go : (b : Bool) → not (eqb (present (cond b (Some x) None)) 0) ≡ b
    go true = refl
    go false = refl

module _ (c : List Float) (w : List ℕ) (l : Lane) (e : l.centerline ≡ (lane_of c w).centerline) where
  line_kept : option_line_at c 6 (lane_onto w l) ≡ l.centerline
  unfolding lane_onto lane_of
  line_kept = ap (λ b. cond b (Some (line_at c 7 w)) None) (mark-kept l.centerline (mark 6 w) (line_at c 7 w) e) ∙ sym e

  span-kept : center_span (lane_onto w l) ≡ center_span w
  unfolding lane_onto lane_of
  span-kept = ap (λ b. cond b (span_at 7 w ∷ []) []) (mark-kept l.centerline (mark 6 w) (line_at c 7 w) e)

-- ---- the tables

-- lists of a lane that fit
abbrev pub few_links : Lane → Bool
few_links l = leb (length l.predecessors) 16 && leb (length l.successors) 16

module _ (t : Tables) (h : formed t ≡ true) (f : Lane → Lane) (same : (l : Lane) → (f l).id ≡ l.id) (center : (l : Lane) → (f l).centerline ≡ l.centerline)
    (fit : all (λ l. few_links (f l)) (view t).lanes ≡ true) where
  abbrev c : List Float
  c = t.coordinates

  abbrev n : ℕ
  n = word 0 t.lanes

  abbrev v : List ℕ
  v = drop 1 t.lanes

  abbrev g : List ℕ → List ℕ
  g w = lane_onto w (f (lane_of c w))

  abbrev few : List ℕ → Bool
  few w = few_links (f (lane_of c w))

  abbrev good : List ℕ → Bool
  good w = lane_formed w && few w

  room : n * 52 ≤ length v
  room = rows-room 1024 52 t.lanes (formed-counts t h).lanes

  fits : all_rows 52 few t.lanes ≡ true
  unfolding view
  fits = sym (every_row 52 (lane_of c) (λ l. few_links (f l)) t.lanes) ∙ fit

  all-good : passing 52 good n v
  unfolding all_rows rows
  all-good = rows-and 52 lane_formed few t.lanes ∙ and_both (all_rows 52 lane_formed t.lanes) (all_rows 52 few t.lanes) (formed-parts t h).lanes fits

  module _ (w : List ℕ) (l : length w ≡ 52) (q : good w ≡ true) where
    few-before : length (f (lane_of c w)).predecessors ≤ 16
    few-before =
        let a = leb (length (f (lane_of c w)).predecessors) 16 in
        let b = leb (length (f (lane_of c w)).successors) 16 in
        leb-true (length (f (lane_of c w)).predecessors) 16 (and-fst a b (and-snd (lane_formed w) (few w) q))

    few-after : length (f (lane_of c w)).successors ≤ 16
    few-after =
        let a = leb (length (f (lane_of c w)).predecessors) 16 in
        let b = leb (length (f (lane_of c w)).successors) 16 in
        leb-true (length (f (lane_of c w)).successors) 16 (and-snd a b (and-snd (lane_formed w) (few w) q))

    row-length : length (g w) ≡ 52
    row-length = lane-length w l (f (lane_of c w)) few-before few-after

    row_back : lane_of c (g w) ≡ f (lane_of c w)
    row_back = lane-back c w l (f (lane_of c w)) few-before few-after (line_kept c w (f (lane_of c w)) (center (lane_of c w)))

    row-formed : lane_formed (g w) ≡ true
    row-formed = lane-formed w l (f (lane_of c w)) few-before few-after

    row-span : center_span (g w) ≡ center_span w
    row-span = span-kept c w (f (lane_of c w)) (center (lane_of c w))

  abbrev table : List ℕ
  table = on_rows 52 g t.lanes

  -- what is read from the changed rows
  read_back : {B : Type 0} (dec after : List ℕ → B) → ((w : List ℕ) → length w ≡ 52 → good w ≡ true → dec (g w) ≡ after w) → rows 52 dec table ≡ rows 52 after t.lanes
  unfolding rows on_rows
  read_back dec after e = rows-read 52 good g dec after row-length e n v room all-good

  pub lanes-back : rows 52 (lane_of c) table ≡ map f (rows 52 (lane_of c) t.lanes)
  unfolding rows
  lanes-back = read_back (lane_of c) (λ w. f (lane_of c w)) row_back ∙ sym (mapped-reads 52 (lane_of c) f n v)

  pub length-kept : length table ≡ length t.lanes
  unfolding on_rows
  length-kept =
      let a : length (map_rows 52 g n v) ≡ length v = rows-length 52 good g row-length n v room all-good in
      let b : t.lanes ≡ n ∷ v = drop-cons t.lanes 0 0 (table-some 1024 52 t.lanes (formed-counts t h).lanes) in
      ap suc a ∙ sym (ap length b)

  count_kept : counted 1024 52 table ≡ counted 1024 52 t.lanes
  unfolding on_rows
  count_kept = ap (λ z. leb 1 z && leb n 1024 && leb (1 + n * 52) z) length-kept

  formed-kept : all_rows 52 lane_formed table ≡ true
  unfolding all_rows
  formed-kept = ap (all (λ b. b)) (read_back lane_formed (λ w. true) row-formed) ∙ (unfold rows in reads_true 52 n v)

  spans-kept : spans (with_lane_table table t) ≡ spans t
  unfolding spans
  spans-kept =
      ap (λ z. rows 5 (span_at 2) t.boundaries ++ (each (λ s. s) z ++ (rows 4 (span_at 1) t.stop_lines ++ (rows 7 (span_at 1) t.crosswalks ++ rows 7 (span_at 3) t.crosswalks))))
      (read_back center_span center_span row-span)

  view-table : view (with_lane_table table t) ≡ with_lanes (map f (view t).lanes) (view t)
  unfolding view
  view-table = ap (λ ls. with_lanes ls (view t)) lanes-back

  pub formed-table : formed (with_lane_table table t) ≡ true
  unfolding formed all_rows
  formed-table =
      let k = formed-counts t h in
      let p = formed-parts t h in
      rw (
        count_kept ∙ k.lanes,
        k.boundaries,
        k.roads,
        k.junctions,
        k.rules,
        k.stop_lines,
        k.crosswalks,
        formed-kept,
        p.roads,
        p.junctions,
        p.rules,
        ap (all (stored t.coordinates)) spans-kept ∙ p.store,
        ap all_clear spans-kept ∙ p.apart,
      )

  -- the tables hold the edited map
  pub view-mapped : view (store t (with_lanes (map f (view t).lanes) (view t))) ≡ with_lanes (map f (view t).lanes) (view t)
  view-mapped = ap view (store-mapped t h f same) ∙ view-table

  pub formed-mapped : formed (store t (with_lanes (map f (view t).lanes) (view t))) ≡ true
  formed-mapped = ap formed (store-mapped t h f same) ∙ formed-table

-- a sound map's lists of links fit
pub links-few : (counter : ℕ) (m : Map) (f : Lane → Lane) → sound counter (with_lanes (map f m.lanes) m) ≡ true → all (λ l. few_links (f l)) m.lanes ≡ true
links-few counter m f h =
    sym (all_map few_links f m.lanes) ∙ (limits (with_lanes (map f m.lanes) m) (sound-facts counter (with_lanes (map f m.lanes) m) h).limits).links

-- If the edited map is sound, so are the tables that hold it.
pub kept-mapped : (counter : ℕ) (t : Tables) → sound_tables counter t ≡ true → (f : Lane → Lane) → ((l : Lane) → (f l).id ≡ l.id) → ((l : Lane) → (f l).centerline ≡ l.centerline)
    → sound counter (with_lanes (map f (view t).lanes) (view t)) ≡ true → sound_tables counter (store t (with_lanes (map f (view t).lanes) (view t))) ≡ true
unfolding sound_tables
kept-mapped counter t h f same center s =
    let fm = and-fst (formed t) (sound counter (view t)) h in
    let fit = links-few counter (view t) f s in
    let m = with_lanes (map f (view t).lanes) (view t) in
    and_both (formed (store t m)) (sound counter (view (store t m))) (formed-mapped t fm f same center fit) (ap (sound counter) (view-mapped t fm f same center fit) ∙ s)

-- ---- links and neighbours

pub view-relinked : (counter : ℕ) (t : Tables) → sound_tables counter t ≡ true → (ln rn : Lane → Option Neighbor) (ps ss : Lane → List ℕ)
    → links_fit ps ss (view t).lanes ≡ true → view (store t (relinked_map ln rn ps ss (view t))) ≡ relinked_map ln rn ps ss (view t)
unfolding sound_tables
view-relinked counter t h ln rn ps ss fit =
    view-mapped t (and-fst (formed t) (sound counter (view t)) h) (relinked_by ln rn ps ss) (λ l. refl) (λ l. refl) fit

pub kept-relinked : (counter : ℕ) (t : Tables) → sound_tables counter t ≡ true → (ln rn : Lane → Option Neighbor) (ps ss : Lane → List ℕ)
    → sound counter (relinked_map ln rn ps ss (view t)) ≡ true → sound_tables counter (store t (relinked_map ln rn ps ss (view t))) ≡ true
kept-relinked counter t h ln rn ps ss s = kept-mapped counter t h (relinked_by ln rn ps ss) (λ l. refl) (λ l. refl) s
