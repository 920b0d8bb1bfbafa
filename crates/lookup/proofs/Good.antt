-- Tables whose rows pass the test of soundness are what the look-ups ask. Assumes nothing.
use mathlib.Core.Path.{◌≡◌, refl}
use mathlib.Core.Bool.{Bool, true, false, not, ◌&&◌, ◌||◌}
use mathlib.Core.List.{List}
use Prim.Native.Nat.{ℕ, zero, suc}
use lib.Dec.{leb}
use lib.Ieee.{Float}
use lib.ListN.{take, drop}
use Rattle.lists.specs.Every.{all}
use Rattle.lists.specs.Rows.{reads, keys}
use Rattle.lists.specs.Select.{ascending}
use Rattle.lists.proofs.Booleans.{and_both, and-fst, and-snd}
use Rattle.geometry.specs.Point.{in_reach}
use Rattle.polyline.specs.Polyline.{points}
use Rattle.tables.specs.View.{word, mark, ids_at, part, rows}
use Rattle.tables.specs.Formed.{Span, span_at, stored, counted, lane_formed}
use Rattle.row_tests.specs.Good.{all_rows, line_good, handle_good, lane_numbers, links_good, lane_good, boundary_good, stop_line_good, crosswalk_good}
use Rattle.lookup.specs.Lookup.{sorted_table, all_stored, all_short, centers_stored, Drawable, Crossable}

-- a test of every row, from one that says more
reads-weaker : (s : ℕ) (p q : List ℕ → Bool) → ((w : List ℕ) → p w ≡ true → q w ≡ true) → (n : ℕ) (w : List ℕ)
    → all (λ b. b) (reads s p n w) ≡ true → all (λ b. b) (reads s q n w) ≡ true
unfolding all reads
reads-weaker s p q f zero w a = refl
reads-weaker s p q f (suc n) w a =
    and_both (q (take s w)) (all (λ b. b) (reads s q n (drop s w))) (f (take s w) (and-fst (p (take s w)) (all (λ b. b) (reads s p n (drop s w))) a))
    (reads-weaker s p q f n (drop s w) (and-snd (p (take s w)) (all (λ b. b) (reads s p n (drop s w))) a))

pub rows-weaker : (s : ℕ) (p q : List ℕ → Bool) → ((w : List ℕ) → p w ≡ true → q w ≡ true) → (t : List ℕ) → all_rows s p t ≡ true → all (λ b. b) (rows s q t) ≡ true
unfolding all_rows rows
rows-weaker s p q f t h = reads-weaker s p q f (word 0 t) (drop 1 t) h

-- ---- lines

module _ (c : List Float) (s : Span) (h : line_good c s ≡ true) where
  short-stored : (stored c s && leb s.size 256) ≡ true
  unfolding line_good
  short-stored = and-fst (stored c s && leb s.size 256) (all in_reach (points (part c s.start s.size))) h

  line-stored : stored c s ≡ true
  line-stored = and-fst (stored c s) (leb s.size 256) short-stored

  line-short : leb s.size 256 ≡ true
  line-short = and-snd (stored c s) (leb s.size 256) short-stored

pub table-sorted : (limit s : ℕ) (t : List ℕ) → counted limit s t ≡ true → ascending (keys s (word 0 t) (drop 1 t)) ≡ true → sorted_table limit s t ≡ true
unfolding sorted_table
table-sorted limit s t h a = and_both (counted limit s t) (ascending (keys s (word 0 t) (drop 1 t))) h a

module _ (most : ℕ) (c : List Float) where
  boundary-good : (w : List ℕ) → boundary_good most c w ≡ true → line_good c (span_at 2 w) ≡ true
  unfolding boundary_good
  boundary-good w h = and-snd (leb (word 0 w) most && leb (word 1 w) 13 && handle_good (word 4 w)) (line_good c (span_at 2 w)) h

  stop-good : (w : List ℕ) → stop_line_good most c w ≡ true → line_good c (span_at 1 w) ≡ true
  unfolding stop_line_good
  stop-good w h = and-snd (leb (word 0 w) most && handle_good (word 3 w)) (line_good c (span_at 1 w)) h

  abbrev plain : List ℕ → Bool
  plain w = leb (word 0 w) most && handle_good (word 5 w) && handle_good (word 6 w)

  left-good : (w : List ℕ) → crosswalk_good most c w ≡ true → line_good c (span_at 1 w) ≡ true
  unfolding crosswalk_good
  left-good w h = and-snd (plain w) (line_good c (span_at 1 w)) (and-fst (plain w && line_good c (span_at 1 w)) (line_good c (span_at 3 w)) h)

  right-good : (w : List ℕ) → crosswalk_good most c w ≡ true → line_good c (span_at 3 w) ≡ true
  unfolding crosswalk_good
  right-good w h = and-snd (plain w && line_good c (span_at 1 w)) (line_good c (span_at 3 w)) h

  center_good : (w : List ℕ) → lane_good most c w ≡ true → (not (mark 6 w) || (stored c (span_at 7 w) && leb (word 8 w) 256)) ≡ true
  unfolding lane_good
  center_good w h =
      go (not (mark 6 w)) (and-snd (lane_formed w && lane_numbers most w && links_good most (ids_at 18 w) && links_good most (ids_at 35 w)) (not (mark 6 w) || line_good c (span_at 7 w)) h)
    where
      go : (b : Bool) → (b || line_good c (span_at 7 w)) ≡ true → (b || (stored c (span_at 7 w) && leb (word 8 w) 256)) ≡ true
      go true e = refl
      go false e = short-stored c (span_at 7 w) e

  pub boundaries_stored : (t : List ℕ) → all_rows 5 (boundary_good most c) t ≡ true → all_stored 5 2 c t ≡ true
  unfolding all_stored
  boundaries_stored t h = rows-weaker 5 (boundary_good most c) (λ w. stored c (span_at 2 w)) (λ w g. line-stored c (span_at 2 w) (boundary-good w g)) t h

  pub boundaries_short : (t : List ℕ) → all_rows 5 (boundary_good most c) t ≡ true → all_short 5 2 t ≡ true
  unfolding all_short
  boundaries_short t h = rows-weaker 5 (boundary_good most c) (λ w. leb (word 3 w) 256) (λ w g. line-short c (span_at 2 w) (boundary-good w g)) t h

  pub centers_are_stored : (t : List ℕ) → all_rows 52 (lane_good most c) t ≡ true → centers_stored c t ≡ true
  unfolding centers_stored
  centers_are_stored t h = rows-weaker 52 (lane_good most c) (λ w. not (mark 6 w) || (stored c (span_at 7 w) && leb (word 8 w) 256)) center_good t h

  -- the centreline of a lane may be asked for
  pub drawable : (l b : List ℕ) → sorted_table 1024 52 l ≡ true → sorted_table 4096 5 b ≡ true → all_rows 52 (lane_good most c) l ≡ true → all_rows 5 (boundary_good most c) b ≡ true
      → Drawable l b c
  drawable l b s t g h = record {
    lanes_are_sorted = s;
    boundaries_are_sorted = t;
    boundaries_stored = boundaries_stored b h;
    boundaries_short = boundaries_short b h;
    centers_are_stored = centers_are_stored l g;
  }

  -- the anchor of a rule may be asked for
  pub crossable : (s x : List ℕ) → sorted_table 512 4 s ≡ true → sorted_table 128 7 x ≡ true → all_rows 4 (stop_line_good most c) s ≡ true → all_rows 7 (crosswalk_good most c) x ≡ true
      → Crossable s x c
  unfolding all_stored
  crossable s x p q g h = record {
    stops_sorted = p;
    stops_stored = rows-weaker 4 (stop_line_good most c) (λ w. stored c (span_at 1 w)) (λ w k. line-stored c (span_at 1 w) (stop-good w k)) s g;
    crosswalks_are_sorted = q;
    lefts_stored = rows-weaker 7 (crosswalk_good most c) (λ w. stored c (span_at 1 w)) (λ w k. line-stored c (span_at 1 w) (left-good w k)) x h;
    rights_stored = rows-weaker 7 (crosswalk_good most c) (λ w. stored c (span_at 3 w)) (λ w k. line-stored c (span_at 3 w) (right-good w k)) x h;
  }
