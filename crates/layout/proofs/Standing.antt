-- Rows as they stand: written with the start that they have and the record that is read from them they do not change, and their lines lie in
-- an array that begins as the coordinates do. For those who leave rows, or whole tables, as they are. Assumes nothing.
use Rattle.std.specs.Prelude.{None, Some}
use mathlib.Core.Path.{◌≡◌, refl, sym, ap, ◌∙◌}
use mathlib.Core.Logic.{⊎_elim}
use Prim.Native.Nat.{ℕ, zero, suc, ◌+◌, ◌*◌, ◌/◌, ◌≤◌, min}
use native.Mathlib.Omega.{arith}
use mathlib.Core.Bool.{Bool, true, false, ◌&&◌, cond}
use mathlib.Core.List.{List, [], ◌∷◌, ◌++◌, map}
use lib.Ieee.{Float}
use lib.ListN.{length, get_or, take, drop, length-drop, take-append-drop}
use lib.Seq.{take-take, take_at, length-take-le}
use Rattle.lists.specs.Every.{all}
use Rattle.lists.specs.Rows.{reads, over}
use Rattle.lists.specs.Select.{each}
use Rattle.lists.proofs.Booleans.{and-fst, and-snd, and_both}
use Rattle.lists.proofs.Every.{all_head, all_tail, all_split, all-and}
use Rattle.lists.proofs.Rows.{take-before-over, mapped-reads}
use Rattle.lists.proofs.Select.{all_map, all-each}
use Rattle.polyline.specs.Polyline.{points}
use Rattle.polyline.proofs.Points.{length-points}
use Rattle.entities.specs.Records.{Line, Lane, Boundary, StopLine, Crosswalk}
use Rattle.rules.specs.Sound.{optional_line}
use Rattle.tables.specs.View.{Tables, word, mark, part, line_at, rows, lane_of, boundary_of, stop_line_of, crosswalk_of}
use Rattle.tables.specs.Formed.{Span, span_at, center_span, spans, counted, stored, lane_formed}
use Rattle.apart.specs.Marks.{within}
use Rattle.apart.proofs.Marks.{within-cases, counted-facts}
use Rattle.store.specs.Store.{store_rows}
use Rattle.store.specs.Laid.{line_words, center_onto, lane_laid, boundary_laid, stop_laid, crosswalk_laid}
use Rattle.store.proofs.Whole.{store_same}
use Rattle.store.proofs.OtherRows.{words, words-front, boundary-same, lane-same}
use Rattle.layout.proofs.Room.{within_more, same-part}
use Rattle.layout.specs.Pointed.{EachOf, LineIn}
use Rattle.layout.proofs.Lines.{length_part, line_read}

-- ---- tests row by row

-- what is read from rows, read further
pub mapped-rows : {B C : Type 0} (s : ℕ) (dec : List ℕ → B) (g : B → C) (t : List ℕ) → map g (rows s dec t) ≡ rows s (λ w. g (dec w)) t
unfolding rows
mapped-rows s dec g t = mapped-reads s dec g (word 0 t) (drop 1 t)

-- a test of what is read, and of the rows
pub tested-rows : {B : Type 0} (s : ℕ) (dec : List ℕ → B) (p : B → Bool) (t : List ℕ) → all p (rows s dec t) ≡ all (λ b. b) (rows s (λ w. p (dec w)) t)
tested-rows s dec p t = sym (all_map (λ b. b) p (rows s dec t)) ∙ ap (all (λ b. b)) (mapped-rows s dec p t)

-- the lines of every row pass
pub record Rowwise (p : Span → Bool) (t : Tables) : Type 0 where
  pub boundaries : all (λ b. b) (rows 5 (λ w. p (span_at 2 w)) t.boundaries) ≡ true
  pub centerlines : all (λ b. b) (rows 52 (λ w. all p (center_span w)) t.lanes) ≡ true
  pub stop_lines : all (λ b. b) (rows 4 (λ w. p (span_at 1 w)) t.stop_lines) ≡ true
  pub left_edges : all (λ b. b) (rows 7 (λ w. p (span_at 1 w)) t.crosswalks) ≡ true
  pub right_edges : all (λ b. b) (rows 7 (λ w. p (span_at 3 w)) t.crosswalks) ≡ true

pub spans_rowwise : (p : Span → Bool) (t : Tables) → all p (spans t) ≡ true → Rowwise p t
unfolding spans
spans_rowwise p t h =
    let b = rows 5 (span_at 2) t.boundaries in
    let c = each (λ s. s) (rows 52 center_span t.lanes) in
    let s = rows 4 (span_at 1) t.stop_lines in
    let l = rows 7 (span_at 1) t.crosswalks in
    let r = rows 7 (span_at 3) t.crosswalks in
    let p0 = pair b (c ++ (s ++ (l ++ r))) h in
    let p1 = pair c (s ++ (l ++ r)) p0.1 in
    let p2 = pair s (l ++ r) p1.1 in
    let p3 = pair l r p2.1 in
    record {
      boundaries = sym (tested-rows 5 (span_at 2) p t.boundaries) ∙ p0.0;
      centerlines = sym (tested-rows 52 center_span (all p) t.lanes) ∙ (sym (all-each p (λ s. s) (rows 52 center_span t.lanes)) ∙ p1.0);
      stop_lines = sym (tested-rows 4 (span_at 1) p t.stop_lines) ∙ p2.0;
      left_edges = sym (tested-rows 7 (span_at 1) p t.crosswalks) ∙ p3.0;
      right_edges = sym (tested-rows 7 (span_at 3) p t.crosswalks) ∙ p3.1;
    }
  where
    pair : (a b : List Span) → all p (a ++ b) ≡ true → (all p a ≡ true) × (all p b ≡ true)
    pair a b h = let e = sym (all_split p a b) ∙ h in (and-fst (all p a) (all p b) e, and-snd (all p a) (all p b) e)

-- ---- one line

-- a stored line has the points that its row says
pub line-long : (c : List Float) (s : Span) → stored c s ≡ true → length (points (part c s.start s.size)) ≡ s.size
line-long c s h =
    let i = within_more (min 65536 (length c / 3)) (length c / 3) (omega arith) s h in
    omega (arith, length-points (part c s.start s.size), length_part c s.start s.size i)

-- the words of a line, written where they stand
line-again : (w : List ℕ) (k : ℕ) (l : Line) → k + 2 ≤ length w → length l ≡ word (suc k) w → over w k (line_words (word k w) l) ≡ w
unfolding over words
line-again w k l h e =
    ap (λ n. take k w ++ (word k w ∷ n ∷ drop (k + 2) w)) e ∙ (ap (λ z. take k w ++ z) (words-front 2 k w h) ∙ take-append-drop k w)

-- ---- rows

module _ (c : List Float) (w : List ℕ) where
  pub boundary-stands : length w ≡ 5 → stored c (span_at 2 w) ≡ true → boundary_laid w (word 2 w, boundary_of c w) ≡ w
  unfolding boundary_laid boundary_of
  boundary-stands l h =
      ap (λ z. over z 2 (line_words (word 2 w) (line_at c 2 w))) (boundary-same c w l) ∙ line-again w 2 (line_at c 2 w) (omega arith) (line-long c (span_at 2 w) h)

  pub stop-stands : length w ≡ 4 → stored c (span_at 1 w) ≡ true → stop_laid w (word 1 w, stop_line_of c w) ≡ w
  unfolding stop_laid stop_line_of
  stop-stands l h = line-again w 1 (line_at c 1 w) (omega arith) (line-long c (span_at 1 w) h)

  pub crosswalk-stands : length w ≡ 7 → stored c (span_at 1 w) ≡ true → stored c (span_at 3 w) ≡ true → crosswalk_laid w (word 3 w, (word 1 w, crosswalk_of c w)) ≡ w
  unfolding crosswalk_laid crosswalk_of
  crosswalk-stands l h i =
      ap (λ z. over z 3 (line_words (word 3 w) (line_at c 3 w))) (line-again w 1 (line_at c 1 w) (omega arith) (line-long c (span_at 1 w) h))
      ∙ line-again w 3 (line_at c 3 w) (omega arith) (line-long c (span_at 3 w) i)

  -- a centreline's words, where there is one
  center_stands : length w ≡ 52 → (b : Bool) → all (stored c) (cond b (span_at 7 w ∷ []) []) ≡ true → center_onto w (word 7 w) (cond b (Some (line_at c 7 w)) None) ≡ w
  center_stands l true h = line-again w 7 (line_at c 7 w) (omega arith) (line-long c (span_at 7 w) (all_head (stored c) (span_at 7 w) [] h))
  center_stands l false h = refl

  pub lane-stands : length w ≡ 52 → lane_formed w ≡ true → all (stored c) (center_span w) ≡ true → lane_laid w (word 7 w, lane_of c w) ≡ w
  unfolding lane_laid
  lane-stands l f h = ap (λ z. center_onto z (word 7 w) (lane_of c w).centerline) (lane-same c w l f) ∙ (unfold lane_of in center_stands l (mark 6 w) h)

-- ---- tables

table-room : (limit s : ℕ) (t : List ℕ) → counted limit s t ≡ true → word 0 t * s ≤ length (drop 1 t)
table-room limit s t h = rw length-drop (omega (arith, (counted-facts limit s t h).1.1))

-- two tests that every row passes
pub both-pass : (s : ℕ) (f g : List ℕ → Bool) (t : List ℕ) → all (λ b. b) (rows s f t) ≡ true → all (λ b. b) (rows s g t) ≡ true → all (λ b. b) (rows s (λ w. f w && g w) t) ≡ true
both-pass s f g t a b =
    let rs = rows s (λ w. w) t in
    sym (tested-rows s (λ w. w) (λ w. f w && g w) t)
    ∙ (all-and f g rs ∙ and_both (all f rs) (all g rs) (tested-rows s (λ w. w) f t ∙ a) (tested-rows s (λ w. w) g t ∙ b))

module _ (c : List Float) (limit : ℕ) (t : List ℕ) where
  pub stops-stand : counted limit 4 t ≡ true → all (λ b. b) (rows 4 (λ w. stored c (span_at 1 w)) t) ≡ true
      → store_rows 4 stop_laid (λ r. r.1.id) t (rows 4 (λ w. (word 1 w, stop_line_of c w)) t) ≡ t
  stops-stand h a =
      store_same 4 stop_laid (λ r. r.1.id) (λ w. (word 1 w, stop_line_of c w)) t (table-room limit 4 t h) (λ w. stored c (span_at 1 w)) (λ w. unfold stop_line_of in refl)
      (λ w l g. stop-stands c w l g) (counted-facts limit 4 t h).0 (unfold rows in a)

  pub crosswalks-stand : counted limit 7 t ≡ true → all (λ b. b) (rows 7 (λ w. stored c (span_at 1 w)) t) ≡ true → all (λ b. b) (rows 7 (λ w. stored c (span_at 3 w)) t) ≡ true
      → store_rows 7 crosswalk_laid (λ r. r.1.1.id) t (rows 7 (λ w. (word 3 w, (word 1 w, crosswalk_of c w))) t) ≡ t
  unfolding rows
  crosswalks-stand h a b =
      store_same 7 crosswalk_laid (λ r. r.1.1.id) (λ w. (word 3 w, (word 1 w, crosswalk_of c w))) t (table-room limit 7 t h) (λ w. l w && r w) own
      (λ w k g. crosswalk-stands c w k (and-fst (l w) (r w) g) (and-snd (l w) (r w) g)) (counted-facts limit 7 t h).0 (both-pass 7 l r t a b)
    where
      l : List ℕ → Bool
      l w = stored c (span_at 1 w)

      r : List ℕ → Bool
      r w = stored c (span_at 3 w)

      own : (w : List ℕ) → (crosswalk_of c w).id ≡ get_or w 0 0
      own w = unfold crosswalk_of in refl

-- ---- an array that begins as the coordinates do

-- n points of c copied to its front
pub begins-copied : (c work : List Float) (n : ℕ) → n * 3 ≤ length c → take (n * 3) (over work 0 (take (n * 3) c)) ≡ take (n * 3) c
unfolding over
begins-copied c work n h = take_at (take (n * 3) c) (drop (0 + length (take (n * 3) c)) work) (n * 3) (length-take-le (n * 3) c h)

-- and something written behind them
pub begins-before : (work l : List Float) (n at : ℕ) → n ≤ at → at * 3 ≤ length work → take (n * 3) (over work (at * 3) l) ≡ take (n * 3) work
begins-before work l n at h i =
    let k : n * 3 ≤ at * 3 = omega arith in
    sym (take-take (n * 3) (at * 3) (over work (at * 3) l) k) ∙ (ap (take (n * 3)) (take-before-over work (at * 3) l i) ∙ take-take (n * 3) (at * 3) work k)

each-of-reads : {A : Type 0} (F : A → Type 0) (s : ℕ) (dec : List ℕ → A) (good : List ℕ → Bool) → ((w : List ℕ) → good w ≡ true → F (dec w))
    → (n : ℕ) (w : List ℕ) → all (λ b. b) (reads s good n w) ≡ true → EachOf F (reads s dec n w)
unfolding EachOf reads
each-of-reads F s dec good h zero w a = refl
each-of-reads F s dec good h (suc n) w a =
    (h (take s w) (all_head (λ b. b) (good (take s w)) (reads s good n (drop s w)) a), each-of-reads F s dec good h n (drop s w) (all_tail (λ b. b) (good (take s w)) (reads s good n (drop s w)) a))

-- F of what is read from each row that passes
pub each-of-rows : {A : Type 0} (F : A → Type 0) (s : ℕ) (dec : List ℕ → A) (good : List ℕ → Bool) (t : List ℕ) → ((w : List ℕ) → good w ≡ true → F (dec w))
    → all (λ b. b) (rows s good t) ≡ true → EachOf F (rows s dec t)
unfolding rows
each-of-rows F s dec good t h a = each-of-reads F s dec good h (word 0 t) (drop 1 t) a

-- `work` begins with n points of c, and the lines lie among these
module _ (c work : List Float) (n : ℕ) (few : n ≤ length c / 3) (begins : take (n * 3) work ≡ take (n * 3) c) where
  pub line-lies : (k : ℕ) (w : List ℕ) → within n (span_at k w) ≡ true → LineIn work (word k w) (line_at c k w)
  line-lies k w h = line_read c work (word k w) (word (suc k) w) (within_more n (length c / 3) few (span_at k w) h) (unfold part in ⊎_elim None inside (within-cases n (span_at k w) h))
    where
      None : word (suc k) w ≡ 0 → take (word (suc k) w * 3) (drop (word k w * 3) work) ≡ take (word (suc k) w * 3) (drop (word k w * 3) c)
      None e = rw e

      inside : word k w + word (suc k) w ≤ n → take (word (suc k) w * 3) (drop (word k w * 3) work) ≡ take (word (suc k) w * 3) (drop (word k w * 3) c)
      inside i = same-part (n * 3) (word k w * 3) (word (suc k) w * 3) work c begins (omega arith)

  pub center_lies : (w : List ℕ) (b : Bool) → all (within n) (cond b (span_at 7 w ∷ []) []) ≡ true → EachOf (LineIn work (word 7 w)) (optional_line (cond b (Some (line_at c 7 w)) None))
  unfolding EachOf
  center_lies w true h = (line-lies 7 w (all_head (within n) (span_at 7 w) [] h), refl)
  center_lies w false h = refl

  module _ (t : List ℕ) where
    pub boundaries-lie : all (λ b. b) (rows 5 (λ w. within n (span_at 2 w)) t) ≡ true → EachOf (λ (r : ℕ × Boundary). LineIn work r.0 r.1.geometry) (rows 5 (λ w. (word 2 w, boundary_of c w)) t)
    unfolding boundary_of
    boundaries-lie = each-of-rows (λ (r : ℕ × Boundary). LineIn work r.0 r.1.geometry) 5 (λ w. (word 2 w, boundary_of c w)) (λ w. within n (span_at 2 w)) t (line-lies 2)

    pub centerlines-lie : all (λ b. b) (rows 52 (λ w. all (within n) (center_span w)) t) ≡ true
        → EachOf (λ (r : ℕ × Lane). EachOf (LineIn work r.0) (optional_line r.1.centerline)) (rows 52 (λ w. (word 7 w, lane_of c w)) t)
    unfolding lane_of
    centerlines-lie =
        each-of-rows (λ (r : ℕ × Lane). EachOf (LineIn work r.0) (optional_line r.1.centerline)) 52 (λ w. (word 7 w, lane_of c w)) (λ w. all (within n) (center_span w)) t (λ w. center_lies w (mark 6 w))

    pub stops-lie : all (λ b. b) (rows 4 (λ w. within n (span_at 1 w)) t) ≡ true → EachOf (λ (r : ℕ × StopLine). LineIn work r.0 r.1.geometry) (rows 4 (λ w. (word 1 w, stop_line_of c w)) t)
    unfolding stop_line_of
    stops-lie = each-of-rows (λ (r : ℕ × StopLine). LineIn work r.0 r.1.geometry) 4 (λ w. (word 1 w, stop_line_of c w)) (λ w. within n (span_at 1 w)) t (line-lies 1)

    pub left-edges-lie : all (λ b. b) (rows 7 (λ w. within n (span_at 1 w)) t) ≡ true
        → EachOf (λ (r : ℕ × (ℕ × Crosswalk)). LineIn work r.1.0 r.1.1.left_edge) (rows 7 (λ w. (word 3 w, (word 1 w, crosswalk_of c w))) t)
    unfolding crosswalk_of
    left-edges-lie = each-of-rows (λ (r : ℕ × (ℕ × Crosswalk)). LineIn work r.1.0 r.1.1.left_edge) 7 (λ w. (word 3 w, (word 1 w, crosswalk_of c w))) (λ w. within n (span_at 1 w)) t (line-lies 1)

    pub right-edges-lie : all (λ b. b) (rows 7 (λ w. within n (span_at 3 w)) t) ≡ true
        → EachOf (λ (r : ℕ × (ℕ × Crosswalk)). LineIn work r.0 r.1.1.right_edge) (rows 7 (λ w. (word 3 w, (word 1 w, crosswalk_of c w))) t)
    unfolding crosswalk_of
    right-edges-lie = each-of-rows (λ (r : ℕ × (ℕ × Crosswalk)). LineIn work r.0 r.1.1.right_edge) 7 (λ w. (word 3 w, (word 1 w, crosswalk_of c w))) (λ w. within n (span_at 3 w)) t (line-lies 3)
