-- How far lines reach: one row after the other, one column after the other. Assumes nothing.
use mathlib.Core.Path.{◌≡◌, refl, sym, ap, ◌∙◌}
use mathlib.Core.Logic.{⊎_elim}
use mathlib.Core.Bool.{Bool, true, false, ◌&&◌, ◌||◌, cond}
use mathlib.Core.List.{List, [], ◌∷◌, ◌++◌}
use Prim.Native.Nat.{ℕ, suc, ◌+◌, ◌-◌, ◌*◌, ◌/◌, ◌≤◌, ◌<◌, min, max}
use native.Mathlib.Numerals.{add-one}
use native.Mathlib.Omega.{arith}
use lib.Dec.{eqb, leb}
use lib.ListN.{length, get_or, take, drop}
use lib.Seq.{drop-drop}
use lib.Ieee.{Float}
use borrow.Author.Tests.{eq-eqb, ne_eqb, le-leb}
use Rattle.lists.specs.Every.{all}
use Rattle.lists.proofs.Every.{all_nil, all_cons, all_head, all_tail, all_split}
use Rattle.lists.proofs.Booleans.{and-fst, and-snd}
use Rattle.tables.specs.View.{Tables, word}
use Rattle.tables.specs.Formed.{Span, spans}
use Rattle.apart.specs.Marks.{within}
use Rattle.apart.proofs.Marks.{within-cases}
use Rattle.layout.specs.Layout.{Column, centerlines, line_of, column_lines, line_tables, counted_lines, lines_formed, end_of, last_point, boundary_lines_of, stop_lines_of, left_edges_of, right_edges_of}
use Rattle.layout.proofs.Column.{lines_in, lines_in_lem, lines_more, lines_none, row_line}
use Rattle.layout.proofs.Room.{all_within_more, lines-facts}
use Rattle.layout.proofs.Stages.{spans-columns}

-- ---- a line

module _ (s : Span) (most : ℕ) where
  pub end_none : s.size ≡ 0 → most ≡ max most (end_of s)
  end_none e = rw (eq-eqb s.size 0 e) (omega arith)

  pub end-some : (s.size ≡ 0 → ⊥) → end_of s ≡ s.start + s.size
  end-some n = rw (ne_eqb s.size 0 n)

  pub end_later : (s.size ≡ 0 → ⊥) → most < s.start + s.size → s.start + s.size ≡ max most (end_of s)
  end_later n h = rw (end-some n) (omega arith)

  pub end_before : (s.size ≡ 0 → ⊥) → s.start + s.size ≤ most → most ≡ max most (end_of s)
  end_before n h = rw (end-some n) (omega arith)

-- ---- lines

pub reach-append : (a b : List Span) → last_point (a ++ b) ≡ max (last_point a) (last_point b)
unfolding last_point
reach-append [] b = omega arith
reach-append (s ∷ a) b = rw (reach-append a b) (omega arith)

-- some lines, and then the rest
reach-on : (m n : ℕ) (a b : List Span) → n ≡ max m (last_point a) → max m (last_point (a ++ b)) ≡ max n (last_point b)
reach-on m n a b e = rw (reach-append a b, e) (omega arith)

reach-one : (s : Span) → last_point (s ∷ []) ≡ end_of s
unfolding last_point
reach-one s = omega arith

-- lines lie within their reach
pub within-reach : (ss : List Span) → all (within (last_point ss)) ss ≡ true
unfolding last_point
within-reach [] = all_nil (within 0)
within-reach (s ∷ ss) =
    let m = max (end_of s) (last_point ss) in
    all_cons (within m) s ss (first (eqb s.size 0) refl) (all_within_more (last_point ss) m ss (omega arith) (within-reach ss))
  where
    first : (b : Bool) → eqb s.size 0 ≡ b → (b || leb (s.start + s.size) (max (cond b 0 (s.start + s.size)) (last_point ss))) ≡ true
    first true e = refl
    first false e = le-leb (s.start + s.size) (max (s.start + s.size) (last_point ss)) (omega arith)

-- and reach no farther than the points among which they lie
pub reach-least : (n : ℕ) (ss : List Span) → all (within n) ss ≡ true → last_point ss ≤ n
unfolding last_point
reach-least n [] h = omega arith
reach-least n (s ∷ ss) h =
    let a = reach-least n ss (all_tail (within n) s ss h) in
    let b : end_of s ≤ n = ⊎_elim none some (within-cases n s (all_head (within n) s ss h)) in
    omega arith
  where
    none : s.size ≡ 0 → end_of s ≤ n
    none e = rw (eq-eqb s.size 0 e) (omega arith)

    some : s.start + s.size ≤ n → end_of s ≤ n
    some e = go (eqb s.size 0)
      where
        go : (b : Bool) → cond b 0 (s.start + s.size) ≤ n
        go true = omega arith
        go false = e

-- ---- rows

-- a row that has a line, and one that has none
module _ (k : Column) (t : List ℕ) (a : ℕ) (p : k.start + 2 ≤ k.words) (q : a + k.words ≤ length t) (h : k.has (take k.words (drop a t)) ≡ true) where
  abbrev line : Span
  line = record { start = get_or t (a + k.start) 0; size = get_or t (a + k.start + 1) 0 }

  one : line_of k (take k.words (drop a t)) ≡ line ∷ []
  one = rw (add-one (a + k.start)) (row_line k t a 0 p q h)

  pub row-within-n : (n : ℕ) → all (within n) (line_of k (take k.words (drop a t))) ≡ true → within n line ≡ true
  row-within-n n f = all_head (within n) line [] (rw one at f)

  pub row-reach : (most r : ℕ) → r ≡ max most (end_of line) → r ≡ max most (last_point (line_of k (take k.words (drop a t))))
  row-reach most r e = e ∙ ap (max most) (sym (ap last_point one ∙ reach-one line))

pub row-nowhere : (k : Column) (t : List ℕ) (a most : ℕ) → k.has (take k.words (drop a t)) ≡ false → most ≡ max most (last_point (line_of k (take k.words (drop a t))))
unfolding last_point
row-nowhere k t a most h = rw h (omega arith)

-- ---- a walk over a column

-- of the column's lines those from row i on are left
pub record Far (k : Column) (t : List ℕ) (most n i far : ℕ) : Type 0 where
  pub fits : all (within 65536) (lines_in k (n - i) (drop (1 + i * k.words) t)) ≡ true
  pub whole : max most (last_point (column_lines k t)) ≡ max far (last_point (lines_in k (n - i) (drop (1 + i * k.words) t)))

pub far-start : (k : Column) (t : List ℕ) (most : ℕ) → all (within 65536) (column_lines k t) ≡ true → Far k t most (word 0 t) 0 most
far-start k t most h =
    let e : word 0 t - 0 ≡ word 0 t = omega arith in
    let g : 1 + 0 * k.words ≡ 1 = omega arith in
    record { fits = rw (e, g, ← lines_in_lem k t) h; whole = rw (e, g, ← lines_in_lem k t) }

module _ (k : Column) (t : List ℕ) (most n i far : ℕ) (l : Far k t most n i far) where
  module _ (h : i < n) where
    abbrev row : List ℕ
    row = take k.words (drop (1 + i * k.words) t)

    abbrev rest : List Span
    rest = lines_in k (n - (i + 1)) (drop (1 + (i + 1) * k.words) t)

    more : lines_in k (n - i) (drop (1 + i * k.words) t) ≡ line_of k row ++ rest
    more =
        let e : n - i ≡ suc (n - (i + 1)) = omega arith in
        let g : 1 + i * k.words + k.words ≡ 1 + (i + 1) * k.words = omega arith in
        rw e (lines_more k (n - (i + 1)) (drop (1 + i * k.words) t) ∙ rw (drop-drop, g))

    both : (all (within 65536) (line_of k row) && all (within 65536) rest) ≡ true
    both = sym (all_split (within 65536) (line_of k row) rest) ∙ (rw more at l.fits)

    pub far-fits : all (within 65536) (line_of k row) ≡ true
    far-fits = and-fst (all (within 65536) (line_of k row)) (all (within 65536) rest) both

    pub far-turn : (far₁ : ℕ) → far₁ ≡ max far (last_point (line_of k row)) → Far k t most n (i + 1) far₁
    far-turn far₁ e =
        record {
          fits = and-snd (all (within 65536) (line_of k row)) (all (within 65536) rest) both;
          whole = l.whole ∙ rw (more, reach-append (line_of k row) rest, e) (omega arith);
        }

  pub far-done : n ≤ i → far ≡ max most (last_point (column_lines k t))
  far-done h =
      let e : n - i ≡ 0 = omega arith in
      let z : lines_in k (n - i) (drop (1 + i * k.words) t) ≡ [] = rw e (lines_none k (drop (1 + i * k.words) t)) in
      sym (l.whole ∙ ap (λ v. max far (last_point v)) z ∙ nothing)
    where
      nothing : max far (last_point []) ≡ far
      nothing = unfold last_point in omega arith

-- ---- all columns

module _ (t : Tables) where
  -- the lines of each column lie within, if all do
  pub columns-within : (n : ℕ) → all (within n) (spans t) ≡ true
      → (all (within n) (column_lines boundary_lines_of t.boundaries) ≡ true) × ((all (within n) (column_lines centerlines t.lanes) ≡ true) × ((all (within n) (column_lines stop_lines_of t.stop_lines) ≡ true)
      × ((all (within n) (column_lines left_edges_of t.crosswalks) ≡ true) × (all (within n) (column_lines right_edges_of t.crosswalks) ≡ true))))
  columns-within n h =
      let f = within n in
      let b = column_lines boundary_lines_of t.boundaries in
      let c = column_lines centerlines t.lanes in
      let s = column_lines stop_lines_of t.stop_lines in
      let l = column_lines left_edges_of t.crosswalks in
      let r = column_lines right_edges_of t.crosswalks in
      let p0 = pair f b (c ++ (s ++ (l ++ r))) (rw (spans-columns t) at h) in
      let p1 = pair f c (s ++ (l ++ r)) p0.1 in
      let p2 = pair f s (l ++ r) p1.1 in
      let p3 = pair f l r p2.1 in
      (p0.0, (p1.0, (p2.0, (p3.0, p3.1))))
    where
      pair : (f : Span → Bool) (a b : List Span) → all f (a ++ b) ≡ true → (all f a ≡ true) × (all f b ≡ true)
      pair f a b h = let e = sym (all_split f a b) ∙ h in (and-fst (all f a) (all f b) e, and-snd (all f a) (all f b) e)

  -- column by column
  pub columns-reach : (a b c d r : ℕ) → a ≡ max 0 (last_point (column_lines boundary_lines_of t.boundaries)) → b ≡ max a (last_point (column_lines centerlines t.lanes))
      → c ≡ max b (last_point (column_lines stop_lines_of t.stop_lines)) → d ≡ max c (last_point (column_lines left_edges_of t.crosswalks)) → r ≡ max d (last_point (column_lines right_edges_of t.crosswalks))
      → r ≡ last_point (spans t)
  columns-reach a b c d r p q u v w =
      let bs = column_lines boundary_lines_of t.boundaries in
      let cs = column_lines centerlines t.lanes in
      let ss = column_lines stop_lines_of t.stop_lines in
      let ls = column_lines left_edges_of t.crosswalks in
      let rs = column_lines right_edges_of t.crosswalks in
      let e : max 0 (last_point (spans t)) ≡ r =
      ap (λ x. max 0 (last_point x)) (spans-columns t)
      ∙ reach-on 0 a bs (cs ++ (ss ++ (ls ++ rs))) p
      ∙ reach-on a b cs (ss ++ (ls ++ rs)) q
      ∙ reach-on b c ss (ls ++ rs) u
      ∙ reach-on c d ls rs v
      ∙ sym w in
      last (last_point (spans t)) e
    where
      last : (n : ℕ) → max 0 n ≡ r → r ≡ n
      last n e = omega arith

-- ---- the choice of an array

-- the lines and the counts do not see the coordinates
spans-any : (l b s x : List ℕ) (c d : List Float) → spans (line_tables l b s x c) ≡ spans (line_tables l b s x d)
unfolding spans
spans-any l b s x c d = refl

counts-any : (l b s x : List ℕ) (c d : List Float) → counted_lines (line_tables l b s x c) ≡ counted_lines (line_tables l b s x d)
unfolding counted_lines
counts-any l b s x c d = refl

module _ (l b s x : List ℕ) (c : List Float) (h : lines_formed (line_tables l b s x c) ≡ true) where
  pub formed-reach : (counted_lines (line_tables l b s x []) ≡ true) × (all (within 65536) (spans (line_tables l b s x [])) ≡ true)
  formed-reach =
      let f = lines-facts (line_tables l b s x c) h in
      (counts-any l b s x [] c ∙ f.counts, rw (spans-any l b s x [] c) (all_within_more (min 65536 (length c / 3)) 65536 (spans (line_tables l b s x c)) (omega arith) f.fits))

  -- lines that reach no farther than n lie among n points, and all lie among 65,536
  pub reach-within : (n r : ℕ) → r ≡ last_point (spans (line_tables l b s x [])) → r ≤ n → all (within n) (spans (line_tables l b s x c)) ≡ true
  reach-within n r e g =
      let u = spans (line_tables l b s x c) in
      let k : last_point u ≤ n = omega (arith, ap last_point (spans-any l b s x c [])) in
      all_within_more (last_point u) n u k (within-reach u)

  pub all-stored : all (within 65536) (spans (line_tables l b s x c)) ≡ true
  all-stored = rw (spans-any l b s x c []) formed-reach.1
