-- A column of lines on its way through the layout: one row after the other. Assumes nothing.
use mathlib.Core.Path.{◌≡◌, refl, sym, ap, ◌∙◌}
use mathlib.Core.Logic.{⊎_elim}
use mathlib.Core.Bool.{Bool, true, false, ◌&&◌, cond}
use mathlib.Core.List.{List, [], ◌∷◌, ◌++◌, append_assoc, append-nil}
use Prim.Native.Nat.{ℕ, suc, ◌+◌, ◌-◌, ◌*◌, ◌/◌, ◌≤◌, ◌<◌}
use native.Mathlib.Nat.{add-zero}
use native.Mathlib.Omega.{arith}
use lib.ListN.{length, set, take, drop, length-append, length-drop, length-set, take-append-drop}
use lib.Seq.{length-take-le, get_or-take, get_or-drop, drop-drop, drop-set-lt, take-set-le, take-set-lt, drop-set-add}
use lib.Ieee.{Float}
use borrow.Author.Tests.{eq-eqb, ne_eqb}
use Rattle.lists.specs.Every.{all}
use Rattle.lists.specs.Rows.{reads, over}
use Rattle.lists.specs.Select.{each}
use Rattle.lists.proofs.Every.{all_split, all_head, all_tail}
use Rattle.lists.proofs.Booleans.{and-fst, and-snd}
use Rattle.lists.proofs.Rows.{over-over, over-nil, length_over, take-over, drop-over}
use Rattle.tables.specs.View.{word, mark, part, rows}
use Rattle.tables.specs.Formed.{Span, span_at, counted}
use Rattle.apart.specs.Marks.{within}
use Rattle.apart.proofs.Marks.{within-cases, counted-facts}
use Rattle.layout.specs.Layout.{line_floats, points_in, Column, line_of, column_lines, moved, moves, laid_from}

-- ---- lines behind lines

pub total-append : (a b : List Span) → points_in (a ++ b) ≡ points_in a + points_in b
unfolding points_in
total-append [] b = omega arith
total-append (s ∷ a) b = omega (arith, total-append a b)

pub laid-append : (work : List Float) (a b : List Span) → line_floats work (a ++ b) ≡ line_floats work a ++ line_floats work b
unfolding line_floats each
laid-append work [] b = refl
laid-append work (s ∷ a) b = rw (laid-append work a b, append_assoc)

length_part : (work : List Float) (s : Span) → within (length work / 3) s ≡ true → length (part work s.start s.size) ≡ s.size * 3
unfolding part
length_part work s h = ⊎_elim none inside (within-cases (length work / 3) s h)
  where
    none : s.size ≡ 0 → length (take (s.size * 3) (drop (s.start * 3) work)) ≡ s.size * 3
    none e = rw e

    inside : s.start + s.size ≤ length work / 3 → length (take (s.size * 3) (drop (s.start * 3) work)) ≡ s.size * 3
    inside l = length-take-le (s.size * 3) (drop (s.start * 3) work) (rw length-drop (omega arith))

-- lines that lie in `work` take three floats a point
pub length-laid : (work : List Float) (ss : List Span) → all (within (length work / 3)) ss ≡ true → length (line_floats work ss) ≡ points_in ss * 3
unfolding line_floats each points_in
length-laid work [] h = refl
length-laid work (s ∷ ss) h =
    rw (length-append, length_part work s (all_head (within (length work / 3)) s ss h), length-laid work ss (all_tail (within (length work / 3)) s ss h)) (omega arith)

-- ---- rows

pub length_moved : (k : Column) (at : ℕ) (r : List ℕ) → length (moved k at r) ≡ length r
length_moved k at r = go (k.has r)
  where
    go : (b : Bool) → length (cond b (set r k.start at) r) ≡ length r
    go true = length-set r k.start at
    go false = refl

-- the lines of n rows
unfoldable pub lines_in : Column → ℕ → List ℕ → List Span
lines_in k n w = each (λ s. s) (reads k.words (line_of k) n w)

pub lines_in_lem : (k : Column) (t : List ℕ) → column_lines k t ≡ lines_in k (word 0 t) (drop 1 t)
unfolding column_lines rows lines_in
lines_in_lem k t = refl

pub lines_more : (k : Column) (n : ℕ) (w : List ℕ) → lines_in k (suc n) w ≡ line_of k (take k.words w) ++ lines_in k n (drop k.words w)
unfolding lines_in reads each
lines_more k n w = refl

pub lines_none : (k : Column) (w : List ℕ) → lines_in k 0 w ≡ []
unfolding lines_in reads each
lines_none k w = refl

pub moves_more : (k : Column) (n at : ℕ) (w : List ℕ) → moves k (suc n) at w ≡ moved k at (take k.words w) ++ moves k n (at + points_in (line_of k (take k.words w))) (drop k.words w)
unfolding moves
moves_more k n at w = refl

-- a word of the row at a, set in the table
set-row : {A : Type 0} (t : List A) (a s j : ℕ) (x : A) → j < s → a + s ≤ length t → set t (a + j) x ≡ over t a (set (take s (drop a t)) j x)
unfolding over
set-row t a s j x h g =
    let l : length (set (take s (drop a t)) j x) ≡ s = rw length-set (length-take-le s (drop a t) (rw length-drop (omega arith))) in
    let u = set t (a + j) x in
    let p : take a u ≡ take a t = take-set-le a t (a + j) x (omega arith) in
    let q : take s (drop a u) ≡ set (take s (drop a t)) j x = rw (drop-set-add a t j x, take-set-lt s (drop a t) j x h) in
    let r : drop (a + s) u ≡ drop (a + s) t = drop-set-lt (a + s) t (a + j) x (omega arith) in
    let d : drop s (drop a u) ≡ drop (a + s) t = drop-drop s a u ∙ r in
    sym (take-append-drop a u) ∙ rw (p, l) (ap (λ v. take a t ++ v) (sym (take-append-drop s (drop a u)) ∙ rw (q, d)))

-- what `gather_line` asks for
abbrev pub Ready : List Float → List ℕ → List Float → ℕ → ℕ → Type 0
Ready work t c at here = (here + 2 ≤ length t) × ((within (length work / 3) (span_at here t) ≡ true) × ((at + word (suc here) t) * 3 ≤ length c))

-- the row at a lies in the table, its line in `work`, and there is room for it
abbrev pub RowReady : Column → List Float → List ℕ → List Float → ℕ → ℕ → Type 0
RowReady k work t c at a =
    (a + k.words ≤ length t) × ((all (within (length work / 3)) (line_of k (take k.words (drop a t))) ≡ true) × ((at + points_in (line_of k (take k.words (drop a t)))) * 3 ≤ length c))

-- what becomes of the row at a: its line is laid at `at`
abbrev pub Turned : Column → List Float → List ℕ → List Float → ℕ → ℕ → List ℕ → List Float → ℕ → Type 0
Turned k work t c at a t₁ c₁ at₁ =
    (at₁ ≡ at + points_in (line_of k (take k.words (drop a t)))) × ((t₁ ≡ over t a (moved k at (take k.words (drop a t)))) × (c₁ ≡ over c (at * 3) (line_floats work (line_of k (take k.words (drop a t))))))

-- a row that has a line: what the code does with its words is what the definitions say of the row
module _ (k : Column) (t : List ℕ) (a at : ℕ) (p : k.start + 2 ≤ k.words) (q : a + k.words ≤ length t) (h : k.has (take k.words (drop a t)) ≡ true) where
  row_word : (j : ℕ) → j < k.words → word j (take k.words (drop a t)) ≡ word (a + j) t
  row_word j l = get_or-take k.words (drop a t) j 0 l ∙ get_or-drop a t j 0

  pub row_line : line_of k (take k.words (drop a t)) ≡ record { start = word (a + k.start) t; size = word (suc (a + k.start)) t } ∷ []
  row_line =
      let i : k.start < k.words = omega arith in
      let j : suc k.start < k.words = omega arith in
      let e : a + suc k.start ≡ suc (a + k.start) = omega arith in
      let u = row_word k.start i in
      let v : word (suc k.start) (take k.words (drop a t)) ≡ word (suc (a + k.start)) t = row_word (suc k.start) j ∙ ap (λ n. word n t) e in
      rw (h, u, v)

  row-size : points_in (line_of k (take k.words (drop a t))) ≡ word (suc (a + k.start)) t
  unfolding points_in
  row-size = rw row_line (omega arith)

  row_laid : (work : List Float) → line_floats work (line_of k (take k.words (drop a t))) ≡ part work (word (a + k.start) t) (word (suc (a + k.start)) t)
  unfolding line_floats each
  row_laid work = rw (row_line, append-nil)

  row_moved : set t (a + k.start) at ≡ over t a (moved k at (take k.words (drop a t)))
  row_moved = rw h (set-row t a k.words k.start at (omega arith) q)

  row_fits : (n : ℕ) → all (within n) (line_of k (take k.words (drop a t))) ≡ true → within n (span_at (a + k.start) t) ≡ true
  row_fits n f = all_head (within n) (span_at (a + k.start) t) [] (rw row_line at f)

  pub row-ready : (work c : List Float) → all (within (length work / 3)) (line_of k (take k.words (drop a t))) ≡ true
      → (at + points_in (line_of k (take k.words (drop a t)))) * 3 ≤ length c → Ready work t c at (a + k.start)
  row-ready work c f r = (omega arith, (row_fits (length work / 3) f, omega (arith, row-size)))

  pub row-turned : (work c : List Float) (t₁ : List ℕ) (c₁ : List Float) (at₁ : ℕ) → at₁ ≡ at + word (suc (a + k.start)) t → t₁ ≡ set t (a + k.start) at
      → c₁ ≡ over c (at * 3) (part work (word (a + k.start) t) (word (suc (a + k.start)) t)) → Turned k work t c at a t₁ c₁ at₁
  row-turned work c t₁ c₁ at₁ x y z = (x ∙ rw row-size, (y ∙ row_moved, z ∙ rw (row_laid work)))

-- a row without a line stays
pub row_stays : (k : Column) (work : List Float) (t : List ℕ) (c : List Float) (at a : ℕ) → k.has (take k.words (drop a t)) ≡ false
    → a + k.words ≤ length t → Turned k work t c at a t c at
unfolding points_in line_floats each over
row_stays k work t c at a h q =
    let l : length (take k.words (drop a t)) ≡ k.words = length-take-le k.words (drop a t) (rw length-drop (omega arith)) in
    rw (h, l) (omega arith, (sym (take-append-drop a t) ∙ ap (λ v. take a t ++ v) (sym (take-append-drop k.words (drop a t)) ∙ rw drop-drop), sym (rw (add-zero, take-append-drop))))

-- ---- a lane's mark

center_mark : (t : List ℕ) (a : ℕ) → word 6 (take 52 (drop a t)) ≡ word (a + 6) t
center_mark t a = get_or-take 52 (drop a t) 6 0 (omega arith) ∙ get_or-drop a t 6 0

pub center_there : (t : List ℕ) (a : ℕ) → (word (a + 6) t ≡ 0 → ⊥) → mark 6 (take 52 (drop a t)) ≡ true
center_there t a h = rw (center_mark t a, ne_eqb (word (a + 6) t) 0 h)

pub center_absent : (t : List ℕ) (a : ℕ) → word (a + 6) t ≡ 0 → mark 6 (take 52 (drop a t)) ≡ false
center_absent t a h = rw (center_mark t a, eq-eqb (word (a + 6) t) 0 h)

-- ---- the walk

-- The column of t₀ and c₀ is laid out from at₀ on; what is left of it are the n rows of t from word a on, from `at` on.
pub record Left (k : Column) (work : List Float) (t₀ : List ℕ) (c₀ : List Float) (at₀ n a : ℕ) (t : List ℕ) (c : List Float) (at : ℕ) : Type 0 where
  pub words : length t ≡ length t₀
  pub floats : length c ≡ length c₀
  pub inside : a + n * k.words ≤ length t
  pub fits : all (within (length work / 3)) (lines_in k n (drop a t)) ≡ true
  pub room : (at + points_in (lines_in k n (drop a t))) * 3 ≤ length c
  pub table : laid_from at₀ k t₀ ≡ take a t ++ moves k n at (drop a t)
  pub points : over c₀ (at₀ * 3) (line_floats work (column_lines k t₀)) ≡ over c (at * 3) (line_floats work (lines_in k n (drop a t)))
  pub end : at₀ + points_in (column_lines k t₀) ≡ at + points_in (lines_in k n (drop a t))

pub left-start : (k : Column) (most : ℕ) (work : List Float) (t : List ℕ) (c : List Float) (at : ℕ) → counted most k.words t ≡ true
    → all (within (length work / 3)) (column_lines k t) ≡ true → (at + points_in (column_lines k t)) * 3 ≤ length c
    → Left k work t c at (word 0 t - 0) (1 + 0 * k.words) t c at
unfolding laid_from
left-start k most work t c at h f r =
    let e : word 0 t - 0 ≡ word 0 t = omega arith in
    let g : 1 + 0 * k.words ≡ 1 = omega arith in
    let z = counted-facts most k.words t h in
    rw (e, g) (record {
      words = refl;
      floats = refl;
      inside = omega arith;
      fits = rw (lines_in_lem k t) at f;
      room = rw (lines_in_lem k t) at r;
      table = refl;
      points = rw (lines_in_lem k t);
      end = rw (lines_in_lem k t);
    })

module _ (k : Column) (work : List Float) (t₀ : List ℕ) (c₀ : List Float) (at₀ : ℕ) where
  -- the next row
  module _ (n a : ℕ) (t : List ℕ) (c : List Float) (at : ℕ) (l : Left k work t₀ c₀ at₀ (suc n) a t c at) where
    abbrev row : List ℕ
    row = take k.words (drop a t)

    abbrev rest : List Span
    rest = lines_in k n (drop (a + k.words) t)

    more : lines_in k (suc n) (drop a t) ≡ line_of k row ++ rest
    more = lines_more k n (drop a t) ∙ rw drop-drop

    all_fit : (all (within (length work / 3)) (line_of k row) ≡ true) × (all (within (length work / 3)) rest ≡ true)
    all_fit =
        let f = within (length work / 3) in
        let h : (all f (line_of k row) && all f rest) ≡ true = sym (all_split f (line_of k row) rest) ∙ (rw more at l.fits) in
        (and-fst (all f (line_of k row)) (all f rest) h, and-snd (all f (line_of k row)) (all f rest) h)

    count : points_in (lines_in k (suc n) (drop a t)) ≡ points_in (line_of k row) + points_in rest
    count = ap points_in more ∙ total-append (line_of k row) rest

    pub next_in : a + k.words ≤ length t
    next_in = omega (arith, l.inside)

    pub next_fits : all (within (length work / 3)) (line_of k row) ≡ true
    next_fits = all_fit.0

    pub next-room : (at + points_in (line_of k row)) * 3 ≤ length c
    next-room = omega (arith, l.room, count)

    pub left_step : (t₁ : List ℕ) (c₁ : List Float) (at₁ : ℕ) → at₁ ≡ at + points_in (line_of k row) → t₁ ≡ over t a (moved k at row)
        → c₁ ≡ over c (at * 3) (line_floats work (line_of k row)) → Left k work t₀ c₀ at₀ n (a + k.words) t₁ c₁ at₁
    left_step t₁ c₁ at₁ p q r =
        let m : length (moved k at row) ≡ k.words = length_moved k at row ∙ length-take-le k.words (drop a t) (rw length-drop (omega (arith, next_in))) in
        let i : a + length (moved k at row) ≤ length t = omega (arith, next_in) in
        let d : drop (a + k.words) t₁ ≡ drop (a + k.words) t = rw q (ap (λ j. drop (a + j) (over t a (moved k at row))) (sym m) ∙ drop-over t a (moved k at row) i ∙ ap (λ j. drop (a + j) t) m) in
        let u : take (a + k.words) t₁ ≡ take a t ++ moved k at row = rw q (ap (λ j. take (a + j) (over t a (moved k at row))) (sym m) ∙ take-over t a (moved k at row) i) in
        let w : length (line_floats work (line_of k row)) ≡ points_in (line_of k row) * 3 = length-laid work (line_of k row) next_fits in
        let x : at * 3 + length (line_floats work (line_of k row)) ≡ at₁ * 3 = omega arith in
        let y : at * 3 + length (line_floats work (line_of k row)) ≤ length c = omega (arith, next-room) in
        record {
          words = ap length q ∙ length_over t a (moved k at row) i ∙ l.words;
          floats = ap length r ∙ length_over c (at * 3) (line_floats work (line_of k row)) y ∙ l.floats;
          inside = omega (arith, ap length q, length_over t a (moved k at row) i, l.inside);
          fits = rw d all_fit.1;
          room = rw d (omega (arith, l.room, count, ap length r, length_over c (at * 3) (line_floats work (line_of k row)) y));
          table = l.table ∙ rw (moves_more k n at (drop a t), drop-drop, u, d, p, append_assoc);
          points = l.points ∙ rw (more, laid-append, d, r) (sym (over-over c (at * 3) (at₁ * 3) (line_floats work (line_of k row)) (line_floats work rest) x (omega arith)));
          end = l.end ∙ rw d (omega (arith, count));
        }

  -- row i of n, and the end
  module _ (n i : ℕ) (t : List ℕ) (c : List Float) (at : ℕ) (l : Left k work t₀ c₀ at₀ (n - i) (1 + i * k.words) t c at) where
    pub left-next : i < n → Left k work t₀ c₀ at₀ (suc (n - (i + 1))) (1 + i * k.words) t c at
    left-next h = let e : suc (n - (i + 1)) ≡ n - i = omega arith in rw e l

    pub left-turn : i < n → (t₁ : List ℕ) (c₁ : List Float) (at₁ : ℕ) → Turned k work t c at (1 + i * k.words) t₁ c₁ at₁
        → Left k work t₀ c₀ at₀ (n - (i + 1)) (1 + (i + 1) * k.words) t₁ c₁ at₁
    left-turn h t₁ c₁ at₁ d =
        let e : 1 + (i + 1) * k.words ≡ 1 + i * k.words + k.words = omega arith in
        rw e (left_step (n - (i + 1)) (1 + i * k.words) t c at (left-next h) t₁ c₁ at₁ d.0 d.1.0 d.1.1)

    pub left-row : i < n → RowReady k work t c at (1 + i * k.words)
    left-row h =
        let a = 1 + i * k.words in
        let m = n - (i + 1) in
        (next_in m a t c at (left-next h), (next_fits m a t c at (left-next h), next-room m a t c at (left-next h)))

    pub left-done : n ≤ i → (at ≡ at₀ + points_in (column_lines k t₀)) × ((t ≡ laid_from at₀ k t₀) × (c ≡ over c₀ (at₀ * 3) (line_floats work (column_lines k t₀))))
    unfolding moves points_in line_floats each
    left-done h =
        let e : n - i ≡ 0 = omega arith in
        let w = drop (1 + i * k.words) t in
        let z : lines_in k (n - i) w ≡ [] = rw e (lines_none k w) in
        let m : moves k (n - i) at w ≡ w = rw e in
        let x : points_in (lines_in k (n - i) w) ≡ 0 = rw z in
        (omega (arith, l.end), (sym (l.table ∙ rw (m, take-append-drop)), sym (l.points ∙ rw (z, over-nil))))

  -- a row that has a line, as the code treats it
  module _ (n i : ℕ) (t : List ℕ) (c : List Float) (at : ℕ) (l : Left k work t₀ c₀ at₀ (n - i) (1 + i * k.words) t c at) (g : i < n) (p : k.start + 2 ≤ k.words)
      (h : k.has (take k.words (drop (1 + i * k.words) t)) ≡ true) where
    abbrev here : ℕ
    here = 1 + i * k.words + k.start

    pub line-needs : Ready work t c at here
    line-needs = let r = left-row n i t c at l g in row-ready k t (1 + i * k.words) at p r.0 h work c r.1.0 r.1.1

    pub left-line : (t₁ : List ℕ) (c₁ : List Float) (at₁ : ℕ) → at₁ ≡ at + word (suc here) t → t₁ ≡ set t here at
        → c₁ ≡ over c (at * 3) (part work (word here t) (word (suc here) t))
        → Left k work t₀ c₀ at₀ (n - (i + 1)) (1 + (i + 1) * k.words) t₁ c₁ at₁
    left-line t₁ c₁ at₁ x y z =
        left-turn n i t c at l g t₁ c₁ at₁ (row-turned k t (1 + i * k.words) at p (left-row n i t c at l g).0 h work c t₁ c₁ at₁ x y z)
