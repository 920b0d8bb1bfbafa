-- The rows of a column on their way to say where their lines start: one after the other. Assumes nothing.
use mathlib.Core.Path.{◌≡◌, refl, sym, ap, ◌∙◌}
use mathlib.Core.Bool.{Bool, true, false, cond}
use mathlib.Core.List.{List, [], ◌++◌, append_assoc}
use Prim.Native.Nat.{ℕ, suc, ◌+◌, ◌-◌, ◌*◌, ◌≤◌, ◌<◌}
use native.Mathlib.Numerals.{add-one}
use native.Mathlib.Omega.{arith}
use lib.ListN.{length, get_or, set, take, drop, length-drop, take-append-drop}
use lib.Seq.{length-take-le, drop-drop}
use Rattle.lists.specs.Rows.{over}
use Rattle.lists.proofs.Rows.{length_over, take-over, drop-over}
use Rattle.tables.specs.View.{word, mark, part}
use Rattle.tables.specs.Formed.{Span, counted}
use Rattle.apart.proofs.Marks.{counted-facts}
use Rattle.layout.specs.Layout.{Column, points_in, line_of, column_lines, moved, moves, laid_from}
use Rattle.layout.proofs.Column.{total-append, length_moved, lines_in, lines_in_lem, lines_more, lines_none, moves_more, Turned, row-turned, row_stays}
use Rattle.order.specs.Order.{column_of, row_has, least}
use Rattle.order.proofs.Walk.{row_has_lem}

-- the column of t₀ is laid out from at₀ on; what is left of it are the n rows of t from word a on, from `at` on
pub record Starts (k : Column) (t₀ : List ℕ) (at₀ n a : ℕ) (t : List ℕ) (at : ℕ) : Type 0 where
  pub words : length t ≡ length t₀
  pub inside : a + n * k.words ≤ length t
  pub table : laid_from at₀ k t₀ ≡ take a t ++ moves k n at (drop a t)
  pub end : at₀ + points_in (column_lines k t₀) ≡ at + points_in (lines_in k n (drop a t))

pub starts-start : (k : Column) (most : ℕ) (t : List ℕ) (at : ℕ) → counted most k.words t ≡ true → Starts k t at (word 0 t - 0) (1 + 0 * k.words) t at
unfolding laid_from
starts-start k most t at h =
    let e : word 0 t - 0 ≡ word 0 t = omega arith in
    let g : 1 + 0 * k.words ≡ 1 = omega arith in
    let z = counted-facts most k.words t h in
    rw (e, g) (record { words = refl; inside = omega arith; table = refl; end = rw (lines_in_lem k t) })

module _ (k : Column) (t₀ : List ℕ) (at₀ n i : ℕ) (t : List ℕ) (at : ℕ) (l : Starts k t₀ at₀ (n - i) (1 + i * k.words) t at) where
  abbrev a : ℕ
  a = 1 + i * k.words

  -- row i of n
  module _ (h : i < n) where
    abbrev row : List ℕ
    row = take k.words (drop a t)

    abbrev rest : List Span
    rest = lines_in k (n - (i + 1)) (drop (a + k.words) t)

    left : n - i ≡ suc (n - (i + 1))
    left = omega arith

    count : points_in (lines_in k (n - i) (drop a t)) ≡ points_in (line_of k row) + points_in rest
    count = rw left (ap points_in (lines_more k (n - (i + 1)) (drop a t) ∙ rw drop-drop) ∙ total-append (line_of k row) rest)

    pub starts_in : a + k.words ≤ length t
    starts_in = omega (arith, rw left at l.inside)

    pub starts-room : at + points_in (line_of k row) ≤ at₀ + points_in (column_lines k t₀)
    starts-room = omega (arith, l.end, count)

    pub starts-turn : (t₁ : List ℕ) (at₁ : ℕ) → at₁ ≡ at + points_in (line_of k row) → t₁ ≡ over t a (moved k at row) → Starts k t₀ at₀ (n - (i + 1)) (1 + (i + 1) * k.words) t₁ at₁
    starts-turn t₁ at₁ p q =
        let b : 1 + (i + 1) * k.words ≡ a + k.words = omega arith in
        let m : length (moved k at row) ≡ k.words = length_moved k at row ∙ length-take-le k.words (drop a t) (rw length-drop (omega (arith, starts_in))) in
        let f : a + length (moved k at row) ≤ length t = omega (arith, starts_in) in
        let d : drop (a + k.words) t₁ ≡ drop (a + k.words) t = rw q (ap (λ j. drop (a + j) (over t a (moved k at row))) (sym m) ∙ drop-over t a (moved k at row) f ∙ ap (λ j. drop (a + j) t) m) in
        let u : take (a + k.words) t₁ ≡ take a t ++ moved k at row = rw q (ap (λ j. take (a + j) (over t a (moved k at row))) (sym m) ∙ take-over t a (moved k at row) f) in
        let w : length t₁ ≡ length t = ap length q ∙ length_over t a (moved k at row) f in
        rw b (record {
          words = w ∙ l.words;
          inside = omega (arith, w, rw left at l.inside);
          table = l.table ∙ rw (left, moves_more k (n - (i + 1)) at (drop a t), drop-drop, u, d, p, append_assoc);
          end = l.end ∙ rw d (omega (arith, count));
        })

  pub starts-done : n ≤ i → (at ≡ at₀ + points_in (column_lines k t₀)) × (t ≡ laid_from at₀ k t₀)
  unfolding moves points_in
  starts-done h =
      let e : n - i ≡ 0 = omega arith in
      let w = drop a t in
      let z : lines_in k (n - i) w ≡ [] = rw e (lines_none k w) in
      let m : moves k (n - i) at w ≡ w = rw e in
      let x : points_in (lines_in k (n - i) w) ≡ 0 = rw z in
      (omega (arith, l.end), sym (l.table ∙ rw (m, take-append-drop)))

-- row i, where the code has found whether it has a line
module _ (stride offset : ℕ) (marked : Bool) (t₀ : List ℕ) (at₀ n i : ℕ) (t : List ℕ) (at : ℕ) (l : Starts (column_of stride offset marked) t₀ at₀ (n - i) (1 + i * stride) t at) (h : i < n)
    (p : offset + 2 ≤ stride) (q : least marked ≤ stride) (b : Bool) (e : b ≡ row_has marked (1 + i * stride) t) where
  abbrev k : Column
  k = column_of stride offset marked

  abbrev here : ℕ
  here = 1 + i * stride + offset

  known : cond marked (mark 6 (take stride (drop (1 + i * stride) t))) true ≡ b
  known = row_has_lem stride (1 + i * stride) marked t q ∙ sym e

  turned : b ≡ true → (t₁ : List ℕ) (at₁ : ℕ) → at₁ ≡ at + get_or t (here + 1) 0 → t₁ ≡ set t here at → Turned k [] t [] at (1 + i * stride) t₁ (over [] (at * 3) (part [] (word here t) (word (suc here) t))) at₁
  turned f t₁ at₁ x y = row-turned k t (1 + i * stride) at p (starts_in k t₀ at₀ n i t at l h) (known ∙ f) [] [] t₁ (over [] (at * 3) (part [] (word here t) (word (suc here) t))) at₁ (rw (add-one here) at x) y refl

  pub line-fits : b ≡ true → at + get_or t (here + 1) 0 ≤ at₀ + points_in (column_lines k t₀)
  line-fits f = omega (arith, (turned f (set t here at) (at + get_or t (here + 1) 0) refl refl).0, starts-room k t₀ at₀ n i t at l h)

  pub starts-line : b ≡ true → (t₁ : List ℕ) (at₁ : ℕ) → t₁ ≡ set t here at → at₁ ≡ at + get_or t (here + 1) 0 → Starts k t₀ at₀ (n - (i + 1)) (1 + (i + 1) * stride) t₁ at₁
  starts-line f t₁ at₁ y x = let d = turned f t₁ at₁ x y in starts-turn k t₀ at₀ n i t at l h t₁ at₁ d.0 d.1.0

  pub starts_none : b ≡ false → (t₁ : List ℕ) (at₁ : ℕ) → t₁ ≡ t → at₁ ≡ at → Starts k t₀ at₀ (n - (i + 1)) (1 + (i + 1) * stride) t₁ at₁
  starts_none f t₁ at₁ y x =
      let d = row_stays k [] t [] at (1 + i * stride) (known ∙ f) (starts_in k t₀ at₀ n i t at l h) in
      starts-turn k t₀ at₀ n i t at l h t₁ at₁ (x ∙ d.0) (y ∙ d.1.0)
