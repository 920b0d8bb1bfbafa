-- A walk over the rows of a column, from either end: the lines from a row on. Assumes nothing.
use mathlib.Core.Path.{◌≡◌, refl, sym, ap, ◌∙◌}
use mathlib.Core.Bool.{Bool, true, false, cond}
use mathlib.Core.List.{List, [], ◌∷◌, ◌++◌}
use Prim.Native.Nat.{ℕ, zero, suc, ◌+◌, ◌-◌, ◌*◌, ◌≤◌, ◌<◌}
use native.Mathlib.Numerals.{add-one}
use native.Mathlib.Omega.{arith}
use lib.ListN.{length, get_or, take, drop}
use lib.Seq.{get_or-take, drop-drop}
use Rattle.lists.specs.Every.{all}
use Rattle.lists.proofs.Every.{all_split}
use Rattle.lists.proofs.Booleans.{and-snd}
use Rattle.tables.specs.View.{word, mark}
use Rattle.tables.specs.Formed.{Span}
use Rattle.layout.specs.Layout.{Column, line_of, column_lines, points_in}
use Rattle.layout.proofs.Column.{lines_in, lines_in_lem, lines_more, lines_none, row_line, total-append}
use Rattle.order.specs.Order.{column_of, row_has, least}

-- of n rows, the lines of those from i on
unfoldable pub lines_from : Column → List ℕ → ℕ → ℕ → List Span
lines_from k t n i = lines_in k (n - i) (drop (1 + i * k.words) t)

module _ (k : Column) (t : List ℕ) where
  pub from_start : column_lines k t ≡ lines_from k t (word 0 t) 0
  unfolding lines_from
  from_start =
      let e : word 0 t - 0 ≡ word 0 t = omega arith in
      let g : 1 + 0 * k.words ≡ 1 = omega arith in
      rw (e, g) (lines_in_lem k t)

  pub from_end : (n i : ℕ) → n ≤ i → lines_from k t n i ≡ []
  unfolding lines_from
  from_end n i h = let e : n - i ≡ 0 = omega arith in rw e (lines_none k (drop (1 + i * k.words) t))

  pub from_next : (n i : ℕ) → i < n → lines_from k t n i ≡ line_of k (take k.words (drop (1 + i * k.words) t)) ++ lines_from k t n (i + 1)
  unfolding lines_from
  from_next n i h =
      let e : n - i ≡ suc (n - (i + 1)) = omega arith in
      let g : 1 + i * k.words + k.words ≡ 1 + (i + 1) * k.words = omega arith in
      rw e (lines_more k (n - (i + 1)) (drop (1 + i * k.words) t) ∙ rw (drop-drop, g))

  -- what holds of all lines holds of those, and they have no more points
  pub all_from : (f : Span → Bool) (n i : ℕ) → i ≤ n → all f (lines_from k t n 0) ≡ true → all f (lines_from k t n i) ≡ true
  all_from f n zero h a = a
  all_from f n (suc i) h a =
      let r = line_of k (take k.words (drop (1 + i * k.words) t)) in
      let e : lines_from k t n i ≡ r ++ lines_from k t n (suc i) = from_next n i (omega arith) ∙ rw (add-one i) in
      and-snd (all f r) (all f (lines_from k t n (suc i))) (sym (all_split f r (lines_from k t n (suc i))) ∙ rw e at (all_from f n i (omega arith) a))

  pub points-from : (n i : ℕ) → i ≤ n → points_in (lines_from k t n i) ≤ points_in (lines_from k t n 0)
  points-from n zero h = omega arith
  points-from n (suc i) h =
      let r = line_of k (take k.words (drop (1 + i * k.words) t)) in
      let e : lines_from k t n i ≡ r ++ lines_from k t n (suc i) = from_next n i (omega arith) ∙ rw (add-one i) in
      omega (arith, points-from n i (omega arith), ap points_in e, total-append r (lines_from k t n (suc i)))

-- whether a row has a line, by the row and by the table
pub row_has_lem : (stride a : ℕ) (marked : Bool) (t : List ℕ) → least marked ≤ stride → cond marked (mark 6 (take stride (drop a t))) true ≡ row_has marked a t
row_has_lem stride a true t h = rw (get_or-take stride (drop a t) 6 0)
row_has_lem stride a false t h = refl

-- the line whose start is word a
abbrev pub line_here : List ℕ → ℕ → Span
line_here t a = record { start = get_or t a 0; size = get_or t (a + 1) 0 }

-- row i, where the code has found whether it has a line
module _ (stride offset : ℕ) (marked : Bool) (t : List ℕ) (n i : ℕ) (p : offset + 2 ≤ stride) (q : least marked ≤ stride) (h : i < n) (g : 1 + i * stride + stride ≤ length t)
    (b : Bool) (e : b ≡ row_has marked (1 + i * stride) t) where
  pub from-with : b ≡ true → lines_from (column_of stride offset marked) t n i ≡ line_here t (1 + i * stride + offset) ∷ lines_from (column_of stride offset marked) t n (i + 1)
  from-with f =
      let k = column_of stride offset marked in
      let u = row_has_lem stride (1 + i * stride) marked t q ∙ sym e ∙ f in
      let v : line_of k (take stride (drop (1 + i * stride) t)) ≡ line_here t (1 + i * stride + offset) ∷ [] = rw (add-one (1 + i * stride + offset)) (row_line k t (1 + i * stride) 0 p g u) in
      from_next k t n i h ∙ ap (λ v. v ++ lines_from k t n (i + 1)) v

  pub from-without : b ≡ false → lines_from (column_of stride offset marked) t n i ≡ lines_from (column_of stride offset marked) t n (i + 1)
  from-without f =
      let k = column_of stride offset marked in
      let u = row_has_lem stride (1 + i * stride) marked t q ∙ sym e ∙ f in
      let v : line_of k (take stride (drop (1 + i * stride) t)) ≡ [] = rw u in
      from_next k t n i h ∙ ap (λ v. v ++ lines_from k t n (i + 1)) v
