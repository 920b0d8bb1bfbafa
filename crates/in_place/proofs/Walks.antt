-- A column's lines moved down, row by row from the first on, and brought up, row by row from the last on. Assumes nothing.
use mathlib.Core.Path.{◌≡◌, refl, sym, ap, ◌∙◌}
use mathlib.Core.List.{List, [], ◌∷◌}
use Prim.Native.Nat.{ℕ, ◌+◌, ◌-◌, ◌≤◌}
use native.Mathlib.Omega.{arith}
use lib.ListN.{length}
use lib.Ieee.{Float}
use Rattle.tables.specs.View.{word}
use Rattle.tables.specs.Formed.{Span}
use Rattle.layout.specs.Layout.{Column, column_lines, points_in}
use Rattle.order.proofs.Walk.{lines_from, from_start, from_end}
use Rattle.in_place.specs.Settle.{down_one, down_all, up_one, up_all}

points-more : (s : Span) (ss : List Span) → points_in (s ∷ ss) ≡ s.size + points_in ss
unfolding points_in
points-more s ss = refl

points_none : points_in [] ≡ 0
unfolding points_in
points_none = refl

-- ---- down

-- the lines of the rows from i on are left
pub record Down (k : Column) (t : List ℕ) (reach : ℕ) (c₀ : List Float) (at n i : ℕ) (c : List Float) (place : ℕ) : Type 0 where
  pub floats : length c ≡ length c₀
  pub end : at + points_in (column_lines k t) ≡ place + points_in (lines_from k t n i)
  pub whole : down_all reach at (column_lines k t) c₀ ≡ down_all reach place (lines_from k t n i) c

pub down-start : (k : Column) (t : List ℕ) (reach : ℕ) (c : List Float) (at : ℕ) → Down k t reach c at (word 0 t) 0 c at
down-start k t reach c at = record { floats = refl; end = ap (λ l. at + points_in l) (from_start k t); whole = ap (λ l. down_all reach at l c) (from_start k t) }

module _ (k : Column) (t : List ℕ) (reach : ℕ) (c₀ : List Float) (at n i : ℕ) (c : List Float) (place : ℕ) (d : Down k t reach c₀ at n i c place) where
  pub down-room : (s : Span) → lines_from k t n i ≡ s ∷ lines_from k t n (i + 1) → place + s.size ≤ at + points_in (column_lines k t)
  down-room s e = omega (arith, d.end, ap points_in e, points-more s (lines_from k t n (i + 1)))

  pub down-with : (s : Span) → lines_from k t n i ≡ s ∷ lines_from k t n (i + 1) → (c₁ : List Float) (place₁ : ℕ) → length c₁ ≡ length c → c₁ ≡ down_one reach place s c → place₁ ≡ place + s.size
      → Down k t reach c₀ at n (i + 1) c₁ place₁
  down-with s e c₁ place₁ l p q =
      record {
        floats = l ∙ d.floats;
        end = omega (arith, d.end, ap points_in e, points-more s (lines_from k t n (i + 1)));
        whole = d.whole ∙ (ap (λ l. down_all reach place l c) e ∙ (unfold down_all in rw (p, q)));
      }

  pub down-without : lines_from k t n i ≡ lines_from k t n (i + 1) → (c₁ : List Float) (place₁ : ℕ) → c₁ ≡ c → place₁ ≡ place → Down k t reach c₀ at n (i + 1) c₁ place₁
  down-without e c₁ place₁ p q =
      rw (p, q) (record { floats = d.floats; end = d.end ∙ ap (λ l. place + points_in l) e; whole = d.whole ∙ ap (λ l. down_all reach place l c) e })

  pub down-done : n ≤ i → (place ≡ at + points_in (column_lines k t)) × (c ≡ down_all reach at (column_lines k t) c₀)
  down-done h =
      let e = from_end k t n i h in
      (omega (arith, d.end, ap points_in e, points_none), sym (d.whole ∙ (ap (λ l. down_all reach place l c) e ∙ (unfold down_all in refl))))

-- ---- up

-- the lines of the rows from i on are at their places, which end at point `end`
pub record Up (k : Column) (t : List ℕ) (drawn : List Float) (reach : ℕ) (c₀ : List Float) (end n i : ℕ) (c : List Float) (place : ℕ) : Type 0 where
  pub floats : length c ≡ length c₀
  pub from : place + points_in (lines_from k t n i) ≡ end
  pub done : c ≡ up_all drawn reach place (lines_from k t n i) c₀

pub up-begin : (k : Column) (t : List ℕ) (drawn : List Float) (reach : ℕ) (c : List Float) (end n : ℕ) → Up k t drawn reach c end n n c end
up-begin k t drawn reach c end n =
    let e = from_end k t n n (omega arith) in
    record { floats = refl; from = omega (arith, ap points_in e, points_none); done = sym (ap (λ l. up_all drawn reach end l c) e ∙ (unfold up_all in refl)) }

module _ (k : Column) (t : List ℕ) (drawn : List Float) (reach : ℕ) (c₀ : List Float) (end n i j : ℕ) (c : List Float) (place : ℕ) (u : Up k t drawn reach c₀ end n i c place) (f : j + 1 ≡ i) where
  -- the line of the row before is no longer than what is before its place
  pub up_room : (s : Span) → lines_from k t n j ≡ s ∷ lines_from k t n (j + 1) → points_in (lines_from k t n j) ≤ end → s.size ≤ place
  up_room s e h = omega (arith, u.from, ap points_in e, points-more s (lines_from k t n (j + 1)), ap (λ m. points_in (lines_from k t n m)) f)

  pub up-with : (s : Span) → lines_from k t n j ≡ s ∷ lines_from k t n (j + 1) → (c₁ : List Float) (place₁ : ℕ) → length c₁ ≡ length c → c₁ ≡ up_one drawn reach place₁ s c → place₁ + s.size ≡ place
      → Up k t drawn reach c₀ end n j c₁ place₁
  up-with s e c₁ place₁ l p q =
      record {
        floats = l ∙ u.floats;
        from = omega (arith, u.from, ap points_in e, points-more s (lines_from k t n (j + 1)), ap (λ m. points_in (lines_from k t n m)) f);
        done = p ∙ (ap (up_one drawn reach place₁ s) u.done ∙ sym (ap (λ l. up_all drawn reach place₁ l c₀) e ∙ (unfold up_all in rw (q, f))));
      }

  pub up-without : lines_from k t n j ≡ lines_from k t n (j + 1) → (c₁ : List Float) (place₁ : ℕ) → c₁ ≡ c → place₁ ≡ place → Up k t drawn reach c₀ end n j c₁ place₁
  up-without e c₁ place₁ p q =
      let g : lines_from k t n j ≡ lines_from k t n i = e ∙ ap (lines_from k t n) f in
      rw (p, q) (record { floats = u.floats; from = rw g u.from; done = u.done ∙ ap (λ l. up_all drawn reach place l c₀) (sym g) })

pub up-finish : (k : Column) (t : List ℕ) (drawn : List Float) (reach : ℕ) (c₀ : List Float) (end i : ℕ) (c : List Float) (place : ℕ) → Up k t drawn reach c₀ end (word 0 t) i c place → i ≡ 0
    → (place ≡ end - points_in (column_lines k t)) × (c ≡ up_all drawn reach (end - points_in (column_lines k t)) (column_lines k t) c₀)
up-finish k t drawn reach c₀ end i c place u z =
    let g : lines_from k t (word 0 t) i ≡ column_lines k t = ap (lines_from k t (word 0 t)) z ∙ sym (from_start k t) in
    let p : place ≡ end - points_in (column_lines k t) = omega (arith, u.from, ap points_in g) in
    (p, u.done ∙ rw (g, p))
