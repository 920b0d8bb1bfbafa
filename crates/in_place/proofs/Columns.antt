-- All columns, one after the other: down from the first on, up from the last on, and their rows. Assumes nothing.
use mathlib.Core.Path.{◌≡◌, refl, sym, ap, ◌∙◌}
use mathlib.Core.Bool.{Bool, true, false}
use mathlib.Core.List.{List, [], ◌∷◌, ◌++◌}
use Prim.Native.Nat.{ℕ, ◌+◌, ◌-◌, ◌≤◌}
use native.Mathlib.Omega.{arith}
use lib.ListN.{length}
use lib.Ieee.{Float}
use Rattle.lists.specs.Every.{all}
use Rattle.lists.specs.Rows.{over}
use Rattle.lists.proofs.Every.{all_split}
use Rattle.lists.proofs.Booleans.{and-fst, and-snd}
use Rattle.tables.specs.View.{Tables}
use Rattle.tables.specs.Formed.{Span, spans}
use Rattle.apart.proofs.Marks.{counted-more}
use Rattle.layout.specs.Layout.{line_floats, points_in, column_lines, laid_from, pointing, line_tables, boundary_lines_of, centerlines, stop_lines_of, left_edges_of, right_edges_of}
use Rattle.layout.proofs.Column.{total-append}
use Rattle.layout.proofs.Stages.{spans-columns, counts, all-gathered}
use Rattle.in_place.specs.Settle.{down_one, down_all, up_one, up_all, started, lies, Walked, Movable, Placed}

-- ---- lines behind lines

pub down-append : (reach at : ℕ) (a b : List Span) (c : List Float) → down_all reach at (a ++ b) c ≡ down_all reach (at + points_in a) b (down_all reach at a c)
unfolding down_all points_in
down-append reach at [] b c = let e : at + 0 ≡ at = omega arith in rw e
down-append reach at (s ∷ a) b c = let e : at + (s.size + points_in a) ≡ at + s.size + points_in a = omega arith in rw e (down-append reach (at + s.size) a b (down_one reach at s c))

pub up-append : (drawn : List Float) (reach at : ℕ) (a b : List Span) (c : List Float) → up_all drawn reach at (a ++ b) c ≡ up_all drawn reach at a (up_all drawn reach (at + points_in a) b c)
unfolding up_all points_in
up-append drawn reach at [] b c = let e : at + 0 ≡ at = omega arith in rw e
up-append drawn reach at (s ∷ a) b c =
    let e : at + (s.size + points_in a) ≡ at + s.size + points_in a = omega arith in
    rw e (ap (up_one drawn reach at s) (up-append drawn reach (at + s.size) a b c))

-- some lines, and then the rest; the rest, and then some before it
down-on : (reach at at₁ : ℕ) (a b : List Span) (c c₁ : List Float) → at₁ ≡ at + points_in a → c₁ ≡ down_all reach at a c → down_all reach at (a ++ b) c ≡ down_all reach at₁ b c₁
down-on reach at at₁ a b c c₁ p q = rw (p, q) (down-append reach at a b c)

up-on : (drawn : List Float) (reach at at₁ : ℕ) (a b : List Span) (c d e : List Float) → at₁ ≡ at + points_in a → d ≡ up_all drawn reach at₁ b c → e ≡ up_all drawn reach at a d → e ≡ up_all drawn reach at (a ++ b) c
up-on drawn reach at at₁ a b c d e p q r = r ∙ (rw (q, p) (sym (up-append drawn reach at a b c)))

-- ---- what each column asks

pub movable : (reach : ℕ) (drawn c c₁ : List Float) (points p : ℕ) → Movable reach drawn c points → length c₁ ≡ length c → p ≤ points → Movable reach drawn c₁ p
movable reach drawn c c₁ points p m e h = record { near = m.near; stored = omega (arith, m.stored); few = m.few; room = omega (arith, m.room) }

module _ (t : Tables) where
  abbrev bs : List Span
  bs = column_lines boundary_lines_of t.boundaries

  abbrev cs : List Span
  cs = column_lines centerlines t.lanes

  abbrev ss : List Span
  ss = column_lines stop_lines_of t.stop_lines

  abbrev ls : List Span
  ls = column_lines left_edges_of t.crosswalks

  abbrev rs : List Span
  rs = column_lines right_edges_of t.crosswalks

  -- the points of all lines, column by column
  pub columns-points : points_in (spans t) ≡ points_in bs + (points_in cs + (points_in ss + (points_in ls + points_in rs)))
  columns-points =
      omega (arith, ap points_in (spans-columns t), total-append bs (cs ++ (ss ++ (ls ++ rs))), total-append cs (ss ++ (ls ++ rs)), total-append ss (ls ++ rs), total-append ls rs)

  columns-all : (f : Span → Bool) → all f (spans t) ≡ true → (all f bs ≡ true) × ((all f cs ≡ true) × ((all f ss ≡ true) × ((all f ls ≡ true) × (all f rs ≡ true))))
  columns-all f h =
      let p0 = pair bs (cs ++ (ss ++ (ls ++ rs))) (rw (spans-columns t) at h) in
      let p1 = pair cs (ss ++ (ls ++ rs)) p0.1 in
      let p2 = pair ss (ls ++ rs) p1.1 in
      let p3 = pair ls rs p2.1 in
      (p0.0, (p1.0, (p2.0, (p3.0, p3.1))))
    where
      pair : (a b : List Span) → all f (a ++ b) ≡ true → (all f a ≡ true) × (all f b ≡ true)
      pair a b h = let e = sym (all_split f a b) ∙ h in (and-fst (all f a) (all f b) e, and-snd (all f a) (all f b) e)

  pub columns-walked : (reach n : ℕ) → Placed reach n t
      → Walked 5 2 false reach n t.boundaries × (Walked 52 7 true reach n t.lanes × (Walked 4 1 false reach n t.stop_lines × (Walked 7 1 false reach n t.crosswalks × Walked 7 3 false reach n t.crosswalks)))
  columns-walked reach n p =
      let h = counts t p.counts in
      let f = columns-all (lies reach n) p.lines in (
        record { line = omega arith; row = omega arith; narrow = omega arith; counts = h.1.0; lines = f.0 },
        (
          record { line = omega arith; row = omega arith; narrow = omega arith; counts = counted-more 1024 4096 52 t.lanes (omega arith) h.0; lines = f.1.0 },
          (
            record { line = omega arith; row = omega arith; narrow = omega arith; counts = h.1.1.0; lines = f.1.1.0 },
            (
              record { line = omega arith; row = omega arith; narrow = omega arith; counts = h.1.1.1; lines = f.1.1.1.0 },
              record { line = omega arith; row = omega arith; narrow = omega arith; counts = h.1.1.1; lines = f.1.1.1.1 },
            ),
          ),
        ),
      )

  -- ---- what the five calls leave

  pub columns-down : (reach a₁ a₂ a₃ a₄ a₅ : ℕ) (c c₁ c₂ c₃ c₄ c₅ : List Float)
      → (a₁ ≡ 0 + points_in bs) × (c₁ ≡ down_all reach 0 bs c) → (a₂ ≡ a₁ + points_in cs) × (c₂ ≡ down_all reach a₁ cs c₁) → (a₃ ≡ a₂ + points_in ss) × (c₃ ≡ down_all reach a₂ ss c₂)
      → (a₄ ≡ a₃ + points_in ls) × (c₄ ≡ down_all reach a₃ ls c₃) → (a₅ ≡ a₄ + points_in rs) × (c₅ ≡ down_all reach a₄ rs c₄)
      → (a₅ ≡ points_in (spans t)) × (c₅ ≡ down_all reach 0 (spans t) c)
  columns-down reach a₁ a₂ a₃ a₄ a₅ c c₁ c₂ c₃ c₄ c₅ p₁ p₂ p₃ p₄ p₅ = (
    omega (arith, columns-points),
    sym (ap (λ l. down_all reach 0 l c) (spans-columns t)
        ∙ down-on reach 0 a₁ bs (cs ++ (ss ++ (ls ++ rs))) c c₁ p₁.0 p₁.1
        ∙ down-on reach a₁ a₂ cs (ss ++ (ls ++ rs)) c₁ c₂ p₂.0 p₂.1
        ∙ down-on reach a₂ a₃ ss (ls ++ rs) c₂ c₃ p₃.0 p₃.1
        ∙ down-on reach a₃ a₄ ls rs c₃ c₄ p₄.0 p₄.1
        ∙ sym p₅.1),
  )

  pub columns-up : (drawn : List Float) (reach end a₁ a₂ a₃ a₄ : ℕ) (c c₁ c₂ c₃ c₄ c₅ : List Float) → end ≡ points_in (spans t)
      → (a₁ ≡ end - points_in rs) × (c₁ ≡ up_all drawn reach (end - points_in rs) rs c) → (a₂ ≡ a₁ - points_in ls) × (c₂ ≡ up_all drawn reach (a₁ - points_in ls) ls c₁)
      → (a₃ ≡ a₂ - points_in ss) × (c₃ ≡ up_all drawn reach (a₂ - points_in ss) ss c₂) → (a₄ ≡ a₃ - points_in cs) × (c₄ ≡ up_all drawn reach (a₃ - points_in cs) cs c₃)
      → c₅ ≡ up_all drawn reach (a₄ - points_in bs) bs c₄ → c₅ ≡ up_all drawn reach 0 (spans t) c
  columns-up drawn reach end a₁ a₂ a₃ a₄ c c₁ c₂ c₃ c₄ c₅ e p₁ p₂ p₃ p₄ p₅ =
      let n = columns-points in
      let z : a₄ - points_in bs ≡ 0 = omega arith in
      let g₂ = up-on drawn reach (a₁ - points_in ls) (end - points_in rs) ls rs c c₁ c₂ (omega arith) p₁.1 p₂.1 in
      let g₃ = up-on drawn reach (a₂ - points_in ss) (a₁ - points_in ls) ss (ls ++ rs) c c₂ c₃ (omega arith) g₂ p₃.1 in
      let g₄ = up-on drawn reach (a₃ - points_in cs) (a₂ - points_in ss) cs (ss ++ (ls ++ rs)) c c₃ c₄ (omega arith) g₃ p₄.1 in
      let g₅ = up-on drawn reach (a₄ - points_in bs) (a₃ - points_in cs) bs (cs ++ (ss ++ (ls ++ rs))) c c₄ c₅ (omega arith) g₄ p₅ in
      (rw z at g₅) ∙ ap (λ l. up_all drawn reach 0 l c) (sym (spans-columns t))

-- the rows
pub columns-started : (l b s x l₁ b₁ s₁ x₁ x₂ : List ℕ) (c : List Float) (a₁ a₂ a₃ a₄ : ℕ)
    → (a₁ ≡ 0 + points_in (column_lines boundary_lines_of b)) × (b₁ ≡ laid_from 0 boundary_lines_of b) → (a₂ ≡ a₁ + points_in (column_lines centerlines l)) × (l₁ ≡ laid_from a₁ centerlines l)
    → (a₃ ≡ a₂ + points_in (column_lines stop_lines_of s)) × (s₁ ≡ laid_from a₂ stop_lines_of s) → (a₄ ≡ a₃ + points_in (column_lines left_edges_of x)) × (x₁ ≡ laid_from a₃ left_edges_of x)
    → x₂ ≡ laid_from a₄ right_edges_of x₁ → line_tables l₁ b₁ s₁ x₂ c ≡ started (line_tables l b s x c)
columns-started l b s x l₁ b₁ s₁ x₁ x₂ c a₁ a₂ a₃ a₄ p₁ p₂ p₃ p₄ p₅ =
    ap (pointing c) (all-gathered [] l b s x l₁ b₁ s₁ x₁ x₂ c (over c 0 (line_floats [] (spans (line_tables l b s x c)))) a₁ a₂ a₃ a₄ p₁.0 p₁.1 p₂.0 p₂.1 p₃.0 p₃.1 p₄.0 p₄.1 p₅ refl)
