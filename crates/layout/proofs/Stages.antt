-- All columns, one after the other: what is still to be laid out before each. Assumes nothing.
use mathlib.Core.Path.{◌≡◌, refl, sym, ap, ◌∙◌}
use mathlib.Core.Bool.{true, ◌&&◌}
use mathlib.Core.List.{List, ◌++◌}
use Prim.Native.Nat.{ℕ, ◌+◌, ◌*◌, ◌/◌, ◌≤◌}
use native.Mathlib.Omega.{arith}
use lib.ListN.{length}
use lib.Ieee.{Float}
use Rattle.lists.specs.Every.{all}
use Rattle.lists.specs.Rows.{over}
use Rattle.lists.specs.Select.{each}
use Rattle.lists.proofs.Every.{all_split}
use Rattle.lists.proofs.Booleans.{and-fst, and-snd}
use Rattle.lists.proofs.Rows.{over-over, length_over}
use Rattle.tables.specs.View.{Tables, rows}
use Rattle.tables.specs.Formed.{Span, span_at, center_span, spans, counted}
use Rattle.apart.specs.Marks.{within}
use Rattle.apart.proofs.Marks.{counted-more}
use Rattle.layout.specs.Layout.{line_floats, points_in, centerlines, column_lines, laid_from, gathered, line_tables, counted_lines, Gatherable, boundary_lines_of, stop_lines_of, left_edges_of, right_edges_of}
use Rattle.layout.proofs.Column.{total-append, laid-append, length-laid}
use Rattle.layout.proofs.Moves.{plain_lines, rights-kept, counted-laid}

-- ---- the lines of all columns

abbrev pub lefts-on : List ℕ → List Span
lefts-on x = column_lines left_edges_of x ++ column_lines right_edges_of x

abbrev pub stops-on : List ℕ → List ℕ → List Span
stops-on s x = column_lines stop_lines_of s ++ lefts-on x

abbrev pub centers-on : List ℕ → List ℕ → List ℕ → List Span
centers-on l s x = column_lines centerlines l ++ stops-on s x

pub spans-columns : (t : Tables) → spans t ≡ column_lines boundary_lines_of t.boundaries ++ centers-on t.lanes t.stop_lines t.crosswalks
unfolding spans
spans-columns t =
    rw (plain_lines 5 2 t.boundaries, plain_lines 4 1 t.stop_lines, plain_lines 7 1 t.crosswalks, plain_lines 7 3 t.crosswalks) (ap (λ v. rows 5 (span_at 2) t.boundaries ++ (v ++ (rows 4 (span_at 1) t.stop_lines ++ (rows 7 (span_at 1) t.crosswalks ++ rows 7 (span_at 3) t.crosswalks)))) centers)
  where
    centers : each (λ s. s) (rows 52 center_span t.lanes) ≡ column_lines centerlines t.lanes
    centers = unfold column_lines in refl

pub counts : (t : Tables) → counted_lines t ≡ true
    → (counted 1024 52 t.lanes ≡ true) × ((counted 4096 5 t.boundaries ≡ true) × ((counted 4096 4 t.stop_lines ≡ true) × (counted 4096 7 t.crosswalks ≡ true)))
unfolding counted_lines
counts t h =
    let l = counted 1024 52 t.lanes in
    let b = counted 4096 5 t.boundaries in
    let s = counted 512 4 t.stop_lines in
    let x = counted 128 7 t.crosswalks in
    let lbs = and-fst (l && b && s) x h in
    let lb = and-fst (l && b) s lbs in
    (and-fst l b lb, (and-snd l b lb, (counted-more 512 4096 4 t.stop_lines (omega arith) (and-snd (l && b) s lbs), counted-more 128 4096 7 t.crosswalks (omega arith) (and-snd (l && b && s) x h))))

-- ---- the walk

-- of all lines, from coordinates c₀ on, `rest` is left: it is laid from `at` on, over c
pub record Stage (work c₀ : List Float) (whole : List Span) (c : List Float) (at : ℕ) (rest : List Span) : Type 0 where
  pub floats : length c ≡ length c₀
  pub fits : all (within (length work / 3)) rest ≡ true
  pub room : (at + points_in rest) * 3 ≤ length c
  pub points : over c₀ 0 (line_floats work whole) ≡ over c (at * 3) (line_floats work rest)

pub stage-start : (work : List Float) (t : Tables) → Gatherable work t
    → Stage work t.coordinates (spans t) t.coordinates 0 (column_lines boundary_lines_of t.boundaries ++ centers-on t.lanes t.stop_lines t.crosswalks)
stage-start work t g =
    let e = spans-columns t in
    record { floats = refl; fits = rw e at g.fits; room = omega (arith, ap points_in e, g.room); points = rw e }

module _ (work c₀ : List Float) (whole : List Span) (c : List Float) (at : ℕ) where
  module _ (a rest : List Span) (s : Stage work c₀ whole c at (a ++ rest)) where
    both-fit : (all (within (length work / 3)) a && all (within (length work / 3)) rest) ≡ true
    both-fit = sym (all_split (within (length work / 3)) a rest) ∙ s.fits

    -- what the next column asks for
    pub stage-fits : all (within (length work / 3)) a ≡ true
    stage-fits = and-fst (all (within (length work / 3)) a) (all (within (length work / 3)) rest) both-fit

    pub stage-room : (at + points_in a) * 3 ≤ length c
    stage-room = omega (arith, s.room, total-append a rest)

    pub stage-step : (c₁ : List Float) (at₁ : ℕ) → at₁ ≡ at + points_in a → c₁ ≡ over c (at * 3) (line_floats work a) → Stage work c₀ whole c₁ at₁ rest
    stage-step c₁ at₁ p q =
        let l : length (line_floats work a) ≡ points_in a * 3 = length-laid work a stage-fits in
        let x : at * 3 + length (line_floats work a) ≡ at₁ * 3 = omega arith in
        let y : at * 3 + length (line_floats work a) ≤ length c = omega (arith, stage-room) in
        let n : length c₁ ≡ length c = ap length q ∙ length_over c (at * 3) (line_floats work a) y in
        record {
          floats = n ∙ s.floats;
          fits = and-snd (all (within (length work / 3)) a) (all (within (length work / 3)) rest) both-fit;
          room = omega (arith, s.room, total-append a rest);
          points = s.points ∙ rw (laid-append work a rest, q) (sym (over-over c (at * 3) (at₁ * 3) (line_floats work a) (line_floats work rest) x (omega arith)));
        }

-- ---- the whole

same_tables : (l l₁ b b₁ s s₁ x x₁ : List ℕ) (c c₁ : List Float) → l ≡ l₁ → b ≡ b₁ → s ≡ s₁ → x ≡ x₁ → c ≡ c₁ → line_tables l b s x c ≡ line_tables l₁ b₁ s₁ x₁ c₁
same_tables l l₁ b b₁ s s₁ x x₁ c c₁ p q r u v = cc

-- what the five calls leave is what the definition says
pub all-gathered : (work : List Float) (l b s x l₁ b₁ s₁ x₁ x₂ : List ℕ) (c c₁ : List Float) (a₁ a₂ a₃ a₄ : ℕ)
    → a₁ ≡ 0 + points_in (column_lines boundary_lines_of b) → b₁ ≡ laid_from 0 boundary_lines_of b
    → a₂ ≡ a₁ + points_in (column_lines centerlines l) → l₁ ≡ laid_from a₁ centerlines l
    → a₃ ≡ a₂ + points_in (column_lines stop_lines_of s) → s₁ ≡ laid_from a₂ stop_lines_of s
    → a₄ ≡ a₃ + points_in (column_lines left_edges_of x) → x₁ ≡ laid_from a₃ left_edges_of x → x₂ ≡ laid_from a₄ right_edges_of x₁
    → c₁ ≡ over c 0 (line_floats work (spans (line_tables l b s x c)))
    → line_tables l₁ b₁ s₁ x₂ c₁ ≡ gathered work (line_tables l b s x c)
unfolding gathered
all-gathered work l b s x l₁ b₁ s₁ x₁ x₂ c c₁ a₁ a₂ a₃ a₄ p₁ q₁ p₂ q₂ p₃ q₃ p₄ q₄ q₅ r =
    let centers = points_in (column_lines boundary_lines_of b) in
    let stops = centers + points_in (column_lines centerlines l) in
    let lefts = stops + points_in (column_lines stop_lines_of s) in
    let rights = lefts + points_in (column_lines left_edges_of x) in
    let e₁ : a₁ ≡ centers = omega arith in
    let e₂ : a₂ ≡ stops = omega arith in
    let e₃ : a₃ ≡ lefts = omega arith in
    let e₄ : a₄ ≡ rights = omega arith in
    same_tables l₁ (laid_from centers centerlines l) b₁ (laid_from 0 boundary_lines_of b) s₁ (laid_from stops stop_lines_of s) x₂ (laid_from rights right_edges_of (laid_from lefts left_edges_of x)) c₁ (over c 0 (line_floats work (spans (line_tables l b s x c))))
    (q₂ ∙ rw e₁) q₁ (q₃ ∙ rw e₂) (q₅ ∙ rw (e₄, q₄, e₃)) r

-- the right edges, after the left ones are laid out
pub rights-ready : (at : ℕ) (x x₁ : List ℕ) → x₁ ≡ laid_from at left_edges_of x → counted 4096 7 x ≡ true → (counted 4096 7 x₁ ≡ true) × (column_lines right_edges_of x₁ ≡ column_lines right_edges_of x)
rights-ready at x x₁ e h = rw e (counted-laid left_edges_of x at 4096 h, rights-kept 4096 at x h)

pub right-needs : (work c₀ : List Float) (whole : List Span) (c : List Float) (at : ℕ) (x x₁ : List ℕ) → column_lines right_edges_of x₁ ≡ column_lines right_edges_of x
    → Stage work c₀ whole c at (column_lines right_edges_of x)
    → (all (within (length work / 3)) (column_lines right_edges_of x₁) ≡ true) × ((at + points_in (column_lines right_edges_of x₁)) * 3 ≤ length c)
right-needs work c₀ whole c at x x₁ e s = rw e (s.fits, s.room)

pub right-last : (work c₀ : List Float) (whole : List Span) (c : List Float) (at : ℕ) (x x₁ : List ℕ) → column_lines right_edges_of x₁ ≡ column_lines right_edges_of x
    → Stage work c₀ whole c at (column_lines right_edges_of x) → (c₁ : List Float) → c₁ ≡ over c (at * 3) (line_floats work (column_lines right_edges_of x₁)) → c₁ ≡ over c₀ 0 (line_floats work whole)
right-last work c₀ whole c at x x₁ e s c₁ q = (rw e at q) ∙ sym s.points
