-- Where the lines lie after a layout: one after another from point 0, each within the store and apart from all others; and what a layout keeps
-- of the tables. Assumes nothing.
use mathlib.Core.Path.{◌≡◌, refl, sym, ap, ◌∙◌}
use mathlib.Core.Bool.{Bool, true, false, ◌||◌, cond, or-true}
use mathlib.Core.List.{List, [], ◌∷◌, ◌++◌}
use Prim.Native.Nat.{ℕ, zero, suc, ◌+◌, ◌*◌, ◌/◌, ◌≤◌, min}
use native.Mathlib.Nat.{add-zero, zero-add}
use native.Mathlib.Omega.{arith}
use lib.Dec.{eqb}
use lib.ListN.{length, get_or, set, take, drop, length-drop}
use lib.Seq.{get_or-set_same, get_or-set_other}
use lib.Ieee.{Float}
use borrow.Author.Tests.{le-leb}
use Rattle.lists.specs.Every.{all}
use Rattle.lists.proofs.Every.{all_nil, all_cons}
use Rattle.lists.proofs.Booleans.{and_both}
use Rattle.lists.proofs.Rows.{length_over}
use Rattle.tables.specs.View.{Tables, word, mark}
use Rattle.tables.specs.Formed.{Span, span_at, spans, counted, stored, clear, all_clear}
use Rattle.apart.proofs.Marks.{counted-facts}
use Rattle.layout.specs.Layout.{line_floats, points_in, Column, plain, centerlines, line_of, column_lines, moved, moves, laid_from, gathered, counted_lines, Gatherable, boundary_lines_of, stop_lines_of, left_edges_of, right_edges_of}
use Rattle.layout.proofs.Column.{lines_in, lines_in_lem, lines_more, lines_none, length-laid}
use Rattle.layout.proofs.Moves.{first-moved, others-moved, row-length, laid-count, laid-rows, counted-laid, rows-kept, rights-kept, plain_lines}
use Rattle.layout.proofs.Stages.{spans-columns, counts}

-- ---- lines that follow one another

-- the same lines, one after another from `at` on
unfoldable pub settled : ℕ → List Span → List Span
settled at [] = []
settled at (s ∷ ss) = record { start = at; size = s.size } ∷ settled (at + s.size) ss

pub settled-append : (at : ℕ) (a b : List Span) → settled at (a ++ b) ≡ settled at a ++ settled (at + points_in a) b
unfolding settled points_in
settled-append at [] b = rw add-zero
settled-append at (s ∷ a) b =
    let e : at + s.size + points_in a ≡ at + (s.size + points_in a) = omega arith in
    rw (settled-append (at + s.size) a b, e)

pub total-settled : (at : ℕ) (ss : List Span) → points_in (settled at ss) ≡ points_in ss
unfolding settled points_in
total-settled at [] = refl
total-settled at (s ∷ ss) = rw (total-settled (at + s.size) ss)

-- they are apart
behind : (s : Span) (at : ℕ) (ss : List Span) → s.start + s.size ≤ at → all (clear s) (settled at ss) ≡ true
unfolding settled
behind s at [] h = all_nil (clear s)
behind s at (t ∷ ss) h =
    let a = eqb s.size 0 || eqb t.size 0 in
    let c : clear s (record { start = at; size = t.size }) ≡ true = rw (le-leb (s.start + s.size) at h, or-true a) in
    all_cons (clear s) (record { start = at; size = t.size }) (settled (at + t.size) ss) c (behind s (at + t.size) ss (omega arith))

pub settled-clear : (at : ℕ) (ss : List Span) → all_clear (settled at ss) ≡ true
unfolding settled all_clear
settled-clear at [] = refl
settled-clear at (s ∷ ss) =
    let l : at + s.size ≤ at + s.size = omega arith in
    and_both (all (clear (record { start = at; size = s.size })) (settled (at + s.size) ss)) (all_clear (settled (at + s.size) ss))
    (behind (record { start = at; size = s.size }) (at + s.size) ss l) (settled-clear (at + s.size) ss)

-- and among the points stored
pub settled-stored : (c : List Float) (at : ℕ) (ss : List Span) → at + points_in ss ≤ min 65536 (length c / 3) → all (stored c) (settled at ss) ≡ true
unfolding settled points_in
settled-stored c at [] h = all_nil (stored c)
settled-stored c at (s ∷ ss) h =
    let m = min 65536 (length c / 3) in
    let l : at + s.size ≤ m = omega arith in
    let e : stored c (record { start = at; size = s.size }) ≡ true = rw (le-leb (at + s.size) m l) (or-true (eqb s.size 0)) in
    all_cons (stored c) (record { start = at; size = s.size }) (settled (at + s.size) ss) e (settled-stored c (at + s.size) ss (omega arith))

-- ---- the lines of a column that is laid out

module _ (k : Column) (row : (at : ℕ) (r : List ℕ) → length r ≡ k.words → line_of k (moved k at r) ≡ settled at (line_of k r)) where
  in_moves : (n at : ℕ) (w : List ℕ) → n * k.words ≤ length w → lines_in k n (moves k n at w) ≡ settled at (lines_in k n w)
  in_moves zero at w h = rw (lines_none k (moves k 0 at w), lines_none k w) (unfold settled in refl)
  in_moves (suc n) at w h =
      let p : k.words ≤ length w = omega arith in
      let l : n * k.words ≤ length (drop k.words w) = rw length-drop (omega arith) in
      let r = take k.words w in
      lines_more k n (moves k (suc n) at w)
      ∙ rw (first-moved k n at w p, others-moved k n at w p, row at r (row-length k w p), in_moves n (at + points_in (line_of k r)) (drop k.words w) l, lines_more k n w)
      (sym (settled-append at (line_of k r) (lines_in k n (drop k.words w))))

  lines-laid : (most at : ℕ) (t : List ℕ) → counted most k.words t ≡ true → column_lines k (laid_from at k t) ≡ settled at (column_lines k t)
  lines-laid most at t h =
      let c = counted-facts most k.words t h in
      lines_in_lem k (laid_from at k t) ∙ rw (laid-count k t at c.0, laid-rows k t at c.0, lines_in_lem k t) (in_moves (word 0 t) at (drop 1 t) (rw length-drop (omega arith)))

plain_row : (s j at : ℕ) (r : List ℕ) → j + 2 ≤ s → length r ≡ s → line_of (plain s j) (moved (plain s j) at r) ≡ settled at (line_of (plain s j) r)
unfolding settled
plain_row s j at r h l =
    let a : get_or (set r j at) j 0 ≡ at = get_or-set_same r j at 0 (omega arith) in
    let b : get_or (set r j at) (suc j) 0 ≡ get_or r (suc j) 0 = get_or-set_other r j (suc j) at 0 (λ e. omega arith) in
    rw (a, b)

center_row : (at : ℕ) (r : List ℕ) → length r ≡ 52 → line_of centerlines (moved centerlines at r) ≡ settled at (line_of centerlines r)
unfolding settled
center_row at r l = go (mark 6 r) refl
  where
    kept : mark 6 (set r 7 at) ≡ mark 6 r
    kept = rw (get_or-set_other r 7 6 at 0 (λ e. omega arith))

    here : get_or (set r 7 at) 7 0 ≡ at
    here = get_or-set_same r 7 at 0 (omega arith)

    size : get_or (set r 7 at) 8 0 ≡ get_or r 8 0
    size = get_or-set_other r 7 8 at 0 (λ e. omega arith)

    go : (b : Bool) → mark 6 r ≡ b → line_of centerlines (cond b (set r 7 at) r) ≡ settled at (cond b (span_at 7 r ∷ []) [])
    go true e = rw (kept, e, here, size) (unfold settled in refl)
    go false e = rw e (unfold settled in refl)

-- the left edges stay where they are when the right ones are laid out
left-kept : (at : ℕ) (r : List ℕ) → length r ≡ 7 → span_at 1 (set r 3 at) ≡ span_at 1 r
left-kept at [] h = absurd (omega arith)
left-kept at (x ∷ []) h = absurd (omega arith)
left-kept at (x ∷ y ∷ []) h = absurd (omega arith)
left-kept at (x ∷ y ∷ z ∷ r) h = refl

lefts-kept : (most at : ℕ) (t : List ℕ) → counted most 7 t ≡ true → column_lines left_edges_of (laid_from at right_edges_of t) ≡ column_lines left_edges_of t
lefts-kept most at t h = plain_lines 7 1 (laid_from at right_edges_of t) ∙ rows-kept right_edges_of (span_at 1) left-kept most at t h ∙ sym (plain_lines 7 1 t)

-- ---- all lines

-- THE LAW: all lines lie one after another from point 0 on
pub gathered-spans : (w : List Float) (t : Tables) → counted_lines t ≡ true → spans (gathered w t) ≡ settled 0 (spans t)
unfolding gathered
gathered-spans w t g =
    let n = counts t g in
    let b = t.boundaries in
    let x = t.crosswalks in
    let bs = column_lines boundary_lines_of b in
    let cs = column_lines centerlines t.lanes in
    let ss = column_lines stop_lines_of t.stop_lines in
    let ls = column_lines left_edges_of x in
    let rs = column_lines right_edges_of x in
    let i = points_in bs + points_in cs in
    let j = i + points_in ss in
    let y = laid_from j left_edges_of x in
    let ny = counted-laid left_edges_of x j 4096 n.1.1.1 in
    let eb = lines-laid boundary_lines_of (λ a r l. plain_row 5 2 a r (omega arith) l) 4096 0 b n.1.0 in
    let ec = lines-laid centerlines center_row 1024 (points_in bs) t.lanes n.0 in
    let es = lines-laid stop_lines_of (λ a r l. plain_row 4 1 a r (omega arith) l) 4096 i t.stop_lines n.1.1.0 in
    let el = lefts-kept 4096 (j + points_in ls) y ny ∙ lines-laid left_edges_of (λ a r l. plain_row 7 1 a r (omega arith) l) 4096 j x n.1.1.1 in
    let er : column_lines right_edges_of (laid_from (j + points_in ls) right_edges_of y) ≡ settled (j + points_in ls) rs =
    lines-laid right_edges_of (λ a r l. plain_row 7 3 a r (omega arith) l) 4096 (j + points_in ls) y ny ∙ ap (settled (j + points_in ls)) (rights-kept 4096 j x n.1.1.1) in
    spans-columns (gathered w t)
    ∙ joined eb ec es el er
    ∙ sym (cut bs cs ss ls rs)
    ∙ ap (settled 0) (sym (spans-columns t))
  where
    joined : {b c s l r b₁ c₁ s₁ l₁ r₁ : List Span} → b ≡ b₁ → c ≡ c₁ → s ≡ s₁ → l ≡ l₁ → r ≡ r₁ → b ++ (c ++ (s ++ (l ++ r))) ≡ b₁ ++ (c₁ ++ (s₁ ++ (l₁ ++ r₁)))
    joined p q u v x = cc

    cut : (b c s l r : List Span) → settled 0 (b ++ (c ++ (s ++ (l ++ r))))
        ≡ settled 0 b ++ (settled (points_in b) c ++ (settled (points_in b + points_in c) s ++ (settled (points_in b + points_in c + points_in s) l ++ settled (points_in b + points_in c + points_in s + points_in l) r)))
    cut b c s l r =
        rw (
          settled-append 0 b (c ++ (s ++ (l ++ r))),
          zero-add (points_in b),
          settled-append (points_in b) c (s ++ (l ++ r)),
          settled-append (points_in b + points_in c) s (l ++ r),
          settled-append (points_in b + points_in c + points_in s) l r,
        )

module _ (w : List Float) (t : Tables) (g : Gatherable w t) where
  fits : 0 + length (line_floats w (spans t)) ≤ length t.coordinates
  fits = omega (arith, length-laid w (spans t) g.fits, g.room)

  pub length-gathered : length (gathered w t).coordinates ≡ length t.coordinates
  unfolding gathered
  length-gathered = length_over t.coordinates 0 (line_floats w (spans t)) fits

  -- no stored point belongs to two lines
  pub gathered-clear : all_clear (spans (gathered w t)) ≡ true
  gathered-clear = rw (gathered-spans w t g.counts) (settled-clear 0 (spans t))

  -- each line's points lie among those stored
  pub gathered-stored : points_in (spans t) ≤ 65536 → all (stored (gathered w t).coordinates) (spans (gathered w t)) ≡ true
  gathered-stored h =
      let l : 0 + points_in (spans t) ≤ min 65536 (length (gathered w t).coordinates / 3) = omega (arith, length-gathered, g.room) in
      rw (gathered-spans w t g.counts) (settled-stored (gathered w t).coordinates 0 (spans t) l)

  pub gathered-total : points_in (spans (gathered w t)) ≡ points_in (spans t)
  gathered-total = rw (gathered-spans w t g.counts) (total-settled 0 (spans t))
