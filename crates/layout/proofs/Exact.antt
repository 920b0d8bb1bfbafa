-- How many points lines have, read from the rows: on stored lines as many as the records' lines. Column by column, and in all. Assumes nothing.
use Rattle.std.specs.Prelude.{None, Some}
use mathlib.Core.Path.{◌≡◌, refl, sym, ap, ◌∙◌}
use Prim.Native.Nat.{ℕ, zero, suc, ◌+◌}
use native.Mathlib.Omega.{arith}
use mathlib.Core.Bool.{Bool, true, false, cond}
use mathlib.Core.List.{List, [], ◌∷◌, ◌++◌, map}
use lib.Ieee.{Float}
use lib.ListN.{take, drop}
use Rattle.lists.specs.Every.{all}
use Rattle.lists.specs.Rows.{reads}
use Rattle.lists.specs.Select.{each}
use Rattle.lists.proofs.Every.{all_head, all_tail}
use Rattle.entities.specs.Records.{Line, Boundary, StopLine, Crosswalk}
use Rattle.rules.specs.Sound.{optional_line, point_count}
use Rattle.rules.specs.Sound as S
use Rattle.tables.specs.View.{Tables, word, mark, line_at, rows, view, lane_of, boundary_of, stop_line_of, crosswalk_of}
use Rattle.tables.specs.Formed.{Span, span_at, center_span, spans, stored}
use Rattle.store.specs.Laid.{points_of}
use Rattle.store.proofs.LaidRows.{points-append}
use Rattle.store.proofs.LaidTables.{each-one}
use Rattle.layout.specs.Layout.{points_in, Column, line_of, column_lines, boundary_lines_of, centerlines, stop_lines_of, left_edges_of, right_edges_of}
use Rattle.layout.proofs.Column.{total-append, lines_in, lines_in_lem, lines_more, lines_none}
use Rattle.layout.proofs.Stages.{spans-columns}
use Rattle.layout.proofs.Standing.{spans_rowwise, line-long}

-- ---- a column

-- every row that passes has a line of as many points as its record's
module _ {R : Type 0} (k : Column) (dec : List ℕ → R) (line : R → List Line) (good : List ℕ → Bool) (same : (w : List ℕ) → good w ≡ true → points_in (line_of k w) ≡ points_of (line (dec w))) where
  in_points : (n : ℕ) (w : List ℕ) → all (λ b. b) (reads k.words good n w) ≡ true → points_in (lines_in k n w) ≡ points_of (each line (reads k.words dec n w))
  unfolding reads each
  in_points zero w a = ap points_in (lines_none k w) ∙ (unfold points_in S.total in refl)
  in_points (suc n) w a =
      let r = take k.words w in
      let rest = drop k.words w in
      let e = same r (all_head (λ b. b) (good r) (reads k.words good n rest) a) in
      let i = in_points n rest (all_tail (λ b. b) (good r) (reads k.words good n rest) a) in
      ap points_in (lines_more k n w)
      ∙ (total-append (line_of k r) (lines_in k n rest)
      ∙ (ap (λ m. m + points_in (lines_in k n rest)) e ∙ (ap (λ m. points_of (line (dec r)) + m) i ∙ sym (points-append (line (dec r)) (each line (reads k.words dec n rest))))))

  pub column-points : (t : List ℕ) → all (λ b. b) (rows k.words good t) ≡ true → points_in (column_lines k t) ≡ points_of (each line (rows k.words dec t))
  unfolding rows
  column-points t a = ap points_in (lines_in_lem k t) ∙ in_points (word 0 t) (drop 1 t) a

-- ---- one line

-- a stored line, alone
line-points : (c : List Float) (k : ℕ) (w : List ℕ) → stored c (span_at k w) ≡ true → points_in (span_at k w ∷ []) ≡ points_of (line_at c k w ∷ [])
unfolding points_in S.total
line-points c k w h = ap (λ n. n + 0) (sym (line-long c (span_at k w) h))

center_line-points : (c : List Float) (w : List ℕ) (b : Bool) → all (stored c) (cond b (span_at 7 w ∷ []) []) ≡ true
    → points_in (cond b (span_at 7 w ∷ []) []) ≡ points_of (optional_line (cond b (Some (line_at c 7 w)) None))
center_line-points c w true h = line-points c 7 w (all_head (stored c) (span_at 7 w) [] h)
center_line-points c w false h = unfold points_in S.total in refl

-- ---- the columns

module _ (c : List Float) (t : List ℕ) where
  pub boundary-points : all (λ b. b) (rows 5 (λ w. stored c (span_at 2 w)) t) ≡ true → points_in (column_lines boundary_lines_of t) ≡ points_of (map (λ b. b.geometry) (rows 5 (boundary_of c) t))
  unfolding boundary_of
  boundary-points a =
      column-points boundary_lines_of (boundary_of c) (λ b. b.geometry ∷ []) (λ w. stored c (span_at 2 w)) (line-points c 2) t a ∙ ap points_of (each-one (λ (b : Boundary). b.geometry) (rows 5 (boundary_of c) t))

  pub center_points : all (λ b. b) (rows 52 (λ w. all (stored c) (center_span w)) t) ≡ true
      → points_in (column_lines centerlines t) ≡ points_of (each (λ l. optional_line l.centerline) (rows 52 (lane_of c) t))
  unfolding lane_of
  center_points a = column-points centerlines (lane_of c) (λ l. optional_line l.centerline) (λ w. all (stored c) (center_span w)) (λ w. center_line-points c w (mark 6 w)) t a

  pub stop-points : all (λ b. b) (rows 4 (λ w. stored c (span_at 1 w)) t) ≡ true → points_in (column_lines stop_lines_of t) ≡ points_of (map (λ s. s.geometry) (rows 4 (stop_line_of c) t))
  unfolding stop_line_of
  stop-points a =
      column-points stop_lines_of (stop_line_of c) (λ s. s.geometry ∷ []) (λ w. stored c (span_at 1 w)) (line-points c 1) t a ∙ ap points_of (each-one (λ (s : StopLine). s.geometry) (rows 4 (stop_line_of c) t))

  pub left-points : all (λ b. b) (rows 7 (λ w. stored c (span_at 1 w)) t) ≡ true → points_in (column_lines left_edges_of t) ≡ points_of (map (λ x. x.left_edge) (rows 7 (crosswalk_of c) t))
  unfolding crosswalk_of
  left-points a =
      column-points left_edges_of (crosswalk_of c) (λ x. x.left_edge ∷ []) (λ w. stored c (span_at 1 w)) (line-points c 1) t a ∙ ap points_of (each-one (λ (x : Crosswalk). x.left_edge) (rows 7 (crosswalk_of c) t))

  pub right-points : all (λ b. b) (rows 7 (λ w. stored c (span_at 3 w)) t) ≡ true → points_in (column_lines right_edges_of t) ≡ points_of (map (λ x. x.right_edge) (rows 7 (crosswalk_of c) t))
  unfolding crosswalk_of
  right-points a =
      column-points right_edges_of (crosswalk_of c) (λ x. x.right_edge ∷ []) (λ w. stored c (span_at 3 w)) (line-points c 3) t a ∙ ap points_of (each-one (λ (x : Crosswalk). x.right_edge) (rows 7 (crosswalk_of c) t))

-- ---- all lines

spans-total : (a b c d e : List Span) → points_in (a ++ (b ++ (c ++ (d ++ e)))) ≡ points_in a + (points_in b + (points_in c + (points_in d + points_in e)))
spans-total a b c d e = omega (arith, total-append a (b ++ (c ++ (d ++ e))), total-append b (c ++ (d ++ e)), total-append c (d ++ e), total-append d e)

lines-total : (a b c d e : List Line) → points_of (a ++ (b ++ (c ++ (d ++ e)))) ≡ points_of a + (points_of b + (points_of c + (points_of d + points_of e)))
lines-total a b c d e = omega (arith, points-append a (b ++ (c ++ (d ++ e))), points-append b (c ++ (d ++ e)), points-append c (d ++ e), points-append d e)

-- THE LAW: as many points as the map has
pub points-exact : (t : Tables) → all (stored t.coordinates) (spans t) ≡ true → points_in (spans t) ≡ point_count (view t)
unfolding view S.lines
points-exact t h =
    let c = t.coordinates in
    let r = spans_rowwise (stored c) t h in
    let x = spans-total (column_lines boundary_lines_of t.boundaries) (column_lines centerlines t.lanes) (column_lines stop_lines_of t.stop_lines) (column_lines left_edges_of t.crosswalks) (column_lines right_edges_of t.crosswalks) in
    let y = lines-total (map (λ b. b.geometry) (rows 5 (boundary_of c) t.boundaries)) (each (λ l. optional_line l.centerline) (rows 52 (lane_of c) t.lanes)) (map (λ s. s.geometry) (rows 4 (stop_line_of c) t.stop_lines))
    (map (λ x. x.left_edge) (rows 7 (crosswalk_of c) t.crosswalks)) (map (λ x. x.right_edge) (rows 7 (crosswalk_of c) t.crosswalks)) in
    ap points_in (spans-columns t)
    ∙ (x ∙ (rw (boundary-points c t.boundaries r.boundaries, center_points c t.lanes r.centerlines, stop-points c t.stop_lines r.stop_lines, left-points c t.crosswalks r.left_edges, right-points c t.crosswalks r.right_edges) (sym y)))
