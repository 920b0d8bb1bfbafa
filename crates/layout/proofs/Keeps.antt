-- What a layout keeps of the tables: counts, lengths, marks; so that tables laid out are formed. Assumes nothing.
use mathlib.Core.Path.{◌≡◌, refl, ◌∙◌}
use mathlib.Core.Bool.{Bool, true, false, ◌&&◌, cond}
use mathlib.Core.List.{List}
use Prim.Native.Nat.{ℕ, ◌≤◌}
use native.Mathlib.Omega.{arith}
use lib.Dec.{leb}
use lib.ListN.{length, get_or, set}
use lib.Seq.{get_or-set_other}
use lib.Ieee.{Float}
use Rattle.lists.specs.Every.{all}
use Rattle.tables.specs.View.{Tables, word, mark, rows}
use Rattle.tables.specs.Formed.{spans, counted, stored, all_clear, lane_formed, rule_formed, formed}
use Rattle.apart.proofs.Marks.{counted-facts}
use Rattle.layout.specs.Layout.{points_in, Column, centerlines, moved, laid_from, gathered, counted_lines, Gatherable, boundary_lines_of, stop_lines_of, left_edges_of, right_edges_of}
use Rattle.layout.proofs.Moves.{laid-count, length-laid-table, counted-laid, rows-kept}
use Rattle.layout.proofs.Stages.{counts}
use Rattle.layout.proofs.Spans.{gathered-clear, gathered-stored}

-- ---- counts and lengths

pub record Kept (a b : List ℕ) : Type 0 where
  pub count : word 0 a ≡ word 0 b
  pub long : length a ≡ length b

kept-laid : (k : Column) (most at : ℕ) (t : List ℕ) → counted most k.words t ≡ true → Kept (laid_from at k t) t
kept-laid k most at t h = let f = counted-facts most k.words t h in record { count = laid-count k t at f.0; long = length-laid-table k t at f.1.1 }

kept-twice : (a b c : List ℕ) → Kept a b → Kept b c → Kept a c
kept-twice a b c p q = record { count = p.count ∙ q.count; long = p.long ∙ q.long }

kept-counted : (most s : ℕ) (a b : List ℕ) → Kept a b → counted most s a ≡ counted most s b
kept-counted most s a b p = rw (p.count, p.long)

module _ (w : List Float) (t : Tables) (h : counted_lines t ≡ true) where
  pub lanes-kept : Kept (gathered w t).lanes t.lanes
  unfolding gathered
  lanes-kept = kept-laid centerlines 1024 _ t.lanes (counts t h).0

  pub boundaries-kept : Kept (gathered w t).boundaries t.boundaries
  unfolding gathered
  boundaries-kept = kept-laid boundary_lines_of 4096 0 t.boundaries (counts t h).1.0

  pub stop-lines-kept : Kept (gathered w t).stop_lines t.stop_lines
  unfolding gathered
  stop-lines-kept = kept-laid stop_lines_of 4096 _ t.stop_lines (counts t h).1.1.0

  pub crosswalks-kept : Kept (gathered w t).crosswalks t.crosswalks
  unfolding gathered
  crosswalks-kept = twice _ _
    where
      twice : (i j : ℕ) → Kept (laid_from i right_edges_of (laid_from j left_edges_of t.crosswalks)) t.crosswalks
      twice i j =
          let n = (counts t h).1.1.1 in
          let y = laid_from j left_edges_of t.crosswalks in
          kept-twice (laid_from i right_edges_of y) y t.crosswalks (kept-laid right_edges_of 4096 i y (counted-laid left_edges_of t.crosswalks j 4096 n)) (kept-laid left_edges_of 4096 j t.crosswalks n)

-- ---- marks and counts within rows

lane-kept : (at : ℕ) (r : List ℕ) → length r ≡ 52 → lane_formed (moved centerlines at r) ≡ lane_formed r
lane-kept at r l = go (mark 6 r)
  where
    o : (j : ℕ) → (j ≡ 7 → ⊥) → get_or (set r 7 at) j 0 ≡ get_or r j 0
    o j n = get_or-set_other r 7 j at 0 n

    go : (b : Bool) → lane_formed (cond b (set r 7 at) r) ≡ lane_formed r
    go true =
        unfold lane_formed in
        rw (
          o 3 (λ e. omega arith),
          o 5 (λ e. omega arith),
          o 6 (λ e. omega arith),
          o 9 (λ e. omega arith),
          o 11 (λ e. omega arith),
          o 14 (λ e. omega arith),
          o 16 (λ e. omega arith),
          o 18 (λ e. omega arith),
          o 35 (λ e. omega arith),
        )
    go false = refl

-- ---- formed tables

-- all that `formed` says but for its lines
unfoldable pub rows_formed : Tables → Bool
rows_formed t =
    counted 1024 52 t.lanes
    && counted 4096 5 t.boundaries
    && counted 256 68 t.roads
    && counted 256 69 t.junctions
    && counted 512 330 t.rules
    && counted 512 4 t.stop_lines
    && counted 128 7 t.crosswalks
    && all (λ b. b) (rows 52 lane_formed t.lanes)
    && all (λ w. w) (rows 68 (λ w. leb (word 3 w) 64) t.roads)
    && all (λ w. w) (rows 69 (λ w. leb (word 4 w) 64) t.junctions)
    && all (λ w. w) (rows 330 rule_formed t.rules)

pub formed-is : (t : Tables) → formed t ≡ (rows_formed t && all (stored t.coordinates) (spans t) && all_clear (spans t))
unfolding formed rows_formed
formed-is t = refl

same_rows : (w : List Float) (t : Tables) → counted_lines t ≡ true → rows 52 lane_formed (gathered w t).lanes ≡ rows 52 lane_formed t.lanes
unfolding gathered
same_rows w t h = rows-kept centerlines lane_formed lane-kept 1024 _ t.lanes (counts t h).0

pub rows-formed : (w : List Float) (t : Tables) → counted_lines t ≡ true → rows_formed (gathered w t) ≡ rows_formed t
rows-formed w t h =
    let l = kept-counted 1024 52 (gathered w t).lanes t.lanes (lanes-kept w t h) in
    let b = kept-counted 4096 5 (gathered w t).boundaries t.boundaries (boundaries-kept w t h) in
    let s = kept-counted 512 4 (gathered w t).stop_lines t.stop_lines (stop-lines-kept w t h) in
    let x = kept-counted 128 7 (gathered w t).crosswalks t.crosswalks (crosswalks-kept w t h) in
    go (same-roads t) (same-junctions t) (same-rules t) l b s x (same_rows w t h)
  where
    same-roads : (t : Tables) → (gathered w t).roads ≡ t.roads
    same-roads t = unfold gathered in refl

    same-junctions : (t : Tables) → (gathered w t).junctions ≡ t.junctions
    same-junctions t = unfold gathered in refl

    same-rules : (t : Tables) → (gathered w t).rules ≡ t.rules
    same-rules t = unfold gathered in refl

    go : (gathered w t).roads ≡ t.roads → (gathered w t).junctions ≡ t.junctions → (gathered w t).rules ≡ t.rules
        → counted 1024 52 (gathered w t).lanes ≡ counted 1024 52 t.lanes → counted 4096 5 (gathered w t).boundaries ≡ counted 4096 5 t.boundaries
        → counted 512 4 (gathered w t).stop_lines ≡ counted 512 4 t.stop_lines → counted 128 7 (gathered w t).crosswalks ≡ counted 128 7 t.crosswalks
        → rows 52 lane_formed (gathered w t).lanes ≡ rows 52 lane_formed t.lanes → rows_formed (gathered w t) ≡ rows_formed t
    go p q r l b s x f = unfold rows_formed in rw (l, b, s, x, f, p, q, r)

-- THE LAW: tables laid out are formed, if their rows are and no more than 65,536 points are laid out
pub gathered-formed : (w : List Float) (t : Tables) → Gatherable w t → points_in (spans t) ≤ 65536 → rows_formed t ≡ true → formed (gathered w t) ≡ true
gathered-formed w t g h r =
    formed-is (gathered w t) ∙ rw (rows-formed w t g.counts, r, gathered-stored w t g h, gathered-clear w t g)
