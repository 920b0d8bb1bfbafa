-- The tables with lines after a split, put together from what each step leaves. Assumes nothing.
use mathlib.Core.Path.{◌≡◌, refl, sym, ap, ◌∙◌}
use mathlib.Core.Bool.{Bool, true, false, ◌&&◌, true≢false}
use mathlib.Core.List.{List}
use Prim.Native.Nat.{ℕ, ◌+◌, ◌*◌, ◌≤◌, ◌<◌}
use native.Mathlib.Omega.{arith}
use lib.Ieee.{Float}
use lib.ListN.{length}
use lib.Dec.{leb}
use borrow.Author.Tests.{lt-ltb, le-ltb, leb-true, leb-false}
use Rattle.geometry.proofs.Both.{left, right}
use Rattle.lists.specs.Rows.{over}
use Rattle.polyline.specs.Polyline.{flat}
use Rattle.tables.specs.View.{Tables}
use Rattle.tables.specs.Columns.{boundary_start, boundary_words, lane_centerline_start, lane_words}
use Rattle.layout.specs.Layout.{line_tables, sourced, gathered}
use Rattle.in_place.specs.Settle.{Layable}
use Rattle.split_lines.specs.Cut.{Drawable, drawn_pieces}
use Rattle.split_tables.specs.Cut.{boundaries_cut, lanes_cut}
use Rattle.split_relay.specs.Relaying.{Cutting, boundary_lines_of, center_lines_of, drawn_lines, cut_tables, relaid, work_floats, blank, Relayable, Room}

module _ (k : Cutting) (lanes boundaries stops crosswalks : List ℕ) (c work : List Float)
    (h : Relayable k (line_tables lanes boundaries stops crosswalks c)) (r : Room k (line_tables lanes boundaries stops crosswalks c) work) where
  abbrev before : Tables
  before = line_tables lanes boundaries stops crosswalks c

  -- the pieces of the boundaries, and of the centrelines
  abbrev sides : List Float
  sides = flat (drawn_pieces k.point (boundary_lines_of k before))

  abbrev middles : List Float
  middles = flat (drawn_pieces k.point (center_lines_of k before))

  pub first-asks : Drawable c boundary_words boundary_start false k.marks boundaries k.point 0 work
  first-asks = record { table = h.boundary_lines; room = omega (arith, r.room) }

  module _ (n : ℕ) (w1 : List Float) (e1 : (n ≡ 0 + length (drawn_pieces k.point (boundary_lines_of k before))) × (w1 ≡ over work (0 * 3) sides)) (same1 : length w1 ≡ length work) where
    pub second-asks : Drawable c lane_words lane_centerline_start true k.seen lanes k.point n w1
    second-asks = record { table = h.lane_lines; room = omega (arith, r.room, e1.0) }

    module _ (w2 : List Float) (e2 : w2 ≡ over w1 (n * 3) middles) (same2 : length w2 ≡ length w1) (b : List ℕ) (be : b ≡ boundaries_cut k.pieces k.many k.lines k.marks boundaries)
        (l : List ℕ) (le : l ≡ lanes_cut k.pieces k.many k.cut k.next k.centers k.seen lanes) where
      drawn-are : w2 ≡ drawn_lines k before work
      unfolding drawn_lines
      drawn-are =
          let e : n ≡ length (drawn_pieces k.point (boundary_lines_of k before)) = omega (arith, e1.0) in
          e2 ∙ (ap (λ z. over z (n * 3) middles) e1.1 ∙ ap (λ z. over (over work 0 sides) (z * 3) middles) e)

      tables-are : line_tables l b stops crosswalks c ≡ cut_tables k before
      unfolding cut_tables
      tables-are = rw (le, be)

      pub lay-asks : Layable k.reach w2 (line_tables l b stops crosswalks c)
      lay-asks = record { near = h.near; stored = h.stored; few = omega (arith, r.few); gatherable = rw (drawn-are, tables-are) (h.gatherable work r) }

      pub all-relaid : (x : Tables) → x ≡ gathered (sourced k.reach c w2) (line_tables l b stops crosswalks c) → x ≡ relaid k work before
      unfolding relaid
      all-relaid x e = e ∙ (ap (λ z. gathered (sourced k.reach c z) (line_tables l b stops crosswalks c)) drawn-are ∙ ap (gathered (sourced k.reach c (drawn_lines k before work))) tables-are)

-- ---- which array of work is taken

-- what the test of the small array tells
pub few-lanes : (lanes points : ℕ) → (leb lanes 64 && leb points 2048) ≡ true → lanes ≤ 64
few-lanes lanes points h = leb-true lanes 64 (left (leb lanes 64) (leb points 2048) h)

pub few-points : (lanes points : ℕ) → (leb lanes 64 && leb points 2048) ≡ true → points ≤ 2048
few-points lanes points h = leb-true points 2048 (right (leb lanes 64) (leb points 2048) h)

module _ (k : Cutting) (t x : Tables) (n : ℕ) (e : x ≡ relaid k (blank n) t) (lanes points : ℕ) where
  with-work : work_floats lanes points ≡ n → x ≡ relaid k (blank (work_floats lanes points)) t
  with-work w = e ∙ ap (λ z. relaid k (blank z) t) (sym w)

  pub many-relaid : n ≡ 196608 → 64 < lanes → x ≡ relaid k (blank (work_floats lanes points)) t
  many-relaid i h = with-work (rw (i, lt-ltb 64 lanes h))

  pub long-relaid : n ≡ 196608 → lanes ≤ 64 → 2048 < points → x ≡ relaid k (blank (work_floats lanes points)) t
  long-relaid i g h = with-work (rw (i, le-ltb 64 lanes g, lt-ltb 2048 points h))

  pub small-relaid : n ≡ 6144 → lanes ≤ 64 → points ≤ 2048 → x ≡ relaid k (blank (work_floats lanes points)) t
  small-relaid i g h = with-work (rw (i, le-ltb 64 lanes g, le-ltb 2048 points h))

  -- the larger array for whatever is not small
  pub large-relaid : n ≡ 196608 → (leb lanes 64 && leb points 2048) ≡ false → x ≡ relaid k (blank (work_floats lanes points)) t
  large-relaid i h = go (leb lanes 64) (leb points 2048) refl refl h
    where
      go : (a b : Bool) → leb lanes 64 ≡ a → leb points 2048 ≡ b → (a && b) ≡ false → x ≡ relaid k (blank (work_floats lanes points)) t
      go false b p q e = many-relaid i (leb-false lanes 64 p)
      go true false p q e = long-relaid i (leb-true lanes 64 p) (leb-false points 2048 q)
      go true true p q e = absurd (true≢false e)
