-- The second area: what was copied to its front comes back from there, and the area stays as long as it was. Assumes nothing.
use mathlib.Core.Path.{◌≡◌, refl, sym, ap, ◌∙◌}
use mathlib.Core.Bool.{Bool, true, ◌&&◌}
use mathlib.Core.List.{List}
use Prim.Native.Nat.{ℕ, ◌+◌, ◌≤◌}
use native.Mathlib.Omega.{arith}
use lib.Dec.{leb}
use lib.ListN.{length, take, drop, get_or}
use lib.Seq.{take_at}
use Rattle.lists.specs.Rows.{over}
use Rattle.lists.proofs.Rows.{length_over}
use Rattle.tables.specs.View.{Tables}
use Rattle.step.specs.Run.{lengths_of}
use Rattle.area.specs.Area.{area_fits, copied, put_back}
use Rattle.area.proofs.Lengths.{fits-of}

-- ---- one slice

module _ {A : Type 0} (w l : List A) where
  -- what was written over its front, cut off
  pub front-back : (n : ℕ) → n ≡ length l → take n (over w 0 l) ≡ l
  unfolding over
  front-back n e = take_at l (drop (0 + length l) w) n (sym e)

  pub front_length : length l ≤ length w → length (over w 0 l) ≡ length w
  front_length h = length_over w 0 l (omega arith)

-- ---- the area

-- of the tables and of the area lengths alone are tested
fits_by : List ℕ → List ℕ → Bool
fits_by ns ms =
    leb (get_or ns 0 0) (get_or ms 0 0)
    && leb (get_or ns 1 0) (get_or ms 1 0)
    && leb (get_or ns 2 0) (get_or ms 2 0)
    && leb (get_or ns 3 0) (get_or ms 3 0)
    && leb (get_or ns 4 0) (get_or ms 4 0)
    && leb (get_or ns 5 0) (get_or ms 5 0)
    && leb (get_or ns 6 0) (get_or ms 6 0)
    && leb (get_or ns 7 0) (get_or ms 7 0)

pub area_same : (t u a b : Tables) → lengths_of u ≡ lengths_of t → lengths_of b ≡ lengths_of a → area_fits u b ≡ area_fits t a
unfolding area_fits fits_by
area_same t u a b e f = ap (λ ns. fits_by ns (lengths_of b)) e ∙ ap (fits_by (lengths_of t)) f

module _ (t area : Tables) where
  pub copied-lengths : area_fits t area ≡ true → lengths_of (copied t area) ≡ lengths_of area
  unfolding copied
  copied-lengths h =
      let f = fits-of t area h in
      rw (
        front_length area.lanes t.lanes f.lanes_fit,
        front_length area.boundaries t.boundaries f.boundaries_fit,
        front_length area.roads t.roads f.roads-fit,
        front_length area.junctions t.junctions f.junctions-fit,
        front_length area.rules t.rules f.rules-fit,
        front_length area.stop_lines t.stop_lines f.stop-lines-fit,
        front_length area.crosswalks t.crosswalks f.crosswalks-fit,
        front_length area.coordinates t.coordinates f.coordinates-fit,
      )

  -- for slices as long as those that were copied
  module _ (u : Tables) (e : lengths_of u ≡ lengths_of t) where
    pub copied-fits : area_fits t area ≡ true → area_fits u (copied t area) ≡ true
    copied-fits h = area_same t u area (copied t area) e (copied-lengths h) ∙ h

    pub copied-back : put_back u (copied t area) ≡ t
    unfolding put_back copied
    copied-back =
        rw (
          front-back area.lanes t.lanes (length u.lanes) (long 0),
          front-back area.boundaries t.boundaries (length u.boundaries) (long 1),
          front-back area.roads t.roads (length u.roads) (long 2),
          front-back area.junctions t.junctions (length u.junctions) (long 3),
          front-back area.rules t.rules (length u.rules) (long 4),
          front-back area.stop_lines t.stop_lines (length u.stop_lines) (long 5),
          front-back area.crosswalks t.crosswalks (length u.crosswalks) (long 6),
          front-back area.coordinates t.coordinates (length u.coordinates) (long 7),
        )
      where
        long : (k : ℕ) → get_or (lengths_of u) k 0 ≡ get_or (lengths_of t) k 0
        long k = ap (λ ns. get_or ns k 0) e

-- the tables of the area, cut to the lengths of those that were copied
pub copied-front : (t area : Tables) → put_back t (copied t area) ≡ t
copied-front t area = copied-back t area t refl
