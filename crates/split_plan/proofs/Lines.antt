-- A lane's centreline, read back from where it was written. Assumes nothing.
use Rattle.rules.specs.Edit.{Res}
use Rattle.std.specs.Prelude.{Option, None, Some, Err}
use mathlib.Core.Path.{◌≡◌, sym, ◌∙◌}
use Prim.Native.Nat.{ℕ, ◌+◌, ◌*◌, ◌≤◌, ◌<◌}
use native.Mathlib.Omega.{arith}
use mathlib.Core.List.{List}
use lib.Ieee.{Float}
use lib.ListN.{length, get_or, take}
use lib.Seq.{length-take-le}
use Rattle.lists.specs.Rows.{over}
use Rattle.polyline.specs.Polyline.{points, flat}
use Rattle.rules.specs.Names.{SplitAt, NoUsableLine}
use Rattle.tables.specs.View.{word}
use Rattle.row_tests.proofs.Lanes.{id-at}
use Rattle.lookup.specs.Lookup.{Drawable, row_at, center_line, count_of, points_or}
use Rattle.lookup.proofs.Center.{count_none, lane_center_few, side-length, side-small, side-there}
use Rattle.split_plan.specs.Placing.{placing, placed, stationing, row_station}
use Rattle.split_plan.specs.declared.Cut.{Cut}
use Rattle.split_plan.proofs.Leaves.{place_lineless, station_lineless}

-- the array at entry is w, with the line v
module _ (c : List Float) (b t : List ℕ) (i : ℕ) (d : Drawable t b c) (l : i < word 0 t) (w v : List Float) (room : 768 ≤ length w)
    (e : v ≡ over w 0 (flat (points_or (center_line c t b i)))) (found : Option ℕ) (f : found ≡ count_of (center_line c t b i)) (a : ℕ) (n : found ≡ Some a) where
  few : length (points_or (center_line c t b i)) ≤ 256
  few = lane_center_few c b t i d l

  told : Some a ≡ count_of (center_line c t b i)
  told = sym n ∙ f

  pub line_small : a ≤ 256
  line_small = side-small (center_line c t b i) w v few room e a told

  pub line-within : a * 3 ≤ length v
  line-within = omega (arith, line_small, side-length (center_line c t b i) w v few room e)

  pub line-lent : a * 3 ≡ length (take (a * 3) v)
  line-lent = sym (length-take-le (a * 3) v line-within)

  there : center_line c t b i ≡ Some (points (take (a * 3) v))
  there = side-there (center_line c t b i) w v few room e a told

  pub placed-there : (piece : Float) (at : SplitAt) (r : Res Cut) → r ≡ placing piece (get_or t (1 + i * 52) 0) at (Some (points (take (a * 3) v))) → r ≡ placed piece c t b i at
  placed-there piece at r q = rw (there, ← id-at t i) q

  pub stationed-there : (piece : Float) (own : ℕ) (k : Cut) (r : Res Float) → r ≡ stationing piece own (get_or t (1 + i * 52) 0) k (Some (points (take (a * 3) v)))
      → r ≡ row_station piece c b own k (row_at 52 t i)
  stationed-there piece own k r q = rw (there, ← id-at t i) q

module _ (c : List Float) (b t : List ℕ) (i : ℕ) (found : Option ℕ) (f : found ≡ count_of (center_line c t b i)) (n : found ≡ None) where
  gone : center_line c t b i ≡ None
  gone = count_none (center_line c t b i) (sym n ∙ f)

  pub placed-gone : (piece : Float) (at : SplitAt) → Err (NoUsableLine (get_or t (1 + i * 52) 0)) ≡ placed piece c t b i at
  placed-gone piece at = rw (id-at t i) (place_lineless piece (word 0 (row_at 52 t i)) at (center_line c t b i) gone)

  pub stationed-gone : (piece : Float) (own : ℕ) (k : Cut) → Err (NoUsableLine (get_or t (1 + i * 52) 0)) ≡ row_station piece c b own k (row_at 52 t i)
  stationed-gone piece own k = rw (id-at t i) (station_lineless piece own (word 0 (row_at 52 t i)) k (center_line c t b i) gone)
