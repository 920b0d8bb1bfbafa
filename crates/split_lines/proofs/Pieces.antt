-- The pieces of one line: where they are cut, and how many points they have. Assumes nothing.
use Rattle.std.specs.Prelude.{Option, None, Some}
use mathlib.Core.Path.{◌≡◌, refl, sym, ap, ◌∙◌}
use Prim.Native.Nat.{ℕ, ◌+◌, ◌-◌, ◌*◌, ◌≤◌, ◌<◌}
use native.Mathlib.Nat.{add-zero}
use native.Mathlib.Numerals.{add-one}
use native.Mathlib.Omega.{arith}
use mathlib.Core.Bool.{Bool, true, false}
use mathlib.Core.List.{List, [], ◌++◌, append-nil}
use lib.Ieee.{Float}
use lib.ListN.{length, get_or, drop, length-append, length-drop}
use lib.Seq.{take_all, drop-length}
use borrow.Rule.Slice.PartMut.{mid_of, post_of, put_mid, Post-is}
use Rattle.lists.specs.Rows.{over}
use Rattle.lists.proofs.Rows.{over-part}
use Rattle.geometry.specs.Float.{zeroᶠ}
use Rattle.polyline.specs.Polyline.{points, flat, line_length, slice, first_piece, second_piece, nearest_point}
use Rattle.polyline.specs.declared.NearestPoint.{NearestPoint}
use Rattle.polyline.proofs.Counts.{length-slice-le}
use Rattle.polyline.proofs.Points.{over_none}
use Rattle.entities.specs.Records.{Line}
use Rattle.rules.specs.Names.{Point2}
use Rattle.rules.specs.Map.{station}
use Rattle.tables.specs.View.{part}
use Rattle.tables.specs.Formed.{stored}
use Rattle.lookup.proofs.Laws.{part-few}
use Rattle.order.specs.Order.{row_has}
use Rattle.split_lines.specs.declared.Sizes.{Sizes}
use Rattle.split_lines.specs.Cut.{first_line_of, second_line_of, both_lines, sizes_of, row_line, RowStored}

-- what is measured of a line
abbrev pub Measured : Point2 → Line → Sizes → Type 0
Measured p l s = (s ≡ sizes_of p l) × ((s.first ≤ 258) × (s.second ≤ 258))

-- ---- a line

module _ (p : Point2) (l : Line) (o : Option NearestPoint) (e : o ≡ nearest_point l p) where
  module _ (f : o ≡ None) where
    pub first-none : first_line_of p l ≡ []
    unfolding station
    first-none = rw (← e, f)

    pub second_none : second_line_of p l ≡ []
    unfolding station
    second_none = rw (← e, f)

    pub sizes-none : Measured p l (record { first = 0; second = 0 })
    sizes-none = (rw (first-none, second_none), (omega arith, omega arith))

    pub pieces_none : (w : List Float) → (0 ≡ length (both_lines p l)) × (w ≡ over w 0 (flat (both_lines p l)))
    pieces_none w = rw (first-none, second_none) (refl, sym (over_none w 0))

  module _ (n : NearestPoint) (f : o ≡ Some n) where
    pub first_some : first_line_of p l ≡ first_piece l n.station
    unfolding station
    first_some = rw (← e, f)

    pub second-some : second_line_of p l ≡ second_piece l n.station
    unfolding station
    second-some = rw (← e, f)

    pub sizes-some : length l ≤ 256 → (a b : ℕ) (len : Float) → a ≡ length (slice l zeroᶠ n.station) → len ≡ line_length l → b ≡ length (slice l n.station len)
        → Measured p l (record { first = a; second = b })
    unfolding first_piece second_piece
    sizes-some h a b len q r s =
        let t : b ≡ length (slice l n.station (line_length l)) = rw r at s in
        (rw (first_some, second-some, q, t), (omega (arith, length-slice-le l zeroᶠ n.station), omega (arith, length-slice-le l n.station (line_length l))))

    both_some : length (both_lines p l) ≡ length (first_piece l n.station) + length (second_piece l n.station)
    both_some = rw (first_some, second-some) (length-append (first_piece l n.station) (second_piece l n.station))

    pub pieces_room : (w : List Float) → length (both_lines p l) * 3 ≤ length w → (length (first_piece l n.station) + length (second_piece l n.station)) * 3 ≤ length w
    pieces_room w h = omega (arith, both_some)

    pub pieces-some : (w v : List Float) (a b : ℕ) → a ≡ length (first_piece l n.station) → b ≡ length (second_piece l n.station)
        → v ≡ over w 0 (flat (first_piece l n.station ++ second_piece l n.station)) → (a + b ≡ length (both_lines p l)) × (v ≡ over w 0 (flat (both_lines p l)))
    pieces-some w v a b q r g = (omega (arith, both_some), rw (first_some, second-some) g)

-- an empty line has no piece
pub none-sizes : (p : Point2) → Measured p [] (record { first = 0; second = 0 })
none-sizes p = sizes-none p [] None (unfold nearest_point in refl) refl

pub none_both : (p : Point2) → both_lines p [] ≡ []
none_both p = let e : None ≡ nearest_point [] p = unfold nearest_point in refl in rw (first-none p [] None e refl, second_none p [] None e refl)

-- ---- the line of a row

module _ (c : List Float) (offset : ℕ) (marked : Bool) (row : ℕ) (t : List ℕ) (b : Bool) (e : b ≡ row_has marked row t) where
  pub row-without : b ≡ false → row_line c offset marked row t ≡ []
  row-without f = rw (← e, f)

  module _ (h : RowStored c offset marked row t) (f : b ≡ true) where
    pub row-may : (row + offset + 1 < length t) × (stored c (record { start = get_or t (row + offset) 0; size = get_or t (row + offset + 1) 0 }) ≡ true)
    row-may = (omega (arith, h.words), rw (add-one (row + offset)) (h.lies (sym e ∙ f)).0)

    module _ (line : List Float) (g : line ≡ part c (get_or t (row + offset) 0) (get_or t (row + offset + 1) 0)) where
      pub row-with : row_line c offset marked row t ≡ points line
      row-with = rw (← e, f) (ap points (sym (rw (add-one (row + offset)) at g)))

      pub row-few : length (points line) ≤ 256
      row-few =
          let l : length (points line) ≤ get_or t (row + offset + 1) 0 = rw g (part-few c (get_or t (row + offset) 0) (get_or t (row + offset + 1) 0)) in
          let m : get_or t (row + offset + 1) 0 ≤ 256 = rw (add-one (row + offset)) (h.lies (sym e ∙ f)).1 in
          omega arith

-- ---- drawn into a part of the work

-- a list written to the front of the part that begins at place a
part-written : {A : Type 0} (w v l : List A) (a : ℕ) → a ≤ length w → v ≡ over (mid_of a (length w - a) w) 0 l → put_mid a (length w - a) w v ≡ over w a l
part-written w v l a h f =
    let t : post_of a (length w - a) w ≡ [] = Post-is a (length w) w h ∙ drop-length w in
    let m : mid_of a (length w - a) w ≡ drop a w = take_all (length w - a) (drop a w) (omega (arith, length-drop a w)) in
    rw (t, append-nil, f, m, over-part w a 0 l h, add-zero)

module _ (c : List Float) (offset : ℕ) (marked : Bool) (row : ℕ) (t : List ℕ) (p : Point2) (at : ℕ) (w : List Float) where
  pub draw_none : row_line c offset marked row t ≡ [] → (at ≡ at + length (both_lines p (row_line c offset marked row t))) × (w ≡ over w (at * 3) (flat (both_lines p (row_line c offset marked row t))))
  draw_none e = rw (e, none_both p) (omega arith, sym (over_none w at))

  pub draw_some : (l : Line) → row_line c offset marked row t ≡ l → (at + length (both_lines p (row_line c offset marked row t))) * 3 ≤ length w → (n : ℕ) (v : List Float)
      → (n ≡ length (both_lines p l)) × (v ≡ over (mid_of (at * 3) (length w - at * 3) w) 0 (flat (both_lines p l)))
      → (at + n ≡ at + length (both_lines p (row_line c offset marked row t))) × (put_mid (at * 3) (length w - at * 3) w v ≡ over w (at * 3) (flat (both_lines p (row_line c offset marked row t))))
  draw_some l e h n v g = rw e (ap (λ z. at + z) g.0, part-written w v (flat (both_lines p l)) (at * 3) (omega arith) g.1)
