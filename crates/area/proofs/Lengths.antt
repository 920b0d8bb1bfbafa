-- What an area that fits has room for, and the way back from a copy. Assumes nothing.
use mathlib.Core.Path.{◌≡◌, sym, ◌∙◌}
use mathlib.Core.Bool.{Bool, true, ◌&&◌}
use mathlib.Core.List.{List}
use Prim.Native.Nat.{◌+◌, ◌≤◌}
use native.Mathlib.Omega.{arith}
use lib.ListN.{length, take}
use lib.Seq.{length-take-le, take_all}
use borrow.Author.Tests.{leb-true}
use Rattle.lists.specs.Rows.{over}
use Rattle.lists.proofs.Rows.{length_over, take-over}
use Rattle.lists.proofs.Booleans.{and-fst, and-snd}
use Rattle.tables.specs.View.{Tables}
use Rattle.area.specs.Area.{area_fits}

pub record Fits (t area : Tables) : Type 0 where
  pub lanes_fit : length t.lanes ≤ length area.lanes
  pub boundaries_fit : length t.boundaries ≤ length area.boundaries
  pub roads-fit : length t.roads ≤ length area.roads
  pub junctions-fit : length t.junctions ≤ length area.junctions
  pub rules-fit : length t.rules ≤ length area.rules
  pub stop-lines-fit : length t.stop_lines ≤ length area.stop_lines
  pub crosswalks-fit : length t.crosswalks ≤ length area.crosswalks
  pub coordinates-fit : length t.coordinates ≤ length area.coordinates

-- each of eight tests
each-passes : (a b c d e f g h : Bool) → (a && b && c && d && e && f && g && h) ≡ true
    → (a ≡ true) × (b ≡ true) × (c ≡ true) × (d ≡ true) × (e ≡ true) × (f ≡ true) × (g ≡ true) × (h ≡ true)
each-passes a b c d e f g h p8 =
    let p7 = and-fst (a && b && c && d && e && f && g) h p8 in
    let p6 = and-fst (a && b && c && d && e && f) g p7 in
    let p5 = and-fst (a && b && c && d && e) f p6 in
    let p4 = and-fst (a && b && c && d) e p5 in
    let p3 = and-fst (a && b && c) d p4 in
    let p2 = and-fst (a && b) c p3 in (
      and-fst a b p2,
      and-snd a b p2,
      and-snd (a && b) c p3,
      and-snd (a && b && c) d p4,
      and-snd (a && b && c && d) e p5,
      and-snd (a && b && c && d && e) f p6,
      and-snd (a && b && c && d && e && f) g p7,
      and-snd (a && b && c && d && e && f && g) h p8,
    )

pub fits-of : (t area : Tables) → area_fits t area ≡ true → Fits t area
unfolding area_fits
fits-of t area h =
    let (p0, p1, p2, p3, p4, p5, p6, p7) = each-passes _ _ _ _ _ _ _ _ h in
    record {
      lanes_fit = leb-true (length t.lanes) (length area.lanes) p0;
      boundaries_fit = leb-true (length t.boundaries) (length area.boundaries) p1;
      roads-fit = leb-true (length t.roads) (length area.roads) p2;
      junctions-fit = leb-true (length t.junctions) (length area.junctions) p3;
      rules-fit = leb-true (length t.rules) (length area.rules) p4;
      stop-lines-fit = leb-true (length t.stop_lines) (length area.stop_lines) p5;
      crosswalks-fit = leb-true (length t.crosswalks) (length area.crosswalks) p6;
      coordinates-fit = leb-true (length t.coordinates) (length area.coordinates) p7;
    }

-- ---- the whole of a list, written over another or taken from its front

-- a list written over one that is as long
pub over-whole : {A : Type 0} (w l : List A) → length l ≡ length w → over w 0 l ≡ l
over-whole w l e =
    let fits : 0 + length l ≤ length w = omega arith in
    let same : length (over w 0 l) ≤ 0 + length l = omega (arith, length_over w 0 l fits) in
    sym (take_all (0 + length l) (over w 0 l) same) ∙ take-over w 0 l fits

-- and the front of a longer one
pub over-front-of : {A : Type 0} (w xs : List A) → length w ≤ length xs → over w 0 (take (length w) xs) ≡ take (length w) xs
over-front-of w xs h = over-whole w (take (length w) xs) (length-take-le (length w) xs h)
