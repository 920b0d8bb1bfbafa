-- `voldrekka::fits` meets its contract: a piece has at most one point more than the line. Assumes nothing.
use borrow.Author.Rules.{rules}
use mathlib.Core.Path.{◌≡◌, refl, sym, ap}
use mathlib.Core.Bool.{Bool, true, false}
use mathlib.Core.List.{List, [], ◌∷◌}
use Prim.Native.Nat.{ℕ, ◌+◌, ◌*◌, ◌/◌, ◌≤◌, ◌<◌}
use native.Mathlib.Omega.{arith}
use lib.Dec.{ltb}
use lib.Ieee.{Float, le}
use lib.ListN.{length}
use borrow.Author.Tests.{le-leb, lt-leb, ltb-true, ltb-false}
use Rattle.geometry.specs.Float.{zeroᶠ}
use Rattle.geometry.specs.declared.Point3.{Point3}
use Rattle.polyline.specs.Polyline.{points, line_length, slice, between, point_at, first_piece, second_piece}
use Rattle.polyline.proofs.Lines.{length-inner, optional-few, slice-short}
use Rattle.polyline.proofs.Counts.{held_to, length-slice, slice-one-empty}
use Rattle.voldrekka.specs.Split.{pieces_fit}
use Rattle.voldrekka.proofs.fits.Goals as goal

module _ (from to : Float) where
  -- the first point is never between
  between-few : (ps : List Point3) → 1 ≤ length ps → length (between from to ps) + 1 ≤ length ps
  unfolding between
  between-few [] h = omega arith
  between-few (p ∷ ps) h = omega (arith, length-inner from to zeroᶠ p ps)

module _ (ps : List Point3) (from to : Float) where
  slice-few : length (slice ps from to) ≤ length ps + 1
  slice-few = go (ltb (length ps) 2) (le (held_to ps to) (held_to ps from)) refl refl
    where
      go : (s b : Bool) → ltb (length ps) 2 ≡ s → le (held_to ps to) (held_to ps from) ≡ b → length (slice ps from to) ≤ length ps + 1
      go true b h t = omega (arith, ap length (slice-short ps from to (ltb-true (length ps) 2 h)), optional-few (point_at ps (held_to ps from)))
      go false true h t = omega (arith, slice-one-empty ps from to (ltb-false (length ps) 2 h) t)
      go false false h t =
          let two = ltb-false (length ps) 2 h in
          omega (arith, length-slice ps from to two t, between-few (held_to ps from) (held_to ps to) ps (omega arith))

module _ (ps : List Point3) (s : Float) (n : ℕ) where
  surely : length ps < n / 3 / 2 → pieces_fit ps s n ≡ true
  unfolding pieces_fit first_piece second_piece
  surely h =
      le-leb ((length (slice ps zeroᶠ s) + length (slice ps s (line_length ps))) * 3) n (omega (arith, slice-few ps zeroᶠ s, slice-few ps s (line_length ps)))

module _ (ps : List Point3) (s : Float) (n f g : ℕ) (p : f ≡ length (slice ps zeroᶠ s)) (q : g ≡ length (slice ps s (line_length ps))) where
  no_room : n / 3 < f + g → pieces_fit ps s n ≡ false
  unfolding pieces_fit first_piece second_piece
  no_room h = lt-leb ((length (slice ps zeroᶠ s) + length (slice ps s (line_length ps))) * 3) n (omega arith)

  has_room : f + g ≤ n / 3 → pieces_fit ps s n ≡ true
  unfolding pieces_fit first_piece second_piece
  has_room h = le-leb ((length (slice ps zeroᶠ s) + length (slice ps s (line_length ps))) * 3) n (omega arith)

pub returns-then-count-places : goal.returns-then-count-places
returns-then-count-places c =
    let e = c.count.ensures in
    let t = c.if-count-places.true in
    sym (surely (points c.args.line.now) c.args.station c.args.floats (omega arith))

pub returns-then-places-before : goal.returns-then-places-before
returns-then-places-before c =
    let s = rw c.length.ensures at c.slice_points-behind.ensures in
    sym (no_room (points c.args.line.now) c.args.station c.args.floats _ _ c.slice_points-before.ensures s (omega arith))

pub returns-then-places-before-2 : goal.returns-then-places-before-2
returns-then-places-before-2 c =
    let s = rw c.length.ensures at c.slice_points-behind.ensures in
    sym (no_room (points c.args.line.now) c.args.station c.args.floats _ _ c.slice_points-before.ensures s (omega arith))

pub returns : goal.returns
returns c =
    let s = rw c.length.ensures at c.slice_points-behind.ensures in
    sym (has_room (points c.args.line.now) c.args.station c.args.floats _ _ c.slice_points-before.ensures s (omega arith))
