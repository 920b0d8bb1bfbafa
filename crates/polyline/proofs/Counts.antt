-- How many points the lines have that are made. Assumes nothing.
-- Further: `length_resample_count`, `resample_empty`, `length-centerline`, `centerline-none`, `length-concat` (Lines), `length-reverse` (lib.ListN).
use mathlib.Core.Path.{◌≡◌, refl, ap, ◌∙◌}
use Prim.Native.Nat.{◌+◌, ◌≤◌}
use native.Mathlib.Omega.{arith}
use mathlib.Core.Bool.{Bool, true, false}
use mathlib.Core.List.{List, [], ◌++◌}
use borrow.Author.Tests.{ltb-true, ltb-false}
use lib.Dec.{ltb}
use lib.Ieee.{Float, le}
use lib.ListN.{length, length-append}
use Rattle.geometry.specs.Float.{zeroᶠ, clamp}
use Rattle.geometry.specs.declared.Point3.{Point3}
use Rattle.polyline.specs.Polyline.{line_length, optional, point_at, between, slice, concat}
use Rattle.polyline.proofs.Lines.{optional-few, point-at-one, point-at-empty, length-between, slice-short, slice_empty, slice-whole, length-concat}

-- the two ends of a slice, held to the line
abbrev pub held_to : List Point3 → Float → Float
held_to ps station = clamp station zeroᶠ (line_length ps)

module _ (ps : List Point3) (from to : Float) where
  -- of an empty line nothing
  pub slice-none : length ps ≡ 0 → slice ps from to ≡ []
  slice-none h = slice-short ps from to (omega arith) ∙ rw (point-at-empty ps (held_to ps from) h)

  -- of a line of one point, and of an empty interval, one point
  pub slice-one-short : length ps ≡ 1 → length (slice ps from to) ≡ 1
  slice-one-short h = ap length (slice-short ps from to (omega arith)) ∙ point-at-one ps (held_to ps from) (omega arith)

  pub slice-one-empty : 2 ≤ length ps → le (held_to ps to) (held_to ps from) ≡ true → length (slice ps from to) ≡ 1
  slice-one-empty h t = ap length (slice_empty ps from to h t) ∙ point-at-one ps (held_to ps from) (omega arith)

  -- else the two ends, and what lies between
  pub length-slice : 2 ≤ length ps → le (held_to ps to) (held_to ps from) ≡ false
      → length (slice ps from to) ≡ length (between (held_to ps from) (held_to ps to) ps) + 2
  length-slice h t =
      let a = optional (point_at ps (held_to ps from)) in
      let b = between (held_to ps from) (held_to ps to) ps in
      let c = optional (point_at ps (held_to ps to)) in
      ap length (slice-whole ps from to h t)
      ∙ omega (arith, length-append a (b ++ c), length-append b c, point-at-one ps (held_to ps from) (omega arith), point-at-one ps (held_to ps to) (omega arith))

  pub slice-two : 2 ≤ length ps → le (held_to ps to) (held_to ps from) ≡ false → 2 ≤ length (slice ps from to)
  slice-two h t = omega (arith, length-slice h t)

  pub length-slice-le : length (slice ps from to) ≤ length ps + 2
  length-slice-le = go (ltb (length ps) 2) (le (held_to ps to) (held_to ps from)) refl refl
    where
      go : (s b : Bool) → ltb (length ps) 2 ≡ s → le (held_to ps to) (held_to ps from) ≡ b → length (slice ps from to) ≤ length ps + 2
      go true b h t = omega (arith, ap length (slice-short ps from to (ltb-true (length ps) 2 h)), optional-few (point_at ps (held_to ps from)))
      go false true h t = omega (arith, slice-one-empty (ltb-false (length ps) 2 h) t)
      go false false h t =
          omega (arith, length-slice (ltb-false (length ps) 2 h) t, length-between (held_to ps from) (held_to ps to) ps)

module _ (join : Float) (ps qs : List Point3) where
  pub length-concat-le : length (concat join ps qs) ≤ length ps + length qs
  length-concat-le = omega (arith, length-concat join ps qs)
