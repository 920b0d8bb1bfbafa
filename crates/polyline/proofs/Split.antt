-- The two pieces of a split at a station inside the line share the point there. Assumes nothing.
use Rattle.std.specs.Prelude.{Option, None, Some}
use mathlib.Core.Path.{◌≡◌, refl, sym, ap, ◌∙◌}
use Prim.Native.Nat.{◌≤◌}
use native.Mathlib.Omega.{arith}
use mathlib.Core.Bool.{Bool, true, false, cond}
use mathlib.Core.List.{List, [], ◌∷◌, ◌++◌, append_assoc}
use lib.Ieee.{Float, lt, le}
use lib.ListN.{length}
use Rattle.geometry.specs.Float.{zeroᶠ, clamp}
use Rattle.geometry.specs.declared.Point3.{Point3}
use Rattle.geometry.proofs.Order.{lt-le, le_not_lt, lt_not_le, le_lt_trans}
use Rattle.polyline.specs.Polyline.{line_length, first, last, last_from, optional, point_at, between, slice, first_piece, second_piece}
use Rattle.polyline.proofs.Lines.{point-at-one, slice-whole}
use Rattle.polyline.proofs.Counts.{held_to}

last-from-behind : (p q : Point3) (l : List Point3) → last_from p (l ++ (q ∷ [])) ≡ q
unfolding last_from
last-from-behind p q [] = refl
last-from-behind p q (r ∷ l) = last-from-behind r q l

pub last-behind : (l : List Point3) (o : Option Point3) → length (optional o) ≡ 1 → last (l ++ optional o) ≡ o
unfolding last last_from
last-behind l None h = absurd (omega arith)
last-behind [] (Some q) h = refl
last-behind (p ∷ l) (Some q) h = rw (last-from-behind p q l)

pub first-before : (o : Option Point3) (l : List Point3) → length (optional o) ≡ 1 → first (optional o ++ l) ≡ o
unfolding first
first-before None l h = absurd (omega arith)
first-before (Some q) l h = refl

-- the ends of a slice whose interval is not empty
module _ (ps : List Point3) (from to : Float) (h : 2 ≤ length ps) (t : le (held_to ps to) (held_to ps from) ≡ false) where
  pub slice_first : first (slice ps from to) ≡ point_at ps (held_to ps from)
  slice_first =
      ap first (slice-whole ps from to h t)
      ∙ first-before (point_at ps (held_to ps from)) _ (point-at-one ps (held_to ps from) (omega arith))

  pub slice-last : last (slice ps from to) ≡ point_at ps (held_to ps to)
  slice-last =
      let a = optional (point_at ps (held_to ps from)) in
      let b = between (held_to ps from) (held_to ps to) ps in
      ap last (slice-whole ps from to h t ∙ sym (append_assoc a b (optional (point_at ps (held_to ps to)))))
      ∙ last-behind (a ++ b) (point_at ps (held_to ps to)) (point-at-one ps (held_to ps to) (omega arith))

-- a station strictly inside the line is held where it is, and so are the line's ends
module _ (ps : List Point3) (station : Float) (after : lt zeroᶠ station ≡ true) (before : lt station (line_length ps) ≡ true) where
  long : lt zeroᶠ (line_length ps) ≡ true
  long = le_lt_trans zeroᶠ station (line_length ps) (lt-le zeroᶠ station after) before

  pub held-inside : held_to ps station ≡ station
  unfolding clamp
  held-inside = rw (le_not_lt zeroᶠ station (lt-le zeroᶠ station after), le_not_lt station (line_length ps) (lt-le station (line_length ps) before))

  pub held_start : held_to ps zeroᶠ ≡ zeroᶠ
  unfolding clamp
  held_start = rw (le_not_lt zeroᶠ (line_length ps) (lt-le zeroᶠ (line_length ps) long)) (same (lt zeroᶠ zeroᶠ) zeroᶠ)
    where
      same : (b : Bool) (x : Float) → cond b x x ≡ x
      same true x = refl
      same false x = refl

  pub held-end : held_to ps (line_length ps) ≡ line_length ps
  unfolding clamp
  held-end = rw (le_not_lt zeroᶠ (line_length ps) (lt-le zeroᶠ (line_length ps) long)) (same (lt (line_length ps) (line_length ps)) (line_length ps))
    where
      same : (b : Bool) (x : Float) → cond b x x ≡ x
      same true x = refl
      same false x = refl

  pub first-piece-last : 2 ≤ length ps → last (first_piece ps station) ≡ point_at ps station
  unfolding first_piece
  first-piece-last h =
      let t : le (held_to ps station) (held_to ps zeroᶠ) ≡ false = rw (held-inside, held_start) (lt_not_le zeroᶠ station after) in
      slice-last ps zeroᶠ station h t ∙ ap (point_at ps) held-inside

  pub second-piece-first : 2 ≤ length ps → first (second_piece ps station) ≡ point_at ps station
  unfolding second_piece
  second-piece-first h =
      let t : le (held_to ps (line_length ps)) (held_to ps station) ≡ false = rw (held-end, held-inside) (lt_not_le station (line_length ps) before) in
      slice_first ps station (line_length ps) h t ∙ ap (point_at ps) held-inside

  pub pieces-meet : 2 ≤ length ps → last (first_piece ps station) ≡ first (second_piece ps station)
  pieces-meet h = first-piece-last h ∙ sym (second-piece-first h)
