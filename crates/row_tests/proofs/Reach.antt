-- A line is within reach where its coordinates are, one after the other. Assumes nothing.
use mathlib.Core.Path.{◌≡◌, refl, sym, ap, ◌∙◌}
use Prim.Native.Nat.{ℕ, zero, suc, ◌+◌, ◌*◌, ◌/◌, ◌≤◌, ◌<◌}
use native.Mathlib.Omega.{arith}
use mathlib.Core.Bool.{Bool, true, false, ◌&&◌, and_assoc}
use mathlib.Core.List.{List, [], ◌∷◌}
use lib.ListN.{length, get_or, take, drop}
use lib.Ieee.{Float}
use Rattle.lists.specs.Every.{all}
use Rattle.lists.specs.Rows.{reads}
use Rattle.lists.proofs.Every.{all-step, all_end}
use Rattle.geometry.specs.Point.{in_reach}
use Rattle.geometry.specs.Float.{coordinate}
use Rattle.polyline.specs.Polyline.{points, point_of}

three-more : (k : ℕ) → suc k * 3 ≡ suc (suc (suc (k * 3)))
three-more k = omega arith

reads-flat : (k : ℕ) (w : List Float) → k * 3 ≤ length w → all in_reach (reads 3 point_of k w) ≡ all coordinate (take (k * 3) w)
unfolding all reads in_reach point_of
reads-flat zero w h = refl
reads-flat (suc k) [] h = absurd (omega arith)
reads-flat (suc k) (x ∷ []) h = absurd (omega arith)
reads-flat (suc k) (x ∷ y ∷ []) h = absurd (omega arith)
reads-flat (suc k) (x ∷ y ∷ z ∷ w) h =
    rw (three-more k, reads-flat k w (omega arith)) (grouped (coordinate x) (coordinate y) (coordinate z) (all coordinate (take (k * 3) w)))
  where
    grouped : (a b c d : Bool) → (a && b && c && d) ≡ (a && (b && (c && d)))
    grouped true true c d = refl
    grouped true false c d = refl
    grouped false b c d = refl

-- the points of a part
pub points-reach : (w : List Float) (n : ℕ) → n ≡ length w / 3 * 3 → all coordinate (take n w) ≡ all in_reach (points w)
unfolding points
points-reach w n e = rw e (sym (reads-flat (length w / 3) w (omega arith)))

-- one coordinate more, and all of them
module _ (line : List Float) (good : Bool) (i : ℕ) (v : all coordinate line ≡ (good && all coordinate (drop i line))) where
  pub reach-on : (d : Float) (g r : Bool) → i < length line → g ≡ coordinate (get_or line i d) → r ≡ (good && g) → all coordinate line ≡ (r && all coordinate (drop (i + 1) line))
  reach-on d g r h e f =
      let s : all coordinate (drop i line) ≡ (g && all coordinate (drop (i + 1) line)) = all-step coordinate line i d h ∙ ap (λ (b : Bool). b && all coordinate (drop (i + 1) line)) (sym e) in
      v ∙ (ap (λ (b : Bool). good && b) s ∙ (sym (and_assoc good g (all coordinate (drop (i + 1) line))) ∙ ap (λ (b : Bool). b && all coordinate (drop (i + 1) line)) (sym f)))

  pub reach-done : length line ≤ i → good ≡ all coordinate line
  reach-done h = sym (v ∙ (ap (λ (b : Bool). good && b) (all_end coordinate line i h) ∙ last good))
    where
      last : (b : Bool) → (b && true) ≡ b
      last true = refl
      last false = refl
