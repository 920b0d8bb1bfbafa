-- How long a line in reach is: finite, not negative, and at most 2^26 for each of its points. Assumes nothing but that two points in reach
-- are at most 2^26 apart, which is a parameter here.
use mathlib.Core.Path.{◌≡◌, refl}
use Prim.Native.Nat.{ℕ, suc, ◌+◌, ◌*◌, ◌^◌, ◌≤◌}
use native.Mathlib.Omega.{arith}
use mathlib.Core.Bool.{true, false}
use mathlib.Core.List.{List, [], ◌∷◌}
use lib.IntN.{pos}
use lib.Dec.{T, lit<}
use lib.Ieee.{Float, nan, inf, fin, binary64, of_bits, of_int, round, add, le, lt, eq}
use lib.Ieee.Back.{round_whole}
use lib.Ieee.Bits.{is_true}
use lib.Ieee.Exact.{HasValue}
use lib.Ieee.Scale.{finite}
use lib.ListN.{length}
use Rattle.lists.specs.Every.{all}
use Rattle.lists.proofs.Every.{all_head, all_tail}
use Rattle.geometry.specs.Bounds.{nought, Between}
use Rattle.geometry.specs.Float.{◌+ᶠ◌}
use Rattle.geometry.specs.Point.{in_reach, distance3}
use Rattle.geometry.specs.declared.Point3.{Point3}
use Rattle.geometry.proofs.Frac.{whole, ◌⊕◌, ◌≼◌, ≼_trans, ⊕-mono}
use Rattle.geometry.proofs.Compare.{val, le_of}
use Rattle.geometry.proofs.Rounding.{Rounds, rounds-mono, add_rounds}
use Rattle.geometry.proofs.Order.{add-between, finite-between, le_trans}
use Rattle.polyline.specs.Polyline.{length_from, line_length, minus_zero}

-- 2^26, and k times that
abbrev pub stride : Float
stride = of_bits binary64 0x4190000000000000

unfoldable pub strides : ℕ → Float
strides k = of_int binary64 (pos (k * 2 ^ 26))

-- ---- k strides are the whole number, and one more is one more

whole-finite : (x : Float) (n : ℕ) → HasValue x false n 1 → T (finite x)
whole-finite nan n h = absurd h
whole-finite (inf s) n h = absurd h
whole-finite (fin s m e) n h = tt

whole_val : (x : Float) (n : ℕ) → HasValue x false n 1 → val x ≼ whole n
whole_val nan n h = absurd h
whole_val (inf s) n h = absurd h
whole_val (fin true m e) n h = omega arith
whole_val (fin false m e) n h = omega (arith, h.1)

strides_value : (k : ℕ) → k ≤ 2 ^ 27 → HasValue (strides k) false (k * 2 ^ 26) 1
unfolding strides of_int
strides_value k h = round_whole binary64 false (k * 2 ^ 26) (omega arith)

pub strides_finite : (k : ℕ) → k ≤ 2 ^ 27 → finite (strides k) ≡ true
strides_finite k h = is_true (finite (strides k)) (whole-finite (strides k) (k * 2 ^ 26) (strides_value k h))

strides_round : (k : ℕ) → Rounds binary64 (strides k) (whole (k * 2 ^ 26))
unfolding strides of_int
strides_round k = record { sign = false; size = k * 2 ^ 26; is = refl; here = refl; over = lit< tt }

stride-finite : finite stride ≡ true
unfolding of_bits
stride-finite = refl

one_more : (k : ℕ) → k ≤ 2 ^ 27 → le (add binary64 (strides k) stride) (strides (suc k)) ≡ true
unfolding of_bits
one_more k h =
    let a = whole_val (strides k) (k * 2 ^ 26) (strides_value k h) in
    let b : val stride ≼ whole (2 ^ 26) = omega arith in
    let s = whole (k * 2 ^ 26) ⊕ whole (2 ^ 26) in
    le_of (add binary64 (strides k) stride) (strides (suc k))
    (rounds-mono (add_rounds binary64 (strides k) stride (whole-finite (strides k) (k * 2 ^ 26) (strides_value k h)) tt) (strides_round (suc k))
    (≼_trans (val (strides k) ⊕ val stride) s (whole (suc k * 2 ^ 26)) (lit< tt)
    (⊕-mono (val (strides k)) (whole (k * 2 ^ 26)) (val stride) (whole (2 ^ 26)) a b) (omega arith)))

none_yet : Between nought minus_zero (strides 0)
unfolding strides of_int round of_bits le lt eq
none_yet = record { low = refl; high = refl }

adds_one : (k : ℕ) (s d : Float) → k ≤ 2 ^ 27 → Between nought s (strides k) → Between nought d stride → Between nought (s +ᶠ d) (strides (suc k))
adds_one k s d h a b =
    let c = add-between binary64 a b nought-finite (strides_finite k h) nought-finite stride-finite in
    record { low = rw nought-sum at c.low; high = le_trans (s +ᶠ d) (add binary64 (strides k) stride) (strides (suc k)) c.high (one_more k h) }
  where
    nought-finite : finite nought ≡ true
    nought-finite = unfold of_bits in refl

    nought-sum : add binary64 nought nought ≡ nought
    nought-sum = unfold add of_bits in refl

-- ---- along a line

module _ (far : (p q : Point3) → in_reach p ≡ true → in_reach q ≡ true → Between nought (distance3 p q) stride) where
  length-from-far : (k : ℕ) (sum : Float) (p : Point3) (qs : List Point3) → Between nought sum (strides k) → all in_reach (p ∷ qs) ≡ true
      → k + length qs ≤ 2 ^ 27 → Between nought (length_from sum p qs) (strides (k + length qs))
  unfolding length_from
  length-from-far k sum p [] b h n = let e : k + 0 ≡ k = omega arith in rw e b
  length-from-far k sum p (q ∷ qs) b h n =
      let e : k + suc (length qs) ≡ suc k + length qs = omega arith in
      let d = far p q (all_head in_reach p (q ∷ qs) h) (all_head in_reach q qs (all_tail in_reach p (q ∷ qs) h)) in
      rw e (length-from-far (suc k) (sum +ᶠ distance3 p q) q qs (adds_one k sum (distance3 p q) (omega arith) b d) (all_tail in_reach p (q ∷ qs) h) (omega arith))

  -- a line of n + 1 points is at most n strides long, and one of no or one point is −0.0, which is not less than 0
  pub line-length-far : (p : Point3) (ps : List Point3) → all in_reach (p ∷ ps) ≡ true → length ps ≤ 65536
      → Between nought (line_length (p ∷ ps)) (strides (length ps))
  unfolding line_length
  line-length-far p ps h n =
      let e : 0 + length ps ≡ length ps = omega arith in
      rw e at (length-from-far 0 minus_zero p ps none_yet h (omega arith))

  pub line-length-finite : (ps : List Point3) → all in_reach ps ≡ true → length ps ≤ 65536 → finite (line_length ps) ≡ true
  line-length-finite [] h n = unfold line_length of_bits in refl
  line-length-finite (p ∷ ps) h n = finite-between (line-length-far p ps h (omega arith)) (unfold of_bits in refl) (strides_finite (length ps) (omega arith))

  pub line-length-pos : (ps : List Point3) → all in_reach ps ≡ true → length ps ≤ 65536 → le nought (line_length ps) ≡ true
  line-length-pos [] h n = unfold line_length in none_yet.low
  line-length-pos (p ∷ ps) h n = (line-length-far p ps h (omega arith)).low
