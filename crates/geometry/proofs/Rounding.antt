-- Operations on floats as roundings of signed fractions: rounding keeps the order, and it passes no value of the format. Assumes nothing.
use mathlib.Core.Path.{◌≡◌, refl, sym, ap, ◌∙◌, subst}
use mathlib.Core.Logic.{inl, inr}
use Prim.Native.Nat.{ℕ, zero, suc, ◌+◌, ◌-◌, ◌*◌, ◌/◌, ◌%◌, ◌^◌, ◌≤◌, ◌<◌, compare}
use native.Mathlib.Nat.{mul-pos, le_of_eq, eq-zero-or-pos, le_of_suc-le-suc, lt_of_not-le, not-le_of_lt, sub-add_cancel}
use native.Mathlib.Nat.{lt_of_mul-lt-mul_right, mul-lt-mul_of_pos_right}
use native.Mathlib.Omega.{arith}
use mathlib.Core.Bool.{Bool, true, false, not, ◌&&◌, cond}
use lib.IntN.{ℤ, pos, negsuc}
use lib.Dec.{T, leb, ltb, eqb, leb→le, ltb→lt, nltb→le}
use lib.Pow.{pow-add, pow_pos, pow-lt}
use lib.Ieee.{Float, nan, inf, fin, Format, binary32, binary64, prec, emax, low, up, down, size, nearest, odd, round}
use lib.Ieee.{unlike, neg, sum, add, sub, mul, fits}
use lib.Ieee.Fits.{down_pos, and_l, and_r}
use lib.Ieee.Exact.{HasValue, round_exact}
use lib.Ieee.Order.{round_mono, transfer}
use lib.Ieee.Scale.{finite, round_same}
use Rattle.geometry.proofs.Frac.{Frac, opp, ◌⊕◌, ◌⊗◌, ◌≼◌}
use Rattle.geometry.proofs.Compare.{above, under, val, Le, T→Le, Le-trans, Le-neg}

-- z is the fraction q, rounded: `round` of a sign and a size that are q
pub record Rounds (f : Format) (z : Float) (q : Frac) : Type 0 where
  pub sign : Bool
  pub size : ℕ
  pub is : z ≡ round f sign size q.den
  pub here : above sign size + q.minus ≡ q.plus + under sign size
  pub over : 0 < q.den

-- ---- `round` of a negative number mirrors that of a positive one
odd-neg : (d q k l : ℕ) → odd d true q k l ≡ neg (odd d false q k l)
unfolding odd neg
odd-neg d zero k l = refl
odd-neg d (suc q) k l = refl

pub round-neg : (f : Format) (k c : ℕ) → round f true k c ≡ neg (round f false k c)
unfolding round
round-neg f k c =
    let n = k * 2 ^ low f in
    let j = size (n / c) - prec f in
    let q = nearest (n / (c * 2 ^ j)) (compare (n % (c * 2 ^ j) * 2) (c * 2 ^ j)) in
    go (ltb (q * 2 ^ j) (2 ^ (low f + suc (emax f)))) q j
  where
    go : (b : Bool) (q j : ℕ)
        → cond b (odd (suc (prec f)) true q j (low f)) (inf true) ≡ neg (cond b (odd (suc (prec f)) false q j (low f)) (inf false))
    go true q j = odd-neg (suc (prec f)) q j (low f)
    go false q j = unfold neg in refl

-- ---- rounding keeps the order

pub Le-round : (f : Format) (a b c d : ℕ) → 0 < b → 0 < d → a * d ≤ c * b → Le (round f false a b) (round f false c d)
Le-round f a b c d B D h = T→Le (round f false a b) (round f false c d) (round_mono f a b c d B D h)

-- zero rounds to itself, so a fraction with no sign rounds to no less than zero, and one with a sign to no more
nought-is : (f : Format) (c : ℕ) → 0 < c → round f false 0 c ≡ fin false 0 (pos 0)
nought-is f c C = round_same f false 0 c 0 1 C (omega arith) (omega arith) ∙ go f
  where
    go : (f : Format) → round f false 0 1 ≡ fin false 0 (pos 0)
    go binary32 = unfold round in refl
    go binary64 = unfold round in refl

pub Le-zero : (f : Format) (k c : ℕ) → 0 < c → Le (fin false 0 (pos 0)) (round f false k c)
Le-zero f k c C = rw (nought-is f c C) at (Le-round f 0 c k c C C (omega arith))

Le-down : (f : Format) (k c : ℕ) → 0 < c → Le (round f true k c) (fin false 0 (pos 0))
Le-down f k c C =
    rw (round-neg f k c)
    (Le-trans (neg (round f false k c)) (fin true 0 (pos 0)) (fin false 0 (pos 0))
    (unfold neg in Le-neg (fin false 0 (pos 0)) (round f false k c) (Le-zero f k c C)) (omega arith))

none : (k d : ℕ) → 0 < d → k * d ≡ 0 → k ≡ 0
none k d D e = elim (eq-zero-or-pos k) [ inl z ↦ z | inr p ↦ let q = mul-pos p D in omega arith ]

-- of two fractions the larger rounds to a value that is no smaller
pub rounds-mono : {f : Format} {z z' : Float} {q q' : Frac} → Rounds f z q → Rounds f z' q' → q ≼ q' → Le z z'
rounds-mono {f} {q} {q'} r r' h =
    rw (r.is, r'.is) (go r.sign r'.sign r.size r'.size (ap (λ x. x * d') r.here) (ap (λ x. x * d) r'.here))
  where
    d : ℕ
    d = q.den

    d' : ℕ
    d' = q'.den

    D : 0 < d
    D = r.over

    D' : 0 < d'
    D' = r'.over

    go : (s s' : Bool) (k k' : ℕ) → (above s k + q.minus) * d' ≡ (q.plus + under s k) * d'
        → (above s' k' + q'.minus) * d ≡ (q'.plus + under s' k') * d → Le (round f s k d) (round f s' k' d')
    go false false k k' p p' = Le-round f k d k' d' D D' (omega arith)
    go true true k k' p p' =
        rw (round-neg f k d, round-neg f k' d') (Le-neg (round f false k' d') (round f false k d) (Le-round f k' d' k d D' D (omega arith)))
    go true false k k' p p' = Le-trans (round f true k d) (fin false 0 (pos 0)) (round f false k' d') (Le-down f k d D) (Le-zero f k' d' D')
    go false true k k' p p' =
        let a : k ≡ 0 = none k d' D' (omega arith) in
        let b : k' ≡ 0 = none k' d D (omega arith) in
        rw (a, b, round-neg f 0 d', nought-is f d D, nought-is f d' D') (unfold neg in omega arith)

-- ---- the operations
sum-rounds : (f : Format) (s : Bool) (a : ℕ) (t : Bool) (b : ℕ) (q : Frac) → 0 < q.den
    → above s a + above t b + q.minus ≡ q.plus + under s a + under t b → Rounds f (sum f s a t b q.den) q
unfolding sum
sum-rounds f false a false b q D h = record { sign = false; size = a + b; is = refl; here = omega arith; over = D }
sum-rounds f true a true b q D h = record { sign = true; size = a + b; is = refl; here = omega arith; over = D }
sum-rounds f false a true b q D h = go (ltb a b) (ltb→lt a b) (nltb→le a b)
  where
    go : (x : Bool) → (T x → a < b) → (T (not x) → b ≤ a)
        → Rounds f (cond x (round f true (b - a) q.den) (round f false (a - b) q.den)) q
    go true l g = let k = l tt in record { sign = true; size = b - a; is = refl; here = omega arith; over = D }
    go false l g = let k = g tt in record { sign = false; size = a - b; is = refl; here = omega arith; over = D }
sum-rounds f true a false b q D h = go (ltb a b) (ltb b a) (ltb→lt a b) (nltb→le a b) (nltb→le b a)
  where
    go : (x y : Bool) → (T x → a < b) → (T (not x) → b ≤ a) → (T (not y) → a ≤ b)
        → Rounds f (cond x (round f false (b - a) q.den) (round f y (a - b) q.den)) q
    go true y l g n = let k = l tt in record { sign = false; size = b - a; is = refl; here = omega arith; over = D }
    go false true l g n = let k = g tt in record { sign = true; size = a - b; is = refl; here = omega arith; over = D }
    go false false l g n =
        let k = g tt in
        let j = n tt in
        record { sign = false; size = a - b; is = refl; here = omega arith; over = D }

-- a sum, a difference and a product of finite values is the exact one, rounded
pub add_rounds : (f : Format) (x y : Float) → T (finite x) → T (finite y) → Rounds f (add f x y) (val x ⊕ val y)
unfolding add
add_rounds f nan y p q = absurd p
add_rounds f (inf s) y p q = absurd p
add_rounds f (fin s m e) nan p q = absurd q
add_rounds f (fin s m e) (inf t) p q = absurd q
add_rounds f (fin s m e) (fin t n d) p q =
    sum-rounds f s (m * up e * down d) t (n * up d * down e) (val (fin s m e) ⊕ val (fin t n d))
    (mul-pos (down_pos e) (down_pos d)) (go s t)
  where
    go : (s t : Bool) → above s (m * up e * down d) + above t (n * up d * down e) + (val (fin s m e) ⊕ val (fin t n d)).minus
        ≡ (val (fin s m e) ⊕ val (fin t n d)).plus + under s (m * up e * down d) + under t (n * up d * down e)
    go false false = omega arith
    go false true = omega arith
    go true false = omega arith
    go true true = omega arith

pub val-neg : (x : Float) → val (neg x) ≡ opp (val x)
unfolding neg
val-neg nan = refl
val-neg (inf s) = refl
val-neg (fin false m e) = refl
val-neg (fin true m e) = refl

pub neg-finite : (x : Float) → T (finite x) → T (finite (neg x))
unfolding neg
neg-finite nan p = p
neg-finite (inf s) p = p
neg-finite (fin s m e) p = p

pub sub-rounds : (f : Format) (x y : Float) → T (finite x) → T (finite y) → Rounds f (sub f x y) (val x ⊕ opp (val y))
unfolding sub
sub-rounds f x y p q = rw val-neg at (add_rounds f x (neg y) p (neg-finite y q))

pub mul-rounds : (f : Format) (x y : Float) → T (finite x) → T (finite y) → Rounds f (mul f x y) (val x ⊗ val y)
unfolding mul
mul-rounds f nan y p q = absurd p
mul-rounds f (inf s) y p q = absurd p
mul-rounds f (fin s m e) nan p q = absurd q
mul-rounds f (fin s m e) (inf t) p q = absurd q
mul-rounds f (fin s m e) (fin t n d) p q =
    record { sign = unlike s t; size = m * up e * (n * up d); is = refl; here = go s t; over = mul-pos (down_pos e) (down_pos d) }
  where
    go : (s t : Bool) → above (unlike s t) (m * up e * (n * up d)) + (val (fin s m e) ⊗ val (fin t n d)).minus
        ≡ (val (fin s m e) ⊗ val (fin t n d)).plus + under (unlike s t) (m * up e * (n * up d))
    go false false = omega arith
    go false true = omega arith
    go true false = omega arith
    go true true = omega arith

-- ---- a value of the format rounds to itself
same-value : (x y : Float) (s : Bool) (a c : ℕ) → 0 < c → HasValue x s a c → HasValue y s a c → Le x y
same-value nan y s a c C h k = h
same-value (inf t) y s a c C h k = absurd h
same-value (fin t m e) nan s a c C h k = k
same-value (fin t m e) (inf u) s a c C h k = absurd k
same-value (fin t m e) (fin u n d) s a c C h k = subst (λ (v : Bool). val (fin v m e) ≼ val (fin u n d)) (k.0 ∙ sym h.0) (go u)
  where
    go : (v : Bool) → val (fin v m e) ≼ val (fin v n d)
    go false = let l = transfer (m * up e) (n * up d) (down e) (down d) a a c c C C h.1 k.1 (le_of_eq refl) in omega arith
    go true = let l = transfer (n * up d) (m * up e) (down d) (down e) a a c c C C k.1 h.1 (le_of_eq refl) in omega arith

exponents : (i j : ℕ) → 2 ^ i ≤ 2 ^ j → i ≤ j
exponents i j h = le_of_suc-le-suc (lt_of_not-le (λ (g : suc j ≤ i). not-le_of_lt (pow-lt g) h))

-- with an exponent that is not too low, a value is so many units of 2 ^ -l
shift : (l m : ℕ) (e : ℤ) → down e ≤ 2 ^ l → (j : ℕ) × (m * up e * 2 ^ l ≡ m * 2 ^ j * down e)
shift l m (pos k) h = (k + l, rw pow-add (omega arith))
shift l m (negsuc k) h =
    let g : suc k ≤ l = exponents (suc k) l h in
    let p : 2 ^ (l - suc k) * 2 ^ suc k ≡ 2 ^ l = sym (pow-add 2 (l - suc k) (suc k)) ∙ ap (λ x. 2 ^ x) (sub-add_cancel g) in
    (l - suc k, go (2 ^ l) (2 ^ (l - suc k)) (2 ^ suc k) p)
  where
    go : (x y z : ℕ) → y * z ≡ x → m * 1 * x ≡ m * y * z
    go x y z p = rw (← p) (omega arith)

small : (l t m u j d : ℕ) → 0 < d → 0 < l → m * u * l ≡ m * j * d → m * u < t * d → m * j < l * t
small l t m u j d D L e h = lt_of_mul-lt-mul_right d (go (mul-lt-mul_of_pos_right h L))
  where
    go : m * u * l < t * d * l → m * j * d < l * t * d
    go g = omega arith

exact : (f : Format) (s : Bool) (m : ℕ) (e : ℤ) → T (fits f (fin s m e)) → HasValue (round f s (m * up e) (down e)) s (m * up e) (down e)
unfolding fits
exact f s zero e t =
    round_exact f s (0 * up e) (down e) 0 0 (down_pos e) (pow_pos (prec f)) (pow_pos (low f + suc (emax f))) (omega arith)
exact f s (suc m) e t =
    let a = eqb (suc m % 2) 1 in
    let b = ltb (suc m) (2 ^ prec f) in
    let c = leb (down e) (2 ^ low f) in
    let d = ltb (suc m * up e) (2 ^ suc (emax f) * down e) in
    let abc = and_l (a && b && c) d t in
    let B : suc m < 2 ^ prec f = ltb→lt (suc m) (2 ^ prec f) (and_r a b (and_l (a && b) c abc)) in
    let C : down e ≤ 2 ^ low f = leb→le (down e) (2 ^ low f) (and_r (a && b) c abc) in
    let D : suc m * up e < 2 ^ suc (emax f) * down e = ltb→lt (suc m * up e) (2 ^ suc (emax f) * down e) (and_r (a && b && c) d t) in
    let (j, g) = shift (low f) (suc m) e C in
    round_exact f s (suc m * up e) (down e) (suc m) j (down_pos e) B
    (rw pow-add (small (2 ^ low f) (2 ^ suc (emax f)) (suc m) (up e) (2 ^ j) (down e) (down_pos e) (pow_pos (low f)) g D)) g

-- the rounding of a finite z that fits lies neither above nor below z
itself : (f : Format) (z : Float) → T (fits f z) → T (finite z) → (v : Float) × Rounds f v (val z) × Le v z × Le z v
itself f nan t p = absurd p
itself f (inf s) t p = absurd p
itself f (fin s m e) t p =
    let v = round f s (m * up e) (down e) in
    let x = exact f s m e t in
    let y : HasValue (fin s m e) s (m * up e) (down e) = (refl, refl) in (
      v,
      record { sign = s; size = m * up e; is = refl; here = refl; over = down_pos e },
      same-value v (fin s m e) s (m * up e) (down e) (down_pos e) x y,
      same-value (fin s m e) v s (m * up e) (down e) (down_pos e) y x,
    )

-- so no rounding passes z: what is at most z rounds to at most z, and what is at least z to at least z
pub at_most : {f : Format} {w : Float} {q : Frac} (z : Float) → Rounds f w q → T (fits f z) → T (finite z) → q ≼ val z → Le w z
at_most {f} {w} z r t p h = let (v, e, d, u) = itself f z t p in Le-trans w v z (rounds-mono r e h) d

pub at_least : {f : Format} {w : Float} {q : Frac} (z : Float) → Rounds f w q → T (fits f z) → T (finite z) → val z ≼ q → Le z w
at_least {f} {w} z r t p h = let (v, e, d, u) = itself f z t p in Le-trans z v w u (rounds-mono e r h)

pub zero-fits : (f : Format) → T (fits f (fin false 0 (pos 0)))
unfolding fits
zero-fits f = tt
