-- How lines come to lie in `work`: they are read from coordinates that were copied there, or written there, and stay when others are written
-- behind them. For those who fill `Lies`. Assumes nothing.
use mathlib.Core.Path.{◌≡◌, refl, sym, ap, ◌∙◌}
use mathlib.Core.Logic.{⊎_elim}
use Prim.Native.Nat.{ℕ, zero, suc, ◌+◌, ◌-◌, ◌*◌, ◌/◌, ◌≤◌}
use native.Mathlib.Omega.{arith}
use mathlib.Core.Bool.{Bool, true, false, cond}
use mathlib.Core.List.{List, [], ◌∷◌, ◌++◌, map, append-nil}
use lib.Ieee.{Float}
use lib.ListN.{length, take, drop}
use lib.Seq.{take-take, take_at}
use Rattle.lists.specs.Rows.{reads, over}
use Rattle.lists.specs.Select.{keep, each}
use Rattle.lists.proofs.Every.{all_nil, all_cons}
use Rattle.lists.proofs.Rows.{drop-take, drop-from-over, take-before-over}
use Rattle.polyline.specs.Polyline.{point_of, points, flat}
use Rattle.polyline.proofs.Points.{length-flat, length-points}
use Rattle.entities.specs.Records.{Line}
use Rattle.tables.specs.View.{part}
use Rattle.tables.specs.Formed.{Span}
use Rattle.apart.specs.Marks.{within}
use Rattle.apart.proofs.Marks.{within-cases}
use Rattle.layout.specs.Layout.{line_floats, points_in}
use Rattle.layout.proofs.Column.{length-laid}
use Rattle.layout.specs.Pointed.{EachOf, LineIn}

-- ---- general

-- F of each element, of two lists joined and of a list changed
pub each-of-append : {A : Type 0} (F : A → Type 0) (xs ys : List A) → EachOf F xs → EachOf F ys → EachOf F (xs ++ ys)
unfolding EachOf
each-of-append F [] ys d e = e
each-of-append F (x ∷ xs) ys d e = (d.0, each-of-append F xs ys d.1 e)

pub each-of-map : {A B : Type 0} (F : B → Type 0) (g : A → B) (xs : List A) → EachOf (λ x. F (g x)) xs → EachOf F (map g xs)
unfolding EachOf
each-of-map F g [] e = refl
each-of-map F g (x ∷ xs) e = (e.0, each-of-map F g xs e.1)

pub each-of-keep : {A : Type 0} (F : A → Type 0) (p : A → Bool) (xs : List A) → EachOf F xs → EachOf F (keep p xs)
unfolding EachOf keep
each-of-keep F p [] e = refl
each-of-keep F p (x ∷ xs) e = go (p x) (each-of-keep F p xs e.1)
  where
    go : (b : Bool) → EachOf F (keep p xs) → EachOf F (cond b (x ∷ keep p xs) (keep p xs))
    go true r = (e.0, r)
    go false r = r

flat-reads : (n : ℕ) (w : List Float) → length w ≡ n * 3 → flat (reads 3 point_of n w) ≡ w
unfolding reads point_of flat
flat-reads zero [] h = refl
flat-reads zero (x ∷ w) h = absurd (omega arith)
flat-reads (suc n) [] h = absurd (omega arith)
flat-reads (suc n) (x ∷ []) h = absurd (omega arith)
flat-reads (suc n) (x ∷ y ∷ []) h = absurd (omega arith)
flat-reads (suc n) (x ∷ y ∷ z ∷ w) h = ap (λ v. x ∷ y ∷ z ∷ v) (flat-reads n w (omega (arith, h)))

-- whole points, and back
pub flat-points : (n : ℕ) (w : List Float) → length w ≡ n * 3 → flat (points w) ≡ w
unfolding points
flat-points n w h = let e : length w / 3 ≡ n = omega (arith, h) in rw e (flat-reads n w h)

-- a part that ends before what is written
part-before : {A : Type 0} (w l : List A) (a k n : ℕ) → k + n ≤ a → a ≤ length w → take n (drop k (over w a l)) ≡ take n (drop k w)
part-before {A} w l a k n h i = sym (cut (over w a l)) ∙ (ap (drop k) same ∙ cut w)
  where
    cut : (v : List A) → drop k (take (k + n) v) ≡ take n (drop k v)
    cut v = let e : k + n - k ≡ n = omega arith in drop-take k (k + n) v ∙ rw e

    same : take (k + n) (over w a l) ≡ take (k + n) w
    same = sym (take-take (k + n) a (over w a l) h) ∙ (ap (take (k + n)) (take-before-over w a l i) ∙ take-take (k + n) a w h)

-- ---- lines in `work`

pub length_part : (c : List Float) (start n : ℕ) → within (length c / 3) (record { start = start; size = n }) ≡ true → length (part c start n) ≡ n * 3
unfolding line_floats each points_in
length_part c start n h =
    let x : Span = record { start = start; size = n } in
    let k = within (length c / 3) in
    let a : length (part c start n ++ []) ≡ (n + 0) * 3 = length-laid c (x ∷ []) (all_cons k x [] h (all_nil k)) in
    ap length (sym (append-nil (part c start n))) ∙ (a ∙ omega arith)

-- a line read from coordinates, where `work` has the same floats
pub line_read : (c work : List Float) (start n : ℕ) → within (length c / 3) (record { start = start; size = n }) ≡ true → part work start n ≡ part c start n
    → LineIn work start (points (part c start n))
line_read c work start n h e =
    let l = length_part c start n h in
    let m : length (points (part c start n)) ≡ n = omega (arith, length-points (part c start n), l) in
    ap (part work start) m ∙ (e ∙ sym (flat-points n (part c start n) l))

-- a line written
pub line-written : (work : List Float) (at : ℕ) (c : Line) → at * 3 ≤ length work → LineIn (over work (at * 3) (flat c)) at c
unfolding part
line-written work at c h =
    ap (take (length c * 3)) (drop-from-over work (at * 3) (flat c) h) ∙ take_at (flat c) (drop (at * 3 + length (flat c)) work) (length c * 3) (length-flat c)

-- a line that lies before what is written stays
pub line_before : (work l : List Float) (at start : ℕ) (c : Line) → within at (record { start = start; size = length c }) ≡ true → at * 3 ≤ length work
    → LineIn work start c → LineIn (over work (at * 3) l) start c
unfolding part
line_before work l at start c h i e = ⊎_elim empty inside (within-cases at (record { start = start; size = length c }) h) ∙ e
  where
    empty : length c ≡ 0 → take (length c * 3) (drop (start * 3) (over work (at * 3) l)) ≡ take (length c * 3) (drop (start * 3) work)
    empty z = rw z

    inside : start + length c ≤ at → take (length c * 3) (drop (start * 3) (over work (at * 3) l)) ≡ take (length c * 3) (drop (start * 3) work)
    inside j = part-before work l (at * 3) (start * 3) (length c * 3) (omega (arith, j)) i
