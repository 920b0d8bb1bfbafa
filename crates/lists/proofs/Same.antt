-- Ascending lists with the same numbers are the same. Assumes nothing.
use mathlib.Core.Path.{◌≡◌, refl, sym, ap, ◌∙◌}
use Prim.Native.Nat.{ℕ, ◌≤◌, ◌<◌}
use native.Mathlib.Omega.{arith}
use mathlib.Core.Bool.{Bool, true, false, true≢false}
use mathlib.Core.List.{List, [], ◌∷◌}
use lib.Dec.{eqb, ltb}
use borrow.Author.Tests.{eq-eqb, eqb-true, ltb-true}
use Rattle.lists.specs.Select.{has, above, ascending}
use Rattle.lists.proofs.Select.{above-all, ascending-tail, all-has}

-- two ascending lists with the same numbers
first-not-below : (x y : ℕ) (xs ys : List ℕ) → above x xs ≡ true → above y ys ≡ true → has x (y ∷ ys) ≡ true → y ≤ x
unfolding has
first-not-below x y xs ys u v h = go (eqb x y) refl
  where
    go : (b : Bool) → eqb x y ≡ b → y ≤ x
    go true e = omega (arith, eqb-true x y e)
    go false e =
        let i : has x ys ≡ true = rw e at h in
        omega (arith, ltb-true y x (all-has (ltb y) x ys (above-all y ys v) i))

pub ascending-same : (xs ys : List ℕ) → ascending xs ≡ true → ascending ys ≡ true → ((n : ℕ) → has n xs ≡ has n ys) → xs ≡ ys
unfolding has ascending
ascending-same [] [] u v e = refl
ascending-same [] (y ∷ ys) u v e = absurd (true≢false (sym (e y ∙ rw (eq-eqb y y refl))))
ascending-same (x ∷ xs) [] u v e = absurd (true≢false (sym (rw (eq-eqb x x refl)) ∙ e x))
ascending-same (x ∷ xs) (y ∷ ys) u v e =
    let hx : has x (y ∷ ys) ≡ true = sym (e x) ∙ rw (eq-eqb x x refl) in
    let hy : has y (x ∷ xs) ≡ true = e y ∙ rw (eq-eqb y y refl) in
    let p = first-not-below x y xs ys u v hx in
    let q = first-not-below y x ys xs v u hy in
    let z : x ≡ y = omega arith in
    let rest : xs ≡ ys = ascending-same xs ys (ascending-tail x xs u) (ascending-tail y ys v) (λ n. tails z n (eqb n x) refl) in
    rw (z, rest)
  where
    lacks : (k : ℕ) (ks : List ℕ) → above k ks ≡ true → has k ks ≡ true → ⊥
    lacks k ks a h = let l : k < k = ltb-true k k (all-has (ltb k) k ks (above-all k ks a) h) in omega arith

    absent : (k : ℕ) (ks : List ℕ) → above k ks ≡ true → has k ks ≡ false
    absent k ks a = go (has k ks) refl
      where
        go : (b : Bool) → has k ks ≡ b → b ≡ false
        go true h = absurd (lacks k ks a h)
        go false h = refl

    tails : x ≡ y → (n : ℕ) (b : Bool) → eqb n x ≡ b → has n xs ≡ has n ys
    tails z n true t =
        let k : n ≡ x = eqb-true n x t in
        let l : n ≡ y = k ∙ z in
        ap (λ i. has i xs) k ∙ (absent x xs u ∙ sym (ap (λ i. has i ys) l ∙ absent y ys v))
    tails z n false t =
        let f : eqb n y ≡ false = ap (eqb n) (sym z) ∙ t in
        let g = e n in
        (rw (t, f) at g)
