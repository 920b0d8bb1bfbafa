-- A split cuts at most two boundaries a lane. Assumes nothing.
use mathlib.Core.Path.{◌≡◌, refl, ap}
use Prim.Native.Nat.{ℕ, ◌+◌, ◌*◌, ◌≤◌, ◌<◌}
use native.Mathlib.Omega.{arith}
use mathlib.Core.Bool.{Bool, true, false, not, ◌||◌, cond}
use mathlib.Core.List.{List, [], ◌∷◌}
use lib.Dec.{eqb, ltb}
use lib.ListN.{length}
use borrow.Author.Tests.{eqb-true, ltb-true, ne_eqb}
use Rattle.lists.specs.Every.{all}
use Rattle.lists.specs.Select.{keep, any, ascending}
use Rattle.lists.proofs.Select.{all-weaken, above-all, ascending-tail, keep-none}
use Rattle.tables.specs.View.{word}
use Rattle.lookup.specs.Lookup.{row_uses}

-- of two tests as many pass as pass each
keep-or : {A : Type 0} (p q : A → Bool) (xs : List A) → length (keep (λ x. p x || q x) xs) ≤ length (keep p xs) + length (keep q xs)
unfolding keep
keep-or p q [] = omega arith
keep-or p q (x ∷ xs) = go (p x) (q x) (keep-or p q xs)
  where
    go : (a b : Bool) → length (keep (λ x. p x || q x) xs) ≤ length (keep p xs) + length (keep q xs)
        → length (cond (a || b) (x ∷ keep (λ x. p x || q x) xs) (keep (λ x. p x || q x) xs)) ≤ length (cond a (x ∷ keep p xs) (keep p xs)) + length (cond b (x ∷ keep q xs) (keep q xs))
    go true true h = omega arith
    go true false h = omega arith
    go false true h = omega arith
    go false false h = h

-- in an ascending list a number stands once
keep_one : (a : ℕ) (ks : List ℕ) → ascending ks ≡ true → length (keep (λ k. eqb a k) ks) ≤ 1
unfolding keep ascending
keep_one a [] h = omega arith
keep_one a (k ∷ ks) h = go (eqb a k) refl (keep_one a ks (ascending-tail k ks h))
  where
    none-behind : eqb a k ≡ true → keep (λ j. eqb a j) ks ≡ []
    none-behind e =
        keep-none (λ j. eqb a j) ks
        (all-weaken (ltb k) (λ j. not (eqb a j)) ks (λ j t. let l : k < j = ltb-true k j t in let s : a ≡ k = eqb-true a k e in ap not (ne_eqb a j (λ q. omega arith))) (above-all k ks h))

    go : (b : Bool) → eqb a k ≡ b → length (keep (λ j. eqb a j) ks) ≤ 1 → length (cond b (k ∷ keep (λ j. eqb a j) ks) (keep (λ j. eqb a j) ks)) ≤ 1
    go true e r = let z = none-behind e in omega (arith, ap length z)
    go false e r = r

yes : (ks : List ℕ) → all (λ (k : ℕ). true) ks ≡ true
unfolding all
yes [] = refl
yes (k ∷ ks) = yes ks

-- of ascending boundaries a list of lanes uses at most two a lane
pub used-few : (ws : List (List ℕ)) (ks : List ℕ) → ascending ks ≡ true → length (keep (λ k. any (row_uses k) ws) ks) ≤ length ws * 2
unfolding any
used-few [] ks h = let e : keep (λ (k : ℕ). false) ks ≡ [] = keep-none (λ (k : ℕ). false) ks (yes ks) in omega (arith, ap length e)
used-few (w ∷ ws) ks h =
    omega (arith, keep-or (λ k. row_uses k w) (λ k. any (row_uses k) ws) ks, keep-or (λ k. eqb (word 2 w) k) (λ k. eqb (word 4 w) k) ks, keep_one (word 2 w) ks h, keep_one (word 4 w) ks h, used-few ws ks h)
