-- Finding a row: in changed and joined lists, by another key, and in a numbered list. Assumes nothing.
use Rattle.std.specs.Prelude.{Option, None, Some}
use mathlib.Core.Path.{◌≡◌, refl, sym, ap, ◌∙◌}
use mathlib.Core.Bool.{Bool, true, false, cond}
use mathlib.Core.List.{List, [], ◌∷◌, ◌++◌, map}
use Prim.Native.Nat.{ℕ, suc, ◌+◌, ◌<◌, ◌≤◌}
use native.Mathlib.Omega.{arith}
use lib.Dec.{eqb, ltb, leb}
use lib.ListN.{length}
use borrow.Author.Tests.{eq-eqb, ne_eqb, ltb-true, lt-ltb, leb-true, le-leb}
use Rattle.lists.specs.Every.{all}
use Rattle.lists.specs.Select.{find, ascending}
use Rattle.lists.proofs.Booleans.{and_both, and-fst, and-snd}
use Rattle.lists.proofs.Select.{above-all, above_of, ascending-tail, all_map, all-weaken}
use Rattle.laws.proofs.Connect.{found_all}

-- ---- general

abbrev pub mapped : {A B : Type 0} → (A → B) → Option A → Option B
mapped f None = None
mapped f (Some x) = Some (f x)

abbrev pub or_else : {A : Type 0} → Option A → Option A → Option A
or_else None o = o
or_else (Some x) o = Some x

pub no-some : {A : Type 0} (x : A) → None ≡ Some x → ⊥
no-some x e = let z : ◌≡◌ {A = ℕ} 0 1 = cc in nothing z
  where
    nothing : ◌≡◌ {A = ℕ} 0 1 → ⊥
    nothing z = omega arith

pub some_is : {A : Type 0} {x y : A} → Some x ≡ Some y → x ≡ y
some_is e = cc

pub find-mapped : {A B : Type 0} (p : B → Bool) (f : A → B) (xs : List A) → find p (map f xs) ≡ mapped f (find (λ x. p (f x)) xs)
unfolding find
find-mapped p f [] = refl
find-mapped p f (x ∷ xs) = go (p (f x)) (find-mapped p f xs)
  where
    go : (b : Bool) → find p (map f xs) ≡ mapped f (find (λ y. p (f y)) xs)
        → cond b (Some (f x)) (find p (map f xs)) ≡ mapped f (cond b (Some x) (find (λ y. p (f y)) xs))
    go true r = refl
    go false r = r

pub find-append : {A : Type 0} (p : A → Bool) (xs ys : List A) → find p (xs ++ ys) ≡ or_else (find p xs) (find p ys)
unfolding find
find-append p [] ys = refl
find-append p (x ∷ xs) ys = go (p x) (find-append p xs ys)
  where
    go : (b : Bool) → find p (xs ++ ys) ≡ or_else (find p xs) (find p ys)
        → cond b (Some x) (find p (xs ++ ys)) ≡ or_else (cond b (Some x) (find p xs)) (find p ys)
    go true r = refl
    go false r = r

-- nothing is found where nothing passes
pub find_none : {A : Type 0} (p q : A → Bool) (xs : List A) → all q xs ≡ true → ((x : A) → q x ≡ true → p x ≡ false) → find p xs ≡ None
unfolding find all
find_none p q [] a h = refl
find_none p q (x ∷ xs) a h = rw (h x (and-fst (q x) (all q xs) a)) (find_none p q xs (and-snd (q x) (all q xs) a) h)

-- what is found is found by its key, where keys ascend
pub found-by : {A : Type 0} (key : A → ℕ) (p : A → Bool) (xs : List A) (x : A) → ascending (map key xs) ≡ true → find p xs ≡ Some x
    → find (λ y. eqb (key y) (key x)) xs ≡ Some x
unfolding find ascending
found-by key p [] x up e = e
found-by key p (y ∷ ys) x up e = go (p y) refl (found-by key p ys x (ascending-tail (key y) (map key ys) up))
  where
    go : (b : Bool) → p y ≡ b → (find p ys ≡ Some x → find (λ z. eqb (key z) (key x)) ys ≡ Some x)
        → cond (eqb (key y) (key x)) (Some y) (find (λ z. eqb (key z) (key x)) ys) ≡ Some x
    go true h r =
        let s : Some y ≡ Some x = rw h at e in
        let u : y ≡ x = some_is s in
        rw (eq-eqb (key y) (key x) (ap key u)) s
    go false h r =
        let s : find p ys ≡ Some x = rw h at e in
        let later : all (λ z. ltb (key y) (key z)) ys ≡ true = sym (all_map (ltb (key y)) key ys) ∙ above-all (key y) (map key ys) up in
        let l : key y < key x = ltb-true (key y) (key x) (found_all p (λ z. ltb (key y) (key z)) ys x s later) in
        rw (ne_eqb (key y) (key x) (λ q. omega arith)) (r s)

-- ---- a numbered list

unfoldable pub numbered : {A : Type 0} → ℕ → List A → List (ℕ × A)
numbered n [] = []
numbered n (x ∷ xs) = (n, x) ∷ numbered (suc n) xs

module _ {A : Type 0} where
  pub numbered-list : (n : ℕ) (xs : List A) → map (λ (z : ℕ × A). z.1) (numbered n xs) ≡ xs
  unfolding numbered
  numbered-list n [] = refl
  numbered-list n (x ∷ xs) = ap (λ ys. x ∷ ys) (numbered-list (suc n) xs)

  -- every number is at least the first, and below the end
  pub numbered-from : (n : ℕ) (xs : List A) (k : ℕ) → k ≤ n → all (λ (z : ℕ × A). leb k z.0) (numbered n xs) ≡ true
  unfolding numbered all
  numbered-from n [] k h = refl
  numbered-from n (x ∷ xs) k h = and_both (leb k n) (all (λ (z : ℕ × A). leb k z.0) (numbered (suc n) xs)) (le-leb k n h) (numbered-from (suc n) xs k (omega arith))

  pub numbered_below : (n : ℕ) (xs : List A) (k : ℕ) → n + length xs ≤ k → all (λ (z : ℕ × A). ltb z.0 k) (numbered n xs) ≡ true
  unfolding numbered all
  numbered_below n [] k h = refl
  numbered_below n (x ∷ xs) k h =
      and_both (ltb n k) (all (λ (z : ℕ × A). ltb z.0 k) (numbered (suc n) xs)) (lt-ltb n k (omega arith)) (numbered_below (suc n) xs k (omega arith))

  pub numbered-up : (n : ℕ) (xs : List A) → ascending (map (λ (z : ℕ × A). z.0) (numbered n xs)) ≡ true
  unfolding numbered ascending
  numbered-up n [] = refl
  numbered-up n (x ∷ xs) =
      above_of n (map (λ (z : ℕ × A). z.0) (numbered (suc n) xs))
      (all_map (ltb n) (λ (z : ℕ × A). z.0) (numbered (suc n) xs)
      ∙ all-weaken (λ (z : ℕ × A). leb (suc n) z.0) (λ (z : ℕ × A). ltb n z.0) (numbered (suc n) xs)
      (λ z t. let u = leb-true (suc n) z.0 t in lt-ltb n z.0 (omega arith)) (numbered-from (suc n) xs (suc n) (omega arith)))
      (numbered-up (suc n) xs)
