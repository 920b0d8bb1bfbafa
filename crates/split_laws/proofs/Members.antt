-- What stands in a list: found by its key where keys ascend, and in lists made of others. Assumes nothing.
use Rattle.std.specs.Prelude.{Some}
use mathlib.Core.Path.{◌≡◌, refl, sym, ◌∙◌}
use mathlib.Core.Bool.{Bool, true, false, ◌||◌, cond}
use mathlib.Core.List.{List, [], ◌∷◌, ◌++◌, map}
use Prim.Native.Nat.{ℕ, zero, suc, ◌+◌, ◌<◌}
use native.Mathlib.Nat.{le_of_suc-le-suc, not-suc-le-zero}
use native.Mathlib.Omega.{arith}
use lib.Dec.{eqb, ltb}
use lib.ListN.{length, get_or}
use borrow.Author.Tests.{eq-eqb, ne_eqb, ltb-true}
use Rattle.lists.specs.Every.{all}
use Rattle.lists.specs.Select.{keep, any, find, each, ascending}
use Rattle.lists.proofs.Booleans.{and-fst, and-snd}
use Rattle.lists.proofs.Select.{above-all, ascending-tail, all_map}
use Rattle.laws.proofs.Find.{no-some, some_is, numbered, numbered-list}

pub data In {A : Type 0} (x : A) : List A → Type 0 where
  here : {xs : List A} → In x (x ∷ xs)
  there : {y : A} {xs : List A} → In x xs → In x (y ∷ xs)

module _ {A : Type 0} where
  pub all_in : (q : A → Bool) (xs : List A) (x : A) → In x xs → all q xs ≡ true → q x ≡ true
  unfolding all
  all_in q [] x i h = elim i [ ]
  all_in q (y ∷ ys) x here h = and-fst (q y) (all q ys) h
  all_in q (y ∷ ys) x (there i) h = all_in q ys x i (and-snd (q y) (all q ys) h)

  -- by its key
  pub in_found : (key : A → ℕ) (xs : List A) (x : A) → ascending (map key xs) ≡ true → In x xs → find (λ y. eqb (key y) (key x)) xs ≡ Some x
  unfolding find ascending
  in_found key [] x up i = elim i [ ]
  in_found key (y ∷ ys) x up here = rw (eq-eqb (key y) (key y) refl)
  in_found key (y ∷ ys) x up (there i) =
      let l : key y < key x = ltb-true (key y) (key x) (all_in (λ z. ltb (key y) (key z)) ys x i (sym (all_map (ltb (key y)) key ys) ∙ above-all (key y) (map key ys) up)) in
      rw (ne_eqb (key y) (key x) (λ q. omega arith)) (in_found key ys x (ascending-tail (key y) (map key ys) up) i)

  pub found_in : (q : A → Bool) (xs : List A) (x : A) → find q xs ≡ Some x → In x xs
  unfolding find
  found_in q [] x e = absurd (no-some x e)
  found_in q (y ∷ ys) x e = go (q y) e (λ f. found_in q ys x f)
    where
      go : (b : Bool) → cond b (Some y) (find q ys) ≡ Some x → (find q ys ≡ Some x → In x ys) → In x (y ∷ ys)
      go true f r = let z : y ≡ x = some_is f in rw z here
      go false f r = there (r f)

  pub in_front : (xs ys : List A) (x : A) → In x xs → In x (xs ++ ys)
  in_front [] ys x i = elim i [ ]
  in_front (y ∷ xs) ys x here = here
  in_front (y ∷ xs) ys x (there i) = there (in_front xs ys x i)

  pub in_behind : (xs ys : List A) (x : A) → In x ys → In x (xs ++ ys)
  in_behind [] ys x i = i
  in_behind (y ∷ xs) ys x i = there (in_behind xs ys x i)

  pub in_kept : (q : A → Bool) (xs : List A) (x : A) → In x xs → q x ≡ true → In x (keep q xs)
  unfolding keep
  in_kept q [] x i h = elim i [ ]
  in_kept q (y ∷ ys) x here h = rw h here
  in_kept q (y ∷ ys) x (there i) h = go (q y) (in_kept q ys x i h)
    where
      go : (b : Bool) → In x (keep q ys) → In x (cond b (y ∷ keep q ys) (keep q ys))
      go true j = there j
      go false j = j

  -- tests that agree on what stands in a list keep the same of it
  pub keep_in : (p q : A → Bool) (xs : List A) → ((x : A) → In x xs → p x ≡ q x) → keep p xs ≡ keep q xs
  unfolding keep
  keep_in p q [] h = refl
  keep_in p q (x ∷ xs) h = rw (h x here, keep_in p q xs (λ y i. h y (there i)))

  pub in_any : (q : A → Bool) (xs : List A) (x : A) → In x xs → q x ≡ true → any q xs ≡ true
  unfolding any
  in_any q [] x i h = elim i [ ]
  in_any q (y ∷ ys) x here h = rw h
  in_any q (y ∷ ys) x (there i) h = go (q y) (in_any q ys x i h)
    where
      go : (b : Bool) → any q ys ≡ true → (b || any q ys) ≡ true
      go true e = refl
      go false e = e

module _ {A B : Type 0} where
  pub in_map : (f : A → B) (xs : List A) (x : A) → In x xs → In (f x) (map f xs)
  in_map f [] x i = elim i [ ]
  in_map f (y ∷ xs) x here = here
  in_map f (y ∷ xs) x (there i) = there (in_map f xs x i)

  pub in_each : (f : A → List B) (xs : List A) (x : A) (y : B) → In x xs → In y (f x) → In y (each f xs)
  unfolding each
  in_each f [] x y i j = elim i [ ]
  in_each f (z ∷ xs) x y here j = in_front (f z) (each f xs) y j
  in_each f (z ∷ xs) x y (there i) j = in_behind (f z) (each f xs) y (in_each f xs x y i j)

-- a numbered one
pub in_numbered : {A : Type 0} (n : ℕ) (xs : List A) (j : ℕ) (x : A) → In (j, x) (numbered n xs) → In x xs
in_numbered {A} n xs j x i = rw (numbered-list n xs) at (in_map (λ (z : ℕ × A). z.1) (numbered n xs) (j, x) i)

-- its place
pub place_in : {A : Type 0} (xs : List A) (x : A) → In x xs → ℕ
place_in [] x i = elim i [ ]
place_in (y ∷ xs) x here = 0
place_in (y ∷ xs) x (there i) = suc (place_in xs x i)

pub place-within : {A : Type 0} (xs : List A) (x : A) (i : In x xs) → place_in xs x i < length xs
unfolding place_in
place-within [] x i = elim i [ ]
place-within (y ∷ xs) x here = omega arith
place-within (y ∷ xs) x (there i) = let h = place-within xs x i in omega arith

pub place_map : {A B : Type 0} (f : A → B) (d : B) (xs : List A) (x : A) (i : In x xs) → get_or (map f xs) (place_in xs x i) d ≡ f x
unfolding place_in
place_map f d [] x i = elim i [ ]
place_map f d (y ∷ xs) x here = refl
place_map f d (y ∷ xs) x (there i) = place_map f d xs x i

-- the one at number r
pub numbered_in : {A : Type 0} (n : ℕ) (xs : List A) (r : ℕ) (d : A) → r < length xs → In (n + r, get_or xs r d) (numbered n xs)
unfolding numbered
numbered_in n [] r d h = absurd (not-suc-le-zero h)
numbered_in n (x ∷ xs) zero d h = let z : n + 0 ≡ n = omega arith in rw z here
numbered_in n (x ∷ xs) (suc r) d h = let z : n + suc r ≡ suc n + r = omega arith in rw z (there (numbered_in (suc n) xs r d (le_of_suc-le-suc h)))
