-- Those of a list that are marked, and the answers of all of them up to the first refusal. Assumes nothing.
use Rattle.std.specs.Prelude.{Err, Ok}
use mathlib.Core.Path.{◌≡◌, refl, sym, ap, ◌∙◌}
use Prim.Native.Nat.{ℕ, zero, suc, ◌+◌, ◌<◌}
use native.Mathlib.Nat.{le_of_suc-le-suc, not-suc-le-zero}
use native.Mathlib.Numerals.{add-one}
use native.Mathlib.Omega.{arith}
use mathlib.Core.Bool.{Bool, true, false, cond}
use mathlib.Core.List.{List, [], ◌∷◌, ◌++◌, append-nil, append_assoc}
use lib.Ieee.{Float}
use lib.ListN.{length, get_or, take, drop}
use Rattle.rules.specs.Names.{Refusal}
use Rattle.rules.specs.Edit.{Res, ◌>>=◌, Passed, passed}
use Rattle.split_plan.specs.Placing.{picked, all_of, good_of, all_pass}

-- ---- those that are marked

module _ {A : Type 0} where
  pub picked_none : (s : List Bool) → ◌≡◌ {A = List A} (picked s []) []
  unfolding picked
  picked_none [] = refl
  picked_none (b ∷ s) = refl

  -- those before place j, and those from there on
  parts : (s : List Bool) (xs : List A) (j : ℕ) → picked s xs ≡ picked s (take j xs) ++ picked (drop j s) (drop j xs)
  unfolding picked
  parts s xs zero = rw (picked_none s)
  parts [] xs (suc j) = refl
  parts (b ∷ s) [] (suc j) = sym (picked_none (drop j s))
  parts (b ∷ s) (x ∷ xs) (suc j) = go b (parts s xs j)
    where
      go : (b : Bool) → picked s xs ≡ picked s (take j xs) ++ picked (drop j s) (drop j xs)
          → cond b (x ∷ picked s xs) (picked s xs) ≡ cond b (x ∷ picked s (take j xs)) (picked s (take j xs)) ++ picked (drop j s) (drop j xs)
      go true e = ap (λ (l : List A). x ∷ l) e
      go false e = e

  more-suc : (s : List Bool) (xs : List A) (j : ℕ) (d : A) → j < length xs → j < length s
      → picked s (take (suc j) xs) ≡ picked s (take j xs) ++ cond (get_or s j false) (get_or xs j d ∷ []) []
  unfolding picked
  more-suc s [] j d a b = absurd (not-suc-le-zero a)
  more-suc [] (x ∷ xs) j d a b = absurd (not-suc-le-zero b)
  more-suc (c ∷ s) (x ∷ xs) zero d a b = rw (picked_none s)
  more-suc (c ∷ s) (x ∷ xs) (suc j) d a b = go c (more-suc s xs j d (le_of_suc-le-suc a) (le_of_suc-le-suc b))
    where
      go : (b : Bool) → picked s (take (suc j) xs) ≡ picked s (take j xs) ++ cond (get_or s j false) (get_or xs j d ∷ []) []
          → cond b (x ∷ picked s (take (suc j) xs)) (picked s (take (suc j) xs)) ≡ cond b (x ∷ picked s (take j xs)) (picked s (take j xs)) ++ cond (get_or s j false) (get_or xs j d ∷ []) []
      go true r = ap (λ (l : List A). x ∷ l) r
      go false r = r

  -- the next one
  module _ (s : List Bool) (xs : List A) (j : ℕ) (d : A) (a : j < length xs) (b : j < length s) where
    pub pick-one : get_or s j false ≡ true → picked s (take (j + 1) xs) ≡ picked s (take j xs) ++ (get_or xs j d ∷ [])
    pick-one m = rw add-one (more-suc s xs j d a b ∙ rw m)

    pub pick-none : get_or s j false ≡ false → picked s (take (j + 1) xs) ≡ picked s (take j xs)
    pick-none m = rw add-one (more-suc s xs j d a b ∙ rw (m, append-nil))

    -- and those behind it
    pub pick-rest : get_or s j false ≡ true → picked s xs ≡ picked s (take j xs) ++ (get_or xs j d ∷ picked (drop (j + 1) s) (drop (j + 1) xs))
    pick-rest m =
        let rest = picked (drop (j + 1) s) (drop (j + 1) xs) in
        parts s xs (j + 1) ∙ ap (λ (l : List A). l ++ rest) (pick-one m) ∙ append_assoc (picked s (take j xs)) (get_or xs j d ∷ []) rest

-- ---- every one has an answer

pub data Each {A : Type 0} (f : A → Res Float) : List A → List Float → Type 0 where
  none : Each f [] []
  one : {x : A} {y : Float} {xs : List A} {ys : List Float} → f x ≡ Ok y → Each f xs ys → Each f (x ∷ xs) (y ∷ ys)

module _ {A : Type 0} (f : A → Res Float) where
  pub each_more : {xs : List A} {ys : List Float} → Each f xs ys → (x : A) (y : Float) → f x ≡ Ok y → Each f (xs ++ (x ∷ [])) (ys ++ (y ∷ []))
  each_more none x y e = one e none
  each_more (one g r) x y e = one g (each_more r x y e)

  pub each-length : {xs : List A} {ys : List Float} → Each f xs ys → length ys ≡ length xs
  each-length none = refl
  each-length (one g r) = ap suc (each-length r)

  pub each_all : {xs : List A} {ys : List Float} → Each f xs ys → all_of f xs ≡ Ok ys
  unfolding all_of
  each_all none = refl
  each_all (one g r) = rw (g, each_all r)

  -- what comes behind them
  pub each-good : {xs : List A} {ys : List Float} → Each f xs ys → (zs : List A) → good_of f (xs ++ zs) ≡ ys ++ good_of f zs
  unfolding good_of
  each-good none zs = refl
  each-good (one g r) zs = rw (g, each-good r zs)

  pub each-refused : {xs : List A} {ys : List Float} → Each f xs ys → (x : A) (r : Refusal) (zs : List A) → f x ≡ Err r → all_of f (xs ++ (x ∷ zs)) ≡ Err r
  unfolding all_of
  each-refused none x r zs e = rw e
  each-refused (one g h) x r zs e = rw (g, each-refused h x r zs e)

  pub good-refused : (x : A) (r : Refusal) (zs : List A) → f x ≡ Err r → good_of f (x ∷ zs) ≡ []
  unfolding good_of
  good-refused x r zs e = rw e

  -- from the answers of all
  pub all-each : (xs : List A) (ys : List Float) → all_of f xs ≡ Ok ys → Each f xs ys
  unfolding all_of
  all-each [] ys e = let z : ys ≡ [] = cc in rw z none
  all-each (x ∷ xs) ys e = go (f x) refl (all_of f xs) (all-each xs) e
    where
      go : (a : Res Float) → f x ≡ a → (b : Res (List Float)) → ((zs : List Float) → b ≡ Ok zs → Each f xs zs) → (a >>= λ y. b >>= λ zs. Ok (y ∷ zs)) ≡ Ok ys → Each f (x ∷ xs) ys
      go (Err r) p b q h = let z : ◌≡◌ {A = ℕ} 0 1 = cc in absurd (omega arith)
      go (Ok y) p (Err r) q h = let z : ◌≡◌ {A = ℕ} 0 1 = cc in absurd (omega arith)
      go (Ok y) p (Ok zs) q h = let z : ys ≡ y ∷ zs = cc in rw z (one p (q zs refl))

-- ---- every one passes

module _ {A : Type 0} (f : A → Res Passed) where
  -- the tests of those that are left, where the others passed
  pub pass-more : (xs zs : List A) → all_pass f xs ≡ Ok passed → all_pass f (xs ++ zs) ≡ all_pass f zs
  unfolding all_pass
  pass-more [] zs e = refl
  pass-more (x ∷ xs) zs e = go (f x) (pass-more xs zs) e
    where
      go : (a : Res Passed) → (all_pass f xs ≡ Ok passed → all_pass f (xs ++ zs) ≡ all_pass f zs) → (a >>= λ _. all_pass f xs) ≡ Ok passed → (a >>= λ _. all_pass f (xs ++ zs)) ≡ all_pass f zs
      go (Err r) p h = let z : ◌≡◌ {A = ℕ} 0 1 = cc in absurd (omega arith)
      go (Ok ok) p h = p h

  pub pass-first : (x : A) (zs : List A) → all_pass f (x ∷ zs) ≡ (f x >>= λ _. all_pass f zs)
  unfolding all_pass
  pass-first x zs = refl
