-- A table whose keys ascend, with some rows left out: which keys go, and which rows are found as before. Assumes nothing.
use Rattle.std.specs.Prelude.{Option, None, Some}
use mathlib.Core.Path.{◌≡◌, refl, sym, ap, subst, ◌∙◌}
use mathlib.Core.Bool.{Bool, true, false, not, ◌&&◌, ◌||◌, cond, true≢false}
use mathlib.Core.List.{List, [], ◌∷◌, map}
use Prim.Native.Nat.{ℕ, ◌<◌}
use native.Mathlib.Omega.{arith}
use lib.Dec.{eqb, ltb}
use borrow.Author.Tests.{eqb-true, eq-eqb, ne_eqb, ltb-true}
use Rattle.lists.specs.Every.{all}
use Rattle.lists.specs.Select.{keep, find, has, ascending}
use Rattle.lists.proofs.Booleans.{and-fst, and-snd}
use Rattle.lists.proofs.Select.{any_same, any-one, on_found, above-all, ascending-tail, all_map, all_keep}
use Rattle.laws.proofs.Links.{and-swap, eqb_swap}
use Rattle.laws.proofs.Exact.{has_kept, found_map, changed_by}

-- ---- general

-- two tests that agree where a third passes
pub keep-on : {A : Type 0} (r p q : A → Bool) (xs : List A) → all r xs ≡ true → ((x : A) → r x ≡ true → p x ≡ q x) → keep p xs ≡ keep q xs
unfolding keep all
keep-on r p q [] a h = refl
keep-on r p q (x ∷ xs) a h = rw (h x (and-fst (r x) (all r xs) a), keep-on r p q xs (and-snd (r x) (all r xs) a) h)

-- a number below every number of a list is not in it
pub below_none : (i : ℕ) (xs : List ℕ) → all (ltb i) xs ≡ true → has i xs ≡ false
unfolding has all
below_none i [] a = refl
below_none i (x ∷ xs) a =
    let l : i < x = ltb-true i x (and-fst (ltb i x) (all (ltb i) xs) a) in
    rw (ne_eqb i x (λ e. omega arith)) (below_none i xs (and-snd (ltb i x) (all (ltb i) xs) a))

-- what is found and passes is found among those that pass
pub found-keep : {A : Type 0} (p q : A → Bool) (x : A) (xs : List A) → find q xs ≡ Some x → p x ≡ true → find q (keep p xs) ≡ Some x
unfolding find keep
found-keep p q x [] e t = e
found-keep p q x (y ∷ ys) e t = go (q y) (p y) refl refl (λ r. found-keep p q x ys r t)
  where
    go : (b c : Bool) → q y ≡ b → p y ≡ c → (find q ys ≡ Some x → find q (keep p ys) ≡ Some x) → find q (cond c (y ∷ keep p ys) (keep p ys)) ≡ Some x
    go true true u v r = rw u (rw u at e)
    go true false u v r =
        let s : Some y ≡ Some x = rw u at e in
        let w : y ≡ x = cc in
        absurd (true≢false (sym t ∙ (ap p (sym w) ∙ v)))
    go false true u v r = rw u (r (rw u at e))
    go false false u v r = r (rw u at e)

-- ---- a table by its keys

module _ {A : Type 0} (key : A → ℕ) where
  keys-above : (i : ℕ) (p : A → Bool) (xs : List A) → all (ltb i) (map key xs) ≡ true → all (ltb i) (map key (keep p xs)) ≡ true
  keys-above i p xs h = all_map (ltb i) key (keep p xs) ∙ all_keep (λ x. ltb i (key x)) p xs (sym (all_map (ltb i) key xs) ∙ h)

  -- the keys that go are those of the rows that do not pass
  pub left_out : (p : A → Bool) (xs : List A) → ascending (map key xs) ≡ true
      → keep (λ i. not (has i (map key (keep p xs)))) (map key xs) ≡ map key (keep (λ x. not (p x)) xs)
  unfolding keep has ascending
  left_out p [] h = refl
  left_out p (y ∷ ys) h = go (p y) (left_out p ys (ascending-tail (key y) (map key ys) h))
    where
      later : all (ltb (key y)) (map key ys) ≡ true
      later = above-all (key y) (map key ys) h

      go : (b : Bool) → keep (λ i. not (has i (map key (keep p ys)))) (map key ys) ≡ map key (keep (λ x. not (p x)) ys)
          → cond (not (has (key y) (map key (cond b (y ∷ keep p ys) (keep p ys))))) (key y ∷ keep (λ i. not (has i (map key (cond b (y ∷ keep p ys) (keep p ys))))) (map key ys))
          (keep (λ i. not (has i (map key (cond b (y ∷ keep p ys) (keep p ys))))) (map key ys))
          ≡ map key (cond (not b) (y ∷ keep (λ x. not (p x)) ys) (keep (λ x. not (p x)) ys))
      go true r =
          ap (λ t. cond (not (t || has (key y) (map key (keep p ys)))) (key y ∷ keep (λ i. not (eqb i (key y) || has i (map key (keep p ys)))) (map key ys))
          (keep (λ i. not (eqb i (key y) || has i (map key (keep p ys)))) (map key ys))) (eq-eqb (key y) (key y) refl)
          ∙ (keep-on (ltb (key y)) (λ i. not (eqb i (key y) || has i (map key (keep p ys)))) (λ i. not (has i (map key (keep p ys)))) (map key ys) later
          (λ i t. let l : key y < i = ltb-true (key y) i t in rw (ne_eqb i (key y) (λ e. omega arith)))
          ∙ r)
      go false r =
          ap (λ t. cond (not t) (key y ∷ keep (λ i. not (has i (map key (keep p ys)))) (map key ys)) (keep (λ i. not (has i (map key (keep p ys)))) (map key ys)))
          (below_none (key y) (map key (keep p ys)) (keys-above (key y) p ys later))
          ∙ ap (λ zs. key y ∷ zs) r

  -- the row with a key, alone
  pub keep_one : (i : ℕ) (xs : List A) (x : A) → ascending (map key xs) ≡ true → find (λ y. eqb (key y) i) xs ≡ Some x → map key (keep (λ y. eqb (key y) i) xs) ≡ i ∷ []
  unfolding find keep ascending
  keep_one i [] x h e = let z : ◌≡◌ {A = ℕ} 0 1 = cc in absurd (nothing z)
    where
      nothing : ◌≡◌ {A = ℕ} 0 1 → ⊥
      nothing z = omega arith
  keep_one i (y ∷ ys) x h e = go (eqb (key y) i) refl (keep_one i ys x (ascending-tail (key y) (map key ys) h))
    where
      none-later : (zs : List A) → all (ltb (key y)) (map key zs) ≡ true → keep (λ z. eqb (key z) (key y)) zs ≡ []
      none-later zs a =
          keep-on (λ z. ltb (key y) (key z)) (λ z. eqb (key z) (key y)) (λ z. false) zs (sym (all_map (ltb (key y)) key zs) ∙ a)
          (λ z t. let l : key y < key z = ltb-true (key y) (key z) t in ne_eqb (key z) (key y) (λ u. omega arith))
          ∙ nil zs
        where
          nil : (zs : List A) → keep (λ z. false) zs ≡ []
          nil [] = refl
          nil (z ∷ zs) = nil zs

      go : (b : Bool) → eqb (key y) i ≡ b → (find (λ z. eqb (key z) i) ys ≡ Some x → map key (keep (λ z. eqb (key z) i) ys) ≡ i ∷ [])
          → map key (cond b (y ∷ keep (λ z. eqb (key z) i) ys) (keep (λ z. eqb (key z) i) ys)) ≡ i ∷ []
      go true t r =
          let u : key y ≡ i = eqb-true (key y) i t in
          subst (λ k. map key (y ∷ keep (λ z. eqb (key z) k) ys) ≡ k ∷ []) u (ap (λ zs. key y ∷ map key zs) (none-later ys (above-all (key y) (map key ys) h)))
      go false t r = r (rw t at e)

  -- a key of the rows that pass is the key of a row that is found and passes
  pub has-found : (p : A → Bool) (i : ℕ) (xs : List A) → ascending (map key xs) ≡ true → has i (map key (keep p xs)) ≡ on_found p (find (λ x. eqb (key x) i) xs)
  has-found p i xs h =
      has_kept key p i xs
      ∙ any_same (λ x. p x && eqb i (key x)) (λ x. eqb (key x) i && p x) xs (λ x. and-swap (p x) (eqb i (key x)) ∙ ap (λ t. t && p x) (eqb_swap i (key x)))
      ∙ any-one key i p xs h

  -- a row that passes is found as before
  pub kept_row : (p : A → Bool) (i : ℕ) (xs : List A) → ascending (map key xs) ≡ true → has i (map key (keep p xs)) ≡ true
      → find (λ x. eqb (key x) i) xs ≡ find (λ x. eqb (key x) i) (keep p xs)
  kept_row p i xs h t = go (find (λ x. eqb (key x) i) xs) refl
    where
      u : on_found p (find (λ x. eqb (key x) i) xs) ≡ true
      u = sym (has-found p i xs h) ∙ t

      go : (o : Option A) → find (λ x. eqb (key x) i) xs ≡ o → o ≡ find (λ x. eqb (key x) i) (keep p xs)
      go None e = absurd (true≢false (sym (sym (ap (on_found p) e) ∙ u)))
      go (Some x) e = sym (found-keep p (λ x. eqb (key x) i) x xs e (sym (ap (on_found p) e) ∙ u))

  -- a change that leaves the rows that do not pass r: a row whose key is not one of those that pass is found as before
  pub still-row : (f : A → A) → ((x : A) → key (f x) ≡ key x) → (r : A → Bool) → ((x : A) → r x ≡ false → f x ≡ x) → (i : ℕ) (xs : List A)
      → ascending (map key xs) ≡ true → has i (map key (keep r xs)) ≡ false → find (λ x. eqb (key x) i) xs ≡ find (λ x. eqb (key x) i) (map f xs)
  still-row f ids r same i xs h t = go (find (λ x. eqb (key x) i) xs) refl ∙ sym (found_map key f ids i xs)
    where
      go : (o : Option A) → find (λ x. eqb (key x) i) xs ≡ o → o ≡ changed_by f (find (λ x. eqb (key x) i) xs)
      go None e = rw e
      go (Some x) e = rw e (ap Some (sym (same x (ap (on_found r) (sym e) ∙ (sym (has-found r i xs h) ∙ t)))))
