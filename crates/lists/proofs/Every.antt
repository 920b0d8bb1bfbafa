-- Laws of `all`: of a list made of lists that pass. Assumes nothing.
use mathlib.Core.Path.{◌≡◌, refl, sym, ◌∙◌, ap}
use mathlib.Core.Bool.{Bool, true, ◌&&◌, and_assoc}
use Prim.Native.Nat.{ℕ, zero, suc, ◌+◌, ◌<◌, ◌≤◌}
use native.Mathlib.Nat.{le_of_suc-le-suc, not-suc-le-zero}
use native.Mathlib.Numerals.{add-one}
use native.Mathlib.Omega.{arith}
use mathlib.Core.List.{List, [], ◌∷◌, ◌++◌, reverse, reverse_aux}
use lib.ListN.{length, get_or, take, drop, drop_of_length-le}
use lib.Seq.{drop-cons}
use Rattle.lists.specs.Every.{all}
use Rattle.lists.proofs.Booleans.{and_both, and-fst, and-snd, and-pairs}

module _ {A : Type 0} (f : A → Bool) where
  pub all_nil : all f [] ≡ true
  unfolding all
  all_nil = refl

  pub all_cons : (x : A) (l : List A) → f x ≡ true → all f l ≡ true → all f (x ∷ l) ≡ true
  unfolding all
  all_cons x l p q = and_both (f x) (all f l) p q

  pub all_head : (x : A) (l : List A) → all f (x ∷ l) ≡ true → f x ≡ true
  unfolding all
  all_head x l h = and-fst (f x) (all f l) h

  pub all_tail : (x : A) (l : List A) → all f (x ∷ l) ≡ true → all f l ≡ true
  unfolding all
  all_tail x l h = and-snd (f x) (all f l) h

  pub all_append : (l m : List A) → all f l ≡ true → all f m ≡ true → all f (l ++ m) ≡ true
  all_append [] m p q = q
  all_append (x ∷ l) m p q = all_cons x (l ++ m) (all_head x l p) (all_append l m (all_tail x l p) q)

  pub all_get_d : (l : List A) (i : ℕ) (d : A) → i < length l → all f l ≡ true → f (get_or l i d) ≡ true
  all_get_d [] i d h p = absurd (not-suc-le-zero h)
  all_get_d (x ∷ l) zero d h p = all_head x l p
  all_get_d (x ∷ l) (suc i) d h p = all_get_d l i d (le_of_suc-le-suc h) (all_tail x l p)

  pub all_drop : (n : ℕ) (l : List A) → all f l ≡ true → all f (drop n l) ≡ true
  all_drop zero l p = p
  all_drop (suc n) [] p = p
  all_drop (suc n) (x ∷ l) p = all_drop n l (all_tail x l p)

  pub all_take : (n : ℕ) (l : List A) → all f l ≡ true → all f (take n l) ≡ true
  all_take zero l p = all_nil
  all_take (suc n) [] p = p
  all_take (suc n) (x ∷ l) p = all_cons x (take n l) (all_head x l p) (all_take n l (all_tail x l p))

  back : (l r : List A) → all f l ≡ true → all f r ≡ true → all f (reverse_aux l r) ≡ true
  back [] r p q = q
  back (x ∷ l) r p q = back l (x ∷ r) (all_tail x l p) (all_cons x r (all_head x l p) q)

  pub all-reverse : (l : List A) → all f l ≡ true → all f (reverse l) ≡ true
  all-reverse l p = back l [] p all_nil

  -- a list passes if each place does
  pub all-places : (l : List A) (d : A) → ((k : ℕ) → k < length l → f (get_or l k d) ≡ true) → all f l ≡ true
  all-places [] d h = all_nil
  all-places (x ∷ l) d h = all_cons x l (h 0 (omega arith)) (all-places l d (λ k g. let g : suc k < suc (length l) = omega arith in h (suc k) g))

  -- a walk from the front: one step, and the end
  pub all-step : (l : List A) (i : ℕ) (d : A) → i < length l → all f (drop i l) ≡ (f (get_or l i d) && all f (drop (i + 1) l))
  unfolding all
  all-step l i d h = rw (add-one, drop-cons l i d)

  pub all_end : (l : List A) (i : ℕ) → length l ≤ i → all f (drop i l) ≡ true
  unfolding all
  all_end l i h = rw (drop_of_length-le l h)

pub all_split : {A : Type 0} (p : A → Bool) (xs ys : List A) → all p (xs ++ ys) ≡ (all p xs && all p ys)
unfolding all
all_split p [] ys = refl
all_split p (x ∷ xs) ys = rw (all_split p xs ys) (sym (and_assoc (p x) (all p xs) (all p ys)))

-- two tests of every element
pub all-and : {A : Type 0} (p q : A → Bool) (xs : List A) → all (λ x. p x && q x) xs ≡ (all p xs && all q xs)
unfolding all
all-and p q [] = refl
all-and p q (x ∷ xs) = ap (λ t. p x && q x && t) (all-and p q xs) ∙ and-pairs (p x) (q x) (all p xs) (all q xs)
