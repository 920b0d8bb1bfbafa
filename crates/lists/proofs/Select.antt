-- Laws of the tests and choices of specs/Select.antt, for any element type.
use Rattle.std.specs.Prelude.{Option, None, Some}
use mathlib.Core.Path.{◌≡◌, refl, sym, ap, ◌∙◌}
use Prim.Native.Nat.{ℕ, zero, suc, ◌+◌, ◌-◌, ◌<◌, ◌≤◌}
use native.Mathlib.Nat.{le_of_suc-le-suc, not-suc-le-zero, eq-or-lt_of_le}
use mathlib.Core.Logic.{⊎_elim}
use native.Mathlib.Numerals.{add-one}
use mathlib.Core.Bool.{Bool, true, false, not, ◌&&◌, ◌||◌, cond, true≢false}
use mathlib.Core.List.{List, [], ◌∷◌, ◌++◌, map, append-nil, append_assoc}
use lib.Dec.{eqb, ltb}
use lib.ListN.{length, get_or, take, drop, drop_of_length-le, length-append}
use lib.Seq.{drop-cons, take-suc}
use native.Mathlib.Omega.{arith}
use borrow.Author.Tests.{eqb-true, eqb-false, eq-eqb, ne_eqb, ltb-true, lt-ltb, ltb-false, le-ltb, not-true}
use Rattle.lists.specs.Every.{all}
use Rattle.lists.proofs.Booleans.{and_both, and-fst, and-snd, and-false, or-false, neither}
use Rattle.lists.proofs.Every.{all_split, all_append, all_get_d}
use Rattle.lists.specs.Select.{keep, any, find, each, has, without, place, above, ascending, with_second, insert_after, behind_first}

-- ---- Booleans

or_assoc : (a b c : Bool) → (a || b || c) ≡ (a || (b || c))
or_assoc true b c = refl
or_assoc false b c = refl

and-or : (a b c : Bool) → ((a || b) && c) ≡ (a && c || b && c)
and-or true true true = refl
and-or true true false = refl
and-or true false true = refl
and-or true false false = refl
and-or false b c = refl

-- ---- any

pub any_append : {A : Type 0} (p : A → Bool) (xs ys : List A) → any p (xs ++ ys) ≡ (any p xs || any p ys)
unfolding any
any_append p [] ys = refl
any_append p (x ∷ xs) ys = rw (any_append p xs ys) (sym (or_assoc (p x) (any p xs) (any p ys)))

pub any-map : {A B : Type 0} (p : B → Bool) (f : A → B) (xs : List A) → any p (map f xs) ≡ any (λ x. p (f x)) xs
unfolding any
any-map p f [] = refl
any-map p f (x ∷ xs) = rw (any-map p f xs)

-- two tests that agree on every element
pub any_same : {A : Type 0} (p q : A → Bool) (xs : List A) → ((x : A) → p x ≡ q x) → any p xs ≡ any q xs
unfolding any
any_same p q [] h = refl
any_same p q (x ∷ xs) h = rw (h x, any_same p q xs h)

pub any-keep : {A : Type 0} (p q : A → Bool) (xs : List A) → any p (keep q xs) ≡ any (λ x. q x && p x) xs
unfolding any keep
any-keep p q [] = refl
any-keep p q (x ∷ xs) = go (q x) (any-keep p q xs)
  where
    go : (b : Bool) → any p (keep q xs) ≡ any (λ x. q x && p x) xs → any p (cond b (x ∷ keep q xs) (keep q xs)) ≡ (b && p x || any (λ x. q x && p x) xs)
    go true h = rw h
    go false h = h

pub any-or : {A : Type 0} (p q : A → Bool) (xs : List A) → any (λ x. p x || q x) xs ≡ (any p xs || any q xs)
unfolding any
any-or p q [] = refl
any-or p q (x ∷ xs) = rw (any-or p q xs) (shuffle (p x) (q x) (any p xs) (any q xs))
  where
    shuffle : (a b c d : Bool) → (a || b || (c || d)) ≡ (a || c || (b || d))
    shuffle true b c d = refl
    shuffle false true true d = refl
    shuffle false true false d = refl
    shuffle false false c d = refl

-- ---- has

pub has-any : (x : ℕ) (ys : List ℕ) → has x ys ≡ any (eqb x) ys
unfolding has any
has-any x [] = refl
has-any x (y ∷ ys) = rw (has-any x ys)

pub has-append : (x : ℕ) (ys zs : List ℕ) → has x (ys ++ zs) ≡ (has x ys || has x zs)
has-append x ys zs = has-any x (ys ++ zs) ∙ any_append (eqb x) ys zs ∙ rw (has-any x ys, has-any x zs)

-- a number of the kept ones is one of the list that passes
keep-step : (x y : ℕ) (p : ℕ → Bool) (ys : List ℕ) (e b : Bool) → eqb x y ≡ e → p y ≡ b → has x (keep p ys) ≡ (has x ys && p x)
    → has x (cond (p y) (y ∷ keep p ys) (keep p ys)) ≡ ((eqb x y || has x ys) && p x)
unfolding has
keep-step x y p ys true true e h r = let s : x ≡ y = eqb-true x y e in rw (h, e, s, h)
keep-step x y p ys true false e h r = let s : x ≡ y = eqb-true x y e in rw (h, e, r, s, h) (and-false (has y ys))
keep-step x y p ys false true e h r = rw (h, e) r
keep-step x y p ys false false e h r = rw (h, e) r

pub has-keep : (x : ℕ) (p : ℕ → Bool) (ys : List ℕ) → has x (keep p ys) ≡ (has x ys && p x)
unfolding has keep
has-keep x p [] = refl
has-keep x p (y ∷ ys) = keep-step x y p ys (eqb x y) (p y) refl refl (has-keep x p ys)

pub has-without : (x y : ℕ) (ys : List ℕ) → has x (without y ys) ≡ (has x ys && not (eqb y x))
unfolding without
has-without x y ys = has-keep x (λ z. not (eqb y z)) ys

place-step : (x y : ℕ) (h e a b : Bool) → eqb x y ≡ e → ltb x y ≡ a → ltb y x ≡ b → (h && a || (e || h && b)) ≡ (e || h)
place-step x y h true a b p q r = or_absorb h a b
  where
    or_absorb : (h a b : Bool) → (h && a || (true || h && b)) ≡ true
    or_absorb true true b = refl
    or_absorb true false b = refl
    or_absorb false a b = refl
place-step x y true false true b p q r = refl
place-step x y true false false true p q r = refl
place-step x y true false false false p q r =
    let s : x ≡ y → ⊥ = eqb-false x y p in
    let u : y ≤ x = ltb-false x y q in
    let v : x ≤ y = ltb-false y x r in
    absurd (s (omega arith))
place-step x y false false a b p q r = refl

pub has-place : (x y : ℕ) (ys : List ℕ) → has x (place y ys) ≡ (eqb x y || has x ys)
unfolding place
has-place x y ys =
    has-append x (keep (λ z. ltb z y) ys) (y ∷ keep (λ z. ltb y z) ys)
    ∙ rw (has-keep x (λ z. ltb z y) ys) (unfold has in rw (has-keep x (λ z. ltb y z) ys) (place-step x y (has x ys) (eqb x y) (ltb x y) (ltb y x) refl refl refl))

-- ---- all

pub all_map : {A B : Type 0} (p : B → Bool) (f : A → B) (xs : List A) → all p (map f xs) ≡ all (λ x. p (f x)) xs
unfolding all
all_map p f [] = refl
all_map p f (x ∷ xs) = rw (all_map p f xs)

-- a test of every element of every list
pub all-each : {A B : Type 0} (p : B → Bool) (g : A → List B) (xs : List A) → all p (each g xs) ≡ all (λ x. all p (g x)) xs
unfolding all each
all-each p g [] = refl
all-each p g (x ∷ xs) = all_split p (g x) (each g xs) ∙ rw (all-each p g xs)

-- a test that follows from another
pub all-weaken : {A : Type 0} (p q : A → Bool) (xs : List A) → ((x : A) → p x ≡ true → q x ≡ true) → all p xs ≡ true → all q xs ≡ true
unfolding all
all-weaken p q [] h a = refl
all-weaken p q (x ∷ xs) h a =
    and_both (q x) (all q xs) (h x (and-fst (p x) (all p xs) a)) (all-weaken p q xs h (and-snd (p x) (all p xs) a))

pub all_keep : {A : Type 0} (p q : A → Bool) (xs : List A) → all p xs ≡ true → all p (keep q xs) ≡ true
unfolding all keep
all_keep p q [] a = refl
all_keep p q (x ∷ xs) a = go (q x) (and-fst (p x) (all p xs) a) (all_keep p q xs (and-snd (p x) (all p xs) a))
  where
    go : (b : Bool) → p x ≡ true → all p (keep q xs) ≡ true → all p (cond b (x ∷ keep q xs) (keep q xs)) ≡ true
    go true h r = and_both (p x) (all p (keep q xs)) h r
    go false h r = r

-- the kept ones pass
pub kept-pass : {A : Type 0} (p : A → Bool) (xs : List A) → all p (keep p xs) ≡ true
unfolding all keep
kept-pass p [] = refl
kept-pass p (x ∷ xs) = go (p x) refl (kept-pass p xs)
  where
    go : (b : Bool) → p x ≡ b → all p (keep p xs) ≡ true → all p (cond b (x ∷ keep p xs) (keep p xs)) ≡ true
    go true h r = and_both (p x) (all p (keep p xs)) h r
    go false h r = r

pub all-has : (p : ℕ → Bool) (x : ℕ) (ys : List ℕ) → all p ys ≡ true → has x ys ≡ true → p x ≡ true
unfolding all has
all-has p x [] a h = absurd (true≢false (sym h))
all-has p x (y ∷ ys) a h = go (eqb x y) refl (λ r. all-has p x ys (and-snd (p y) (all p ys) a) r)
  where
    go : (b : Bool) → eqb x y ≡ b → (has x ys ≡ true → p x ≡ true) → p x ≡ true
    go true e r = let s : x ≡ y = eqb-true x y e in rw s (and-fst (p y) (all p ys) a)
    go false e r = r (rw e at h)

-- ---- ascending lists

raise : (x y : ℕ) (zs : List ℕ) → x < y → all (ltb y) zs ≡ true → all (ltb x) zs ≡ true
raise x y zs l h = all-weaken (ltb y) (ltb x) zs (λ z t. let u : y < z = ltb-true y z t in lt-ltb x z (omega arith)) h

-- every later number is larger
pub above-all : (x : ℕ) (ys : List ℕ) → above x ys ≡ true → all (ltb x) ys ≡ true
unfolding above all
above-all x [] h = refl
above-all x (y ∷ ys) h =
    let a = and-fst (ltb x y) (above y ys) h in
    and_both (ltb x y) (all (ltb x) ys) a (raise x y ys (ltb-true x y a) (above-all y ys (and-snd (ltb x y) (above y ys) h)))

-- a list above x is one that ascends, all of whose numbers are larger
pub above_of : (x : ℕ) (ys : List ℕ) → all (ltb x) ys ≡ true → ascending ys ≡ true → above x ys ≡ true
unfolding above all ascending
above_of x [] a h = refl
above_of x (y ∷ ys) a h = and_both (ltb x y) (above y ys) (and-fst (ltb x y) (all (ltb x) ys) a) h

pub ascending-tail : (x : ℕ) (ys : List ℕ) → above x ys ≡ true → ascending ys ≡ true
unfolding above ascending
ascending-tail x [] h = refl
ascending-tail x (y ∷ ys) h = and-snd (ltb x y) (above y ys) h

pub ascending-keep : (p : ℕ → Bool) (ys : List ℕ) → ascending ys ≡ true → ascending (keep p ys) ≡ true
unfolding ascending keep
ascending-keep p [] h = refl
ascending-keep p (y ∷ ys) h = go (p y) (ascending-keep p ys (ascending-tail y ys h)) (all_keep (ltb y) p ys (above-all y ys h))
  where
    go : (b : Bool) → ascending (keep p ys) ≡ true → all (ltb y) (keep p ys) ≡ true → ascending (cond b (y ∷ keep p ys) (keep p ys)) ≡ true
    go true r a = above_of y (keep p ys) a r
    go false r a = r

pub ascending-append : (xs ys : List ℕ) → ascending xs ≡ true → ascending ys ≡ true → all (λ x. all (ltb x) ys) xs ≡ true → ascending (xs ++ ys) ≡ true
unfolding ascending
ascending-append [] ys h k a = k
ascending-append (x ∷ xs) ys h k a =
    above_of x (xs ++ ys)
    (unfold all in all_join (ltb x) xs ys (above-all x xs h) (and-fst (all (ltb x) ys) (all (λ z. all (ltb z) ys) xs) a))
    (ascending-append xs ys (ascending-tail x xs h) k (unfold all in and-snd (all (ltb x) ys) (all (λ z. all (ltb z) ys) xs) a))
  where
    all_join : (p : ℕ → Bool) (xs ys : List ℕ) → all p xs ≡ true → all p ys ≡ true → all p (xs ++ ys) ≡ true
    all_join p xs ys a b = all_append p xs ys a b

below-place : (x : ℕ) (ys : List ℕ) → all (λ z. all (ltb z) (x ∷ keep (λ w. ltb x w) ys)) (keep (λ z. ltb z x) ys) ≡ true
unfolding all
below-place x ys =
    all-weaken (λ z. ltb z x) (λ z. all (ltb z) (x ∷ keep (λ w. ltb x w) ys)) (keep (λ z. ltb z x) ys)
    (λ z t. and_both (ltb z x) (all (ltb z) (keep (λ w. ltb x w) ys)) t (raise z x (keep (λ w. ltb x w) ys) (ltb-true z x t) (kept-pass (λ w. ltb x w) ys)))
    (kept-pass (λ z. ltb z x) ys)

pub ascending-place : (x : ℕ) (ys : List ℕ) → ascending ys ≡ true → ascending (place x ys) ≡ true
unfolding place
ascending-place x ys h =
    ascending-append (keep (λ z. ltb z x) ys) (x ∷ keep (λ z. ltb x z) ys) (ascending-keep (λ z. ltb z x) ys h)
    (unfold ascending in above_of x (keep (λ z. ltb x z) ys) (kept-pass (ltb x) ys) (ascending-keep (λ z. ltb x z) ys h))
    (below-place x ys)

-- ---- implications of tests over a list

-- what every element that passes `p` implies, holds where one passes
pub any-implies : {A : Type 0} (p : A → Bool) (c : Bool) (xs : List A) → ((x : A) → p x ≡ true → c ≡ true) → any p xs ≡ true → c ≡ true
unfolding any
any-implies p c [] h a = absurd (true≢false (sym a))
any-implies p c (x ∷ xs) h a = go (p x) refl (any-implies p c xs h)
  where
    go : (b : Bool) → p x ≡ b → (any p xs ≡ true → c ≡ true) → c ≡ true
    go true e r = h x e
    go false e r = r (rw e at a)

-- the same where every element is known to pass a second test
pub any-implies-all : {A : Type 0} (p q : A → Bool) (c : Bool) (xs : List A) → all q xs ≡ true → ((x : A) → q x ≡ true → p x ≡ true → c ≡ true)
    → any p xs ≡ true → c ≡ true
unfolding any all
any-implies-all p q c [] w h a = absurd (true≢false (sym a))
any-implies-all p q c (x ∷ xs) w h a =
    go (p x) refl (any-implies-all p q c xs (and-snd (q x) (all q xs) w) h)
  where
    go : (b : Bool) → p x ≡ b → (any p xs ≡ true → c ≡ true) → c ≡ true
    go true e r = h x (and-fst (q x) (all q xs) w) e
    go false e r = r (rw e at a)

-- every element passes, if each that stands in the list does
pub all_of : {A : Type 0} (p : A → Bool) (xs : List A) → ((x : A) → ((q : A → Bool) → q x ≡ true → any q xs ≡ true) → p x ≡ true) → all p xs ≡ true
unfolding all any
all_of p [] h = refl
all_of p (x ∷ xs) h =
    and_both (p x) (all p xs) (h x (λ q t. rw t))
    (all_of p xs (λ y m. h y (λ q t. or_right (q x) (any q xs) (m q t))))
  where
    or_right : (a b : Bool) → b ≡ true → (a || b) ≡ true
    or_right true b t = refl
    or_right false b t = t

-- the numbers of a list pass, if each that it has does
pub all-numbers : (p : ℕ → Bool) (xs : List ℕ) → ((x : ℕ) → has x xs ≡ true → p x ≡ true) → all p xs ≡ true
all-numbers p xs h = all_of p xs (λ x m. h x (has-any x xs ∙ m (eqb x) (eq-eqb x x refl)))

-- ---- a table whose keys ascend: at most one row has a key

abbrev pub on_found : {A : Type 0} → (A → Bool) → Option A → Bool
on_found q None = false
on_found q (Some x) = q x

module _ {A : Type 0} (key : A → ℕ) where
  no-later : (i : ℕ) (q : A → Bool) (xs : List A) → all (ltb i) (map key xs) ≡ true → any (λ x. eqb (key x) i && q x) xs ≡ false
  unfolding any all
  no-later i q [] h = refl
  no-later i q (x ∷ xs) h =
      let l : i < key x = ltb-true i (key x) (and-fst (ltb i (key x)) (all (ltb i) (map key xs)) h) in
      let n : eqb (key x) i ≡ false = ne_eqb (key x) i (λ e. omega arith) in
      rw n (no-later i q xs (and-snd (ltb i (key x)) (all (ltb i) (map key xs)) h))

  -- a test of the row with a key is a test of the row that is found
  pub any-one : (i : ℕ) (q : A → Bool) (xs : List A) → ascending (map key xs) ≡ true
      → any (λ x. eqb (key x) i && q x) xs ≡ on_found q (find (λ x. eqb (key x) i) xs)
  unfolding any find ascending
  any-one i q [] h = refl
  any-one i q (x ∷ xs) h = go (eqb (key x) i) refl (any-one i q xs (ascending-tail (key x) (map key xs) h))
    where
      go : (b : Bool) → eqb (key x) i ≡ b → any (λ y. eqb (key y) i && q y) xs ≡ on_found q (find (λ y. eqb (key y) i) xs)
          → (b && q x || any (λ y. eqb (key y) i && q y) xs) ≡ on_found q (cond b (Some x) (find (λ y. eqb (key y) i) xs))
      go true e r =
          let s : key x ≡ i = eqb-true (key x) i e in
          rw (no-later i q xs (rw s at (above-all (key x) (map key xs) h))) (or-false (q x))
      go false e r = r

  -- a change that keeps the key of every row
  pub find-map : (f : A → A) → ((x : A) → key (f x) ≡ key x) → (i : ℕ) (q : A → Bool) (xs : List A)
      → on_found q (find (λ x. eqb (key x) i) (map f xs)) ≡ on_found (λ x. q (f x)) (find (λ x. eqb (key x) i) xs)
  unfolding find
  find-map f h i q [] = refl
  find-map f h i q (x ∷ xs) = rw (h x) (go (eqb (key x) i) (find-map f h i q xs))
    where
      go : (b : Bool) → on_found q (find (λ y. eqb (key y) i) (map f xs)) ≡ on_found (λ y. q (f y)) (find (λ y. eqb (key y) i) xs)
          → on_found q (cond b (Some (f x)) (find (λ y. eqb (key y) i) (map f xs))) ≡ on_found (λ y. q (f y)) (cond b (Some x) (find (λ y. eqb (key y) i) xs))
      go true r = refl
      go false r = r

  pub keys-map : (f : A → A) → ((x : A) → key (f x) ≡ key x) → (xs : List A) → map key (map f xs) ≡ map key xs
  keys-map f h [] = refl
  keys-map f h (x ∷ xs) = rw (h x, keys-map f h xs)

  keep-above : (i : ℕ) (p : A → Bool) (xs : List A) → all (ltb i) (map key xs) ≡ true → all (ltb i) (map key (keep p xs)) ≡ true
  keep-above i p xs h = all_map (ltb i) key (keep p xs) ∙ all_keep (λ x. ltb i (key x)) p xs (sym (all_map (ltb i) key xs) ∙ h)

  -- rows that stay keep their order
  pub keys-keep : (p : A → Bool) (xs : List A) → ascending (map key xs) ≡ true → ascending (map key (keep p xs)) ≡ true
  unfolding ascending keep
  keys-keep p [] h = refl
  keys-keep p (x ∷ xs) h = go (p x) (keys-keep p xs (ascending-tail (key x) (map key xs) h))
    where
      go : (b : Bool) → ascending (map key (keep p xs)) ≡ true → ascending (map key (cond b (x ∷ keep p xs) (keep p xs))) ≡ true
      go true r = above_of (key x) (map key (keep p xs)) (keep-above (key x) p xs (above-all (key x) (map key xs) h)) r
      go false r = r

-- ---- walks from the front: one step, and the end

pub has-step : (x : ℕ) (l : List ℕ) (i : ℕ) → i < length l → has x (drop i l) ≡ (eqb x (get_or l i 0) || has x (drop (i + 1) l))
unfolding has
has-step x l i h = rw (add-one, drop-cons l i 0)

pub has_end : (x : ℕ) (l : List ℕ) (i : ℕ) → length l ≤ i → has x (drop i l) ≡ false
unfolding has
has_end x l i h = rw (drop_of_length-le l h)

pub ascending-start : (l : List ℕ) → ascending l ≡ above (get_or l (1 - 1) 0) (drop 1 l)
unfolding ascending above
ascending-start [] = refl
ascending-start (x ∷ l) = refl

-- what is left from place i on, behind the number at i - 1
pub ascending-step : (l : List ℕ) (i : ℕ) → i < length l → get_or l (i - 1) 0 < get_or l i 0
    → above (get_or l (i - 1) 0) (drop i l) ≡ above (get_or l (i + 1 - 1) 0) (drop (i + 1) l)
unfolding above
ascending-step l i h p =
    let e : i + 1 - 1 ≡ i = omega arith in
    rw (e, add-one, drop-cons l i 0, lt-ltb (get_or l (i - 1) 0) (get_or l i 0) p)

pub ascending_breaks : (l : List ℕ) (i : ℕ) → i < length l → get_or l i 0 ≤ get_or l (i - 1) 0 → above (get_or l (i - 1) 0) (drop i l) ≡ false
unfolding above
ascending_breaks l i h p = rw (drop-cons l i 0, le-ltb (get_or l (i - 1) 0) (get_or l i 0) p)

pub above-end : (x : ℕ) (l : List ℕ) (i : ℕ) → length l ≤ i → above x (drop i l) ≡ true
unfolding above
above-end x l i h = rw (drop_of_length-le l h)

-- of two places of an ascending list the later has the larger number
pub ascending-places : (l : List ℕ) (i j : ℕ) → ascending l ≡ true → i < j → j < length l → get_or l i 0 < get_or l j 0
unfolding ascending
ascending-places [] i j a p h = absurd (not-suc-le-zero h)
ascending-places (x ∷ l) i zero a p h = absurd (not-suc-le-zero p)
ascending-places (x ∷ l) zero (suc j) a p h = ltb-true x (get_or l j 0) (all_get_d (ltb x) l j 0 (le_of_suc-le-suc h) (above-all x l a))
ascending-places (x ∷ l) (suc i) (suc j) a p h = ascending-places l i j (ascending-tail x l a) (le_of_suc-le-suc p) (le_of_suc-le-suc h)

-- what a number at one place says of all up to it, and of all from it on
pub ascending-upto : (x : ℕ) (l : List ℕ) (m : ℕ) → ascending l ≡ true → m < length l → get_or l m 0 < x → (k : ℕ) → k < m + 1 → get_or l k 0 < x
ascending-upto x l m a h p k g =
    ⊎_elim (λ e. rw e p) (λ q. let s = ascending-places l k m a q h in omega arith) (eq-or-lt_of_le (le_of_suc-le-suc (rw add-one at g)))

pub ascending-from : (x : ℕ) (l : List ℕ) (m : ℕ) → ascending l ≡ true → x < get_or l m 0 → (k : ℕ) → m ≤ k → k < length l → x < get_or l k 0
ascending-from x l m a p k g h =
    ⊎_elim (λ e. rw (← e) p) (λ q. let s = ascending-places l m k a q h in omega arith) (eq-or-lt_of_le g)

-- ---- keep of two lists, of all and of none

module _ {A : Type 0} (p : A → Bool) where
  pub keep_append : (xs ys : List A) → keep p (xs ++ ys) ≡ keep p xs ++ keep p ys
  unfolding keep
  keep_append [] ys = refl
  keep_append (x ∷ xs) ys = go (p x) (keep_append xs ys)
    where
      go : (b : Bool) → keep p (xs ++ ys) ≡ keep p xs ++ keep p ys
          → cond b (x ∷ keep p (xs ++ ys)) (keep p (xs ++ ys)) ≡ cond b (x ∷ keep p xs) (keep p xs) ++ keep p ys
      go true r = rw r
      go false r = r

  pub length-keep : (xs : List A) → length (keep p xs) ≤ length xs
  unfolding keep
  length-keep [] = omega arith
  length-keep (x ∷ xs) = go (p x) (length-keep xs)
    where
      go : (b : Bool) → length (keep p xs) ≤ length xs → length (cond b (x ∷ keep p xs) (keep p xs)) ≤ suc (length xs)
      go true r = omega arith
      go false r = omega arith

  pub keep_all : (xs : List A) → all p xs ≡ true → keep p xs ≡ xs
  unfolding keep all
  keep_all [] a = refl
  keep_all (x ∷ xs) a = rw (and-fst (p x) (all p xs) a, keep_all xs (and-snd (p x) (all p xs) a))

  pub keep-none : (xs : List A) → all (λ x. not (p x)) xs ≡ true → keep p xs ≡ []
  unfolding keep all
  keep-none [] a = refl
  keep-none (x ∷ xs) a = rw (not-true (p x) (and-fst (not (p x)) (all (λ y. not (p y)) xs) a)) (keep-none xs (and-snd (not (p x)) (all (λ y. not (p y)) xs) a))

  -- a walk from the front
  pub keep-more : (l : List A) (i : ℕ) (d : A) → i < length l → keep p (take (i + 1) l) ≡ keep p (take i l) ++ cond (p (get_or l i d)) (get_or l i d ∷ []) []
  unfolding keep
  keep-more l i d h = rw (add-one, take-suc l i d h) (keep_append (take i l) (get_or l i d ∷ []))

-- a number in its place between the smaller and the larger ones
pub place-between : (x : ℕ) (xs ys : List ℕ) → all (λ y. ltb y x) xs ≡ true → all (ltb x) ys ≡ true → place x (xs ++ ys) ≡ xs ++ (x ∷ ys)
unfolding place
place-between x xs ys a b =
    let c : all (λ y. not (ltb x y)) xs ≡ true =
    all-weaken (λ y. ltb y x) (λ y. not (ltb x y)) xs (λ y t. let l = ltb-true y x t in rw (le-ltb x y (omega arith))) a in
    let e : all (λ y. not (ltb y x)) ys ≡ true =
    all-weaken (ltb x) (λ y. not (ltb y x)) ys (λ y t. let l = ltb-true x y t in rw (le-ltb y x (omega arith))) b in
    rw (keep_append (λ y. ltb y x) xs ys, keep_append (λ y. ltb x y) xs ys, keep_all (λ y. ltb y x) xs a, keep-none (λ y. ltb x y) xs c, keep-none (λ y. ltb y x) ys e, keep_all (λ y. ltb x y) ys b, append-nil)

or_snd : (a b : Bool) → (a || b) ≡ false → b ≡ false
or_snd true b t = absurd (true≢false t)
or_snd false b t = t

-- what a list lacks stands at no place of it
pub lacks-places : (x : ℕ) (l : List ℕ) (i : ℕ) → has x l ≡ false → i < length l → x ≡ get_or l i 0 → ⊥
unfolding has
lacks-places x [] i n h e = absurd (not-suc-le-zero h)
lacks-places x (y ∷ l) zero n h e = true≢false (sym (rw (eq-eqb x y e)) ∙ n)
lacks-places x (y ∷ l) (suc i) n h e = lacks-places x l i (or_snd (eqb x y) (has x l) n) (le_of_suc-le-suc h) e

-- ---- each element's list

module _ {A B : Type 0} (f : A → List B) where
  pub each_append : (xs ys : List A) → each f (xs ++ ys) ≡ each f xs ++ each f ys
  unfolding each
  each_append [] ys = refl
  each_append (x ∷ xs) ys = rw (each_append xs ys) (sym (append_assoc (f x) (each f xs) (each f ys)))

  -- a walk from the front, and one from the back
  pub each_more : (l : List A) (i : ℕ) (d : A) → i < length l → each f (take (i + 1) l) ≡ each f (take i l) ++ f (get_or l i d)
  each_more l i d h = rw (add-one, take-suc l i d h, each_append) (unfold each in rw append-nil)

  pub each_step : (l : List A) (i : ℕ) (d : A) → i < length l → each f (drop i l) ≡ f (get_or l i d) ++ each f (drop (i + 1) l)
  unfolding each
  each_step l i d h = rw (add-one, drop-cons l i d)

-- two functions that agree on every element
pub each_same : {A B : Type 0} (f g : A → List B) (xs : List A) → ((x : A) → f x ≡ g x) → each f xs ≡ each g xs
unfolding each
each_same f g [] h = refl
each_same f g (x ∷ xs) h = rw (h x, each_same f g xs h)

-- ---- the second of a pair after each first

-- z with the second of the pair that was found for it
abbrev with_found : Option (ℕ × ℕ) → ℕ → List ℕ
with_found o z = elim (elim o as (λ p. Option ℕ) [ None ↦ None | Some h ↦ Some h.1 ]) as (λ p. List ℕ) [ None ↦ z ∷ [] | Some j ↦ z ∷ j ∷ [] ]

second-by : (hs : List (ℕ × ℕ)) (z : ℕ) (o : Option (ℕ × ℕ)) → find (λ h. eqb h.0 z) hs ≡ o → with_second hs z ≡ with_found o z
second-by hs z o e = ap (λ (q : Option (ℕ × ℕ)). with_found q z) e

pub second-here : (x y z : ℕ) (hs : List (ℕ × ℕ)) → x ≡ z → with_second ((x, y) ∷ hs) z ≡ z ∷ y ∷ []
second-here x y z hs e = second-by ((x, y) ∷ hs) z (Some (x, y)) (unfold find in rw (eq-eqb x z e))

pub second-other : (x y z : ℕ) (hs : List (ℕ × ℕ)) → (x ≡ z → ⊥) → with_second ((x, y) ∷ hs) z ≡ with_second hs z
second-other x y z hs n = second-by ((x, y) ∷ hs) z (find (λ h. eqb h.0 z) hs) (unfold find in rw (ne_eqb x z n))

pub second-lacks : (z : ℕ) (hs : List (ℕ × ℕ)) → has z (map (λ h. h.0) hs) ≡ false → with_second hs z ≡ z ∷ []
unfolding has find
second-lacks z [] h = refl
second-lacks z (x ∷ hs) h =
    second-other x.0 x.1 z hs (λ e. true≢false (sym (rw (eq-eqb z x.0 (sym e))) ∙ h)) ∙ second-lacks z hs (or_snd (eqb z x.0) (has z (map (λ q. q.0) hs)) h)

module _ (hs : List (ℕ × ℕ)) where
  pub after-cons : (z : ℕ) (ys : List ℕ) → insert_after hs (z ∷ ys) ≡ with_second hs z ++ insert_after hs ys
  unfolding insert_after each
  after-cons z ys = refl

  pub after-append : (xs ys : List ℕ) → insert_after hs (xs ++ ys) ≡ insert_after hs xs ++ insert_after hs ys
  unfolding insert_after
  after-append xs ys = each_append (with_second hs) xs ys

  pub after_more : (l : List ℕ) (i : ℕ) → i < length l → insert_after hs (take (i + 1) l) ≡ insert_after hs (take i l) ++ with_second hs (get_or l i 0)
  unfolding insert_after
  after_more l i h = each_more (with_second hs) l i 0 h

  pub after-step : (l : List ℕ) (i : ℕ) → i < length l → insert_after hs (drop i l) ≡ with_second hs (get_or l i 0) ++ insert_after hs (drop (i + 1) l)
  unfolding insert_after
  after-step l i h = each_step (with_second hs) l i 0 h

second-length : (hs : List (ℕ × ℕ)) (z : ℕ) → length (with_second hs z) ≡ cond (has z (map (λ h. h.0) hs)) 2 1
second-length [] z = unfold has find in refl
second-length (x ∷ hs) z = go (eqb z x.0) refl (second-length hs z)
  where
    go : (b : Bool) → eqb z x.0 ≡ b → length (with_second hs z) ≡ cond (has z (map (λ h. h.0) hs)) 2 1
        → length (with_second (x ∷ hs) z) ≡ cond (has z (map (λ h. h.0) (x ∷ hs))) 2 1
    go true e r = ap length (second-here x.0 x.1 z hs (sym (eqb-true z x.0 e))) ∙ (unfold has in rw e)
    go false e r = ap length (second-other x.0 x.1 z hs (λ q. eqb-false z x.0 e (sym q))) ∙ r ∙ (unfold has in rw e)

-- a list grows by one for each of its numbers that is a first
pub length-after : (hs : List (ℕ × ℕ)) (ys : List ℕ) → length (insert_after hs ys) ≡ length ys + length (keep (λ i. has i (map (λ h. h.0) hs)) ys)
length-after hs [] = unfold insert_after each keep in refl
length-after hs (z ∷ ys) =
    ap length (after-cons hs z ys) ∙ length-append (with_second hs z) (insert_after hs ys)
    ∙ go (has z (map (λ h. h.0) hs)) refl (second-length hs z) (length-after hs ys)
  where
    go : (b : Bool) → has z (map (λ h. h.0) hs) ≡ b → length (with_second hs z) ≡ cond b 2 1 → length (insert_after hs ys) ≡ length ys + length (keep (λ i. has i (map (λ h. h.0) hs)) ys)
        → length (with_second hs z) + length (insert_after hs ys) ≡ suc (length ys) + length (keep (λ i. has i (map (λ h. h.0) hs)) (z ∷ ys))
    go true e s r =
        let k : length (keep (λ i. has i (map (λ h. h.0) hs)) (z ∷ ys)) ≡ suc (length (keep (λ i. has i (map (λ h. h.0) hs)) ys)) = unfold keep in rw e in
        omega arith
    go false e s r =
        let k : length (keep (λ i. has i (map (λ h. h.0) hs)) (z ∷ ys)) ≡ length (keep (λ i. has i (map (λ h. h.0) hs)) ys) = unfold keep in rw e in
        omega arith

-- a list without a first stays
pub after-still : (hs : List (ℕ × ℕ)) (ys : List ℕ) → any (λ i. has i (map (λ h. h.0) hs)) ys ≡ false → insert_after hs ys ≡ ys
unfolding any
after-still hs [] h = unfold insert_after each in refl
after-still hs (z ∷ ys) h =
    let (a, b) = neither (has z (map (λ h. h.0) hs)) (any (λ i. has i (map (λ h. h.0) hs)) ys) h in
    after-cons hs z ys ∙ (ap (λ (u : List ℕ). u ++ insert_after hs ys) (second-lacks z hs a) ∙ ap (λ (u : List ℕ). z ∷ u) (after-still hs ys b))

-- pairs one after the other: what a pair names is no first of a later pair
pub after-pairs : (x y : ℕ) (hs : List (ℕ × ℕ)) (ys : List ℕ) → has x (map (λ h. h.0) hs) ≡ false → has y (map (λ h. h.0) hs) ≡ false
    → insert_after ((x, y) ∷ hs) ys ≡ insert_after hs (insert_after ((x, y) ∷ []) ys)
after-pairs x y hs [] p q = unfold insert_after each in refl
after-pairs x y hs (z ∷ ys) p q = go (eqb x z) refl (after-pairs x y hs ys p q)
  where
    go : (b : Bool) → eqb x z ≡ b → insert_after ((x, y) ∷ hs) ys ≡ insert_after hs (insert_after ((x, y) ∷ []) ys)
        → insert_after ((x, y) ∷ hs) (z ∷ ys) ≡ insert_after hs (insert_after ((x, y) ∷ []) (z ∷ ys))
    go true e r =
        let l : x ≡ z = eqb-true x z e in
        let rest = insert_after ((x, y) ∷ []) ys in
        let left : insert_after ((x, y) ∷ hs) (z ∷ ys) ≡ z ∷ y ∷ insert_after hs rest =
        after-cons ((x, y) ∷ hs) z ys ∙ ap (λ (u : List ℕ). u ++ insert_after ((x, y) ∷ hs) ys) (second-here x y z hs l) ∙ ap (λ (u : List ℕ). z ∷ y ∷ u) r in
        let inner : insert_after ((x, y) ∷ []) (z ∷ ys) ≡ z ∷ y ∷ rest =
        after-cons ((x, y) ∷ []) z ys ∙ ap (λ (u : List ℕ). u ++ rest) (second-here x y z [] l) in
        let right : insert_after hs (z ∷ y ∷ rest) ≡ z ∷ y ∷ insert_after hs rest =
        after-cons hs z (y ∷ rest) ∙ ap (λ (u : List ℕ). u ++ insert_after hs (y ∷ rest)) (second-lacks z hs (rw l at p))
        ∙ ap (λ (u : List ℕ). z ∷ u) (after-cons hs y rest ∙ ap (λ (u : List ℕ). u ++ insert_after hs rest) (second-lacks y hs q)) in
        left ∙ sym (ap (insert_after hs) inner ∙ right)
    go false e r =
        let n = eqb-false x z e in
        let rest = insert_after ((x, y) ∷ []) ys in
        let left : insert_after ((x, y) ∷ hs) (z ∷ ys) ≡ with_second hs z ++ insert_after hs rest =
        after-cons ((x, y) ∷ hs) z ys ∙ ap (λ (u : List ℕ). u ++ insert_after ((x, y) ∷ hs) ys) (second-other x y z hs n) ∙ ap (λ (u : List ℕ). with_second hs z ++ u) r in
        let inner : insert_after ((x, y) ∷ []) (z ∷ ys) ≡ z ∷ rest =
        after-cons ((x, y) ∷ []) z ys ∙ ap (λ (u : List ℕ). u ++ rest) (second-other x y z [] n ∙ second-lacks z [] (unfold has in refl)) in
        left ∙ sym (ap (insert_after hs) inner ∙ after-cons hs z rest)

-- ---- behind the first that passes

module _ {A : Type 0} (p : A → Bool) where
  pub behind-append : (xs ys : List A) → behind_first p (xs ++ ys) ≡ cond (any p xs) (behind_first p xs ++ ys) (behind_first p ys)
  unfolding behind_first any
  behind-append [] ys = refl
  behind-append (x ∷ xs) ys = go (p x) (behind-append xs ys)
    where
      go : (b : Bool) → behind_first p (xs ++ ys) ≡ cond (any p xs) (behind_first p xs ++ ys) (behind_first p ys)
          → cond b (xs ++ ys) (behind_first p (xs ++ ys)) ≡ cond (b || any p xs) (cond b xs (behind_first p xs) ++ ys) (behind_first p ys)
      go true r = refl
      go false r = r

  pub behind-none : (xs : List A) → any p xs ≡ false → behind_first p xs ≡ []
  unfolding behind_first any
  behind-none [] h = refl
  behind-none (x ∷ xs) h = let (a, b) = neither (p x) (any p xs) h in rw a (behind-none xs b)

  pub length-behind : (xs : List A) → length (behind_first p xs) ≤ length xs
  unfolding behind_first
  length-behind [] = omega arith
  length-behind (x ∷ xs) = go (p x) (length-behind xs)
    where
      go : (b : Bool) → length (behind_first p xs) ≤ length xs → length (cond b xs (behind_first p xs)) ≤ suc (length xs)
      go true r = omega arith
      go false r = omega arith

  -- where one passes some are kept
  pub some-kept : (xs : List A) → any p xs ≡ true → 0 < length (keep p xs)
  unfolding any keep
  some-kept [] h = absurd (true≢false (sym h))
  some-kept (x ∷ xs) h = go (p x) refl (λ r. some-kept xs r)
    where
      go : (b : Bool) → p x ≡ b → (any p xs ≡ true → 0 < length (keep p xs)) → 0 < length (cond b (x ∷ keep p xs) (keep p xs))
      go true e r = omega arith
      go false e r = r (rw e at h)

-- ---- of all elements

pub map-twice : {A B C : Type 0} (f : A → B) (g : B → C) (xs : List A) → map g (map f xs) ≡ map (λ x. g (f x)) xs
map-twice f g [] = refl
map-twice f g (x ∷ xs) = ap (λ z. g (f x) ∷ z) (map-twice f g xs)

pub map_same : {A B : Type 0} (f g : A → B) (xs : List A) → ((x : A) → f x ≡ g x) → map f xs ≡ map g xs
map_same f g [] e = refl
map_same f g (x ∷ xs) e = rw (e x, map_same f g xs e)

pub map-itself : {A : Type 0} (xs : List A) → map (λ x. x) xs ≡ xs
map-itself [] = refl
map-itself (x ∷ xs) = ap (λ z. x ∷ z) (map-itself xs)

pub keep-map : {A B : Type 0} (p : B → Bool) (f : A → B) (xs : List A) → keep p (map f xs) ≡ map f (keep (λ x. p (f x)) xs)
unfolding keep
keep-map p f [] = refl
keep-map {A = A} p f (x ∷ xs) = ap (λ z. cond (p (f x)) (f x ∷ z) z) (keep-map p f xs) ∙ go (p (f x)) (keep (λ x. p (f x)) xs)
  where
    go : (b : Bool) (ys : List A) → cond b (f x ∷ map f ys) (map f ys) ≡ map f (cond b (x ∷ ys) ys)
    go true ys = refl
    go false ys = refl

-- two tests that agree on every element
pub keep_same : {A : Type 0} (p q : A → Bool) (xs : List A) → ((x : A) → p x ≡ q x) → keep p xs ≡ keep q xs
unfolding keep
keep_same p q [] e = refl
keep_same p q (x ∷ xs) e = rw (e x, keep_same p q xs e)

-- one filter after another
pub keep-twice : {A : Type 0} (p q : A → Bool) (xs : List A) → keep p (keep q xs) ≡ keep (λ x. q x && p x) xs
unfolding keep
keep-twice p q [] = refl
keep-twice {A = A} p q (x ∷ xs) = go (q x) (keep-twice p q xs)
  where
    go : (b : Bool) → keep p (keep q xs) ≡ keep (λ x. q x && p x) xs → keep p (cond b (x ∷ keep q xs) (keep q xs)) ≡ cond (b && p x) (x ∷ keep (λ x. q x && p x) xs) (keep (λ x. q x && p x) xs)
    go true e = ap (λ z. cond (p x) (x ∷ z) z) e
    go false e = e

pub length_without : (x : ℕ) (ys : List ℕ) → length (without x ys) ≤ length ys
unfolding without
length_without x ys = length-keep (λ y. not (eqb x y)) ys
