-- General laws: of tests and choices over lists, by places; of keys and rows; of marks. Assumes nothing.
use Rattle.std.specs.Prelude.{Option, None, Some}
use mathlib.Core.Path.{◌≡◌, refl, sym, ap, ◌∙◌}
use Prim.Native.Nat.{ℕ, zero, suc, ◌+◌, ◌<◌, ◌≤◌}
use native.Mathlib.Nat.{le_of_suc-le-suc, not-suc-le-zero}
use native.Mathlib.Numerals.{add-one}
use native.Mathlib.Omega.{arith}
use mathlib.Core.Bool.{Bool, true, false, not, ◌||◌, cond, true≢false}
use mathlib.Core.List.{List, [], ◌∷◌, ◌++◌, map}
use mathlib.Core.Logic.{◌⊎◌, inl, inr, ⊎_elim}
use lib.Dec.{eqb}
use lib.ListN.{length, get_or, set, take, drop, get_or-append}
use lib.Seq.{set-get_or}
use borrow.Author.Tests.{eq-eqb, ne_eqb, eqb-true, eqb-false}
use Rattle.lists.specs.Every.{all}
use Rattle.lists.specs.Rows.{reads, over, row_with, later}
use Rattle.lists.specs.Select.{keep, any, has}
use Rattle.lists.proofs.Select.{has-any, has-keep, length-keep}
use Rattle.lists.proofs.Booleans.{or_right, or_left}
use Rattle.group.specs.Walk.{marks, chosen}

-- ---- Booleans

pub or_elim : (a b c : Bool) → (a ≡ true → c ≡ true) → (b ≡ true → c ≡ true) → (a || b) ≡ true → c ≡ true
or_elim true b c f g h = f refl
or_elim false b c f g h = g h

-- ---- any and has, by places

module _ {A : Type 0} (f : A → Bool) where
  pub any_at : (l : List A) (j : ℕ) (d : A) → j < length l → f (get_or l j d) ≡ true → any f l ≡ true
  unfolding any
  any_at [] j d h e = absurd (not-suc-le-zero h)
  any_at (x ∷ l) zero d h e = or_left (f x) (any f l) e
  any_at (x ∷ l) (suc j) d h e = or_right (f x) (any f l) (any_at l j d (le_of_suc-le-suc h) e)

  -- what passes stands somewhere
  pub any_somewhere : (C : Type 0) (l : List A) (d : A) → any f l ≡ true → ((j : ℕ) → j < length l → f (get_or l j d) ≡ true → C) → C
  unfolding any
  any_somewhere C [] d e g = absurd (true≢false (sym e))
  any_somewhere C (x ∷ l) d e g =
      go (f x) refl (λ q. any_somewhere C l d q (λ j h r. let h : suc j < suc (length l) = omega arith in g (suc j) h r))
    where
      go : (b : Bool) → f x ≡ b → (any f l ≡ true → C) → C
      go true q r = g 0 (omega arith) q
      go false q r = r (rw q at e)

pub any-weaken : {A : Type 0} (p q : A → Bool) (xs : List A) → ((x : A) → p x ≡ true → q x ≡ true) → any p xs ≡ true → any q xs ≡ true
unfolding any
any-weaken p q [] h a = a
any-weaken p q (x ∷ xs) h a =
    or_elim (p x) (any p xs) (q x || any q xs) (λ e. or_left (q x) (any q xs) (h x e)) (λ e. or_right (q x) (any q xs) (any-weaken p q xs h e)) a

pub has-at : (l : List ℕ) (j x : ℕ) → j < length l → get_or l j 0 ≡ x → has x l ≡ true
has-at l j x h e = has-any x l ∙ any_at (eqb x) l j 0 h (eq-eqb x (get_or l j 0) (sym e))

pub has_somewhere : (C : Type 0) (x : ℕ) (l : List ℕ) → has x l ≡ true → ((j : ℕ) → j < length l → get_or l j 0 ≡ x → C) → C
has_somewhere C x l e g = any_somewhere (eqb x) C l 0 (sym (has-any x l) ∙ e) (λ j h q. g j h (sym (eqb-true x (get_or l j 0) q)))

-- a test of any row read
pub any-reads : {A B : Type 0} (s : ℕ) (dec : List A → B) (f : B → Bool) (n : ℕ) (w : List A) → any f (reads s dec n w) ≡ any (λ b. b) (reads s (λ r. f (dec r)) n w)
unfolding any reads
any-reads s dec f zero w = refl
any-reads s dec f (suc n) w = rw (any-reads s dec f n (drop s w))

-- ---- keep

pub keep-map : {A : Type 0} (key : A → ℕ) (p : ℕ → Bool) (xs : List A) → map key (keep (λ x. p (key x)) xs) ≡ keep p (map key xs)
unfolding keep
keep-map key p [] = refl
keep-map key p (x ∷ xs) = go (p (key x)) (keep-map key p xs)
  where
    go : (b : Bool) → map key (keep (λ x. p (key x)) xs) ≡ keep p (map key xs)
        → map key (cond b (x ∷ keep (λ x. p (key x)) xs) (keep (λ x. p (key x)) xs)) ≡ cond b (key x ∷ keep p (map key xs)) (keep p (map key xs))
    go true r = rw r
    go false r = r

-- two tests that agree on the numbers of a list
pub keep-agree : (p q : ℕ → Bool) (xs : List ℕ) → ((x : ℕ) → has x xs ≡ true → p x ≡ q x) → keep p xs ≡ keep q xs
unfolding keep has
keep-agree p q [] h = refl
keep-agree p q (x ∷ xs) h =
    let a : p x ≡ q x = h x (or_left (eqb x x) (has x xs) (eq-eqb x x refl)) in
    let r : keep p xs ≡ keep q xs = keep-agree p q xs (λ y e. h y (or_right (eqb y x) (has y xs) e)) in
    rw (a, r)

-- the numbers of a list that are among the kept ones are the kept ones
pub keep-kept : (p : ℕ → Bool) (xs : List ℕ) → keep (λ y. has y (keep p xs)) xs ≡ keep p xs
keep-kept p xs = keep-agree (λ y. has y (keep p xs)) p xs (λ y e. has-keep y p xs ∙ rw e)

-- a weaker test keeps as many, and either the same or more
module _ {A : Type 0} (p q : A → Bool) (h : (x : A) → p x ≡ true → q x ≡ true) where
  pub keep-more-of : (xs : List A) → length (keep p xs) ≤ length (keep q xs)
  unfolding keep
  keep-more-of [] = omega arith
  keep-more-of (x ∷ xs) = go (p x) (q x) refl refl (keep-more-of xs)
    where
      go : (a b : Bool) → p x ≡ a → q x ≡ b → length (keep p xs) ≤ length (keep q xs)
          → length (cond a (x ∷ keep p xs) (keep p xs)) ≤ length (cond b (x ∷ keep q xs) (keep q xs))
      go true true e f r = omega arith
      go true false e f r = absurd (true≢false (sym (h x e) ∙ f))
      go false true e f r = omega arith
      go false false e f r = r

  pub keep-grows : (xs : List A) → (keep p xs ≡ keep q xs) ⊎ (length (keep p xs) < length (keep q xs))
  unfolding keep
  keep-grows [] = inl refl
  keep-grows (x ∷ xs) = go (p x) (q x) refl refl (keep-grows xs)
    where
      go : (a b : Bool) → p x ≡ a → q x ≡ b → (keep p xs ≡ keep q xs) ⊎ (length (keep p xs) < length (keep q xs))
          → (cond a (x ∷ keep p xs) (keep p xs) ≡ cond b (x ∷ keep q xs) (keep q xs)) ⊎ (length (cond a (x ∷ keep p xs) (keep p xs)) < length (cond b (x ∷ keep q xs) (keep q xs)))
      go true true e f r = ⊎_elim (λ s. inl (ap (λ (l : List A). x ∷ l) s)) (λ s. inr (omega arith)) r
      go true false e f r = absurd (true≢false (sym (h x e) ∙ f))
      go false true e f r = inr (omega (arith, keep-more-of xs))
      go false false e f r = r

-- ---- the row with a key

pub found-key : (x : ℕ) (ks : List ℕ) (j : ℕ) → row_with x ks ≡ Some j → get_or ks j 0 ≡ x
unfolding row_with
found-key x [] j e = let z : ◌≡◌ {A = ℕ} 0 1 = cc in absurd (omega arith)
found-key x (k ∷ ks) j e = go (eqb k x) refl (row_with x ks) (λ i s. found-key x ks i s) e
  where
    go : (b : Bool) → eqb k x ≡ b → (r : Option ℕ) → ((i : ℕ) → r ≡ Some i → get_or ks i 0 ≡ x) → cond b (Some 0) (later r) ≡ Some j → get_or (k ∷ ks) j 0 ≡ x
    go true q r s f = let z : j ≡ 0 = cc in rw z (eqb-true k x q)
    go false q (Some i) s f = let z : j ≡ suc i = cc in rw z (s i refl)
    go false q None s f = let z : ◌≡◌ {A = ℕ} 0 1 = cc in absurd (omega arith)

pub found_none : (x : ℕ) (ks : List ℕ) → row_with x ks ≡ None → has x ks ≡ false
unfolding row_with has
found_none x [] e = refl
found_none x (k ∷ ks) e = go (eqb k x) refl (row_with x ks) (λ s. found_none x ks s) e
  where
    go : (b : Bool) → eqb k x ≡ b → (r : Option ℕ) → (r ≡ None → has x ks ≡ false) → cond b (Some 0) (later r) ≡ None → (eqb x k || has x ks) ≡ false
    go true q r s f = let z : ◌≡◌ {A = ℕ} 0 1 = cc in absurd (omega arith)
    go false q (Some i) s f = let z : ◌≡◌ {A = ℕ} 0 1 = cc in absurd (omega arith)
    go false q None s f = let n : x ≡ k → ⊥ = (λ g. eqb-false k x q (sym g)) in rw (ne_eqb x k n) (s refl)

-- ---- marks

pub mark-again : (s : List Bool) (r : ℕ) → get_or s r false ≡ true → set s r true ≡ s
mark-again s r e = ap (λ (b : Bool). set s r b) (sym e) ∙ set-get_or s r false

pub marks-more : (s : List Bool) (r : ℕ) → r < length s → get_or s r false ≡ false → marks (set s r true) ≡ suc (marks s)
unfolding marks keep
marks-more [] r h e = absurd (not-suc-le-zero h)
marks-more (b ∷ s) zero h e = rw e
marks-more (b ∷ s) (suc r) h e = go b (marks-more s r (le_of_suc-le-suc h) e)
  where
    go : (b : Bool) → marks (set s r true) ≡ suc (marks s) → length (cond b (b ∷ keep (λ x. x) (set s r true)) (keep (λ x. x) (set s r true))) ≡ suc (length (cond b (b ∷ keep (λ x. x) s) (keep (λ x. x) s)))
    go true q = ap suc q
    go false q = q

pub marks-few : (s : List Bool) → marks s ≤ length s
unfolding marks
marks-few s = length-keep (λ (b : Bool). b) s

pub marks-room : (s : List Bool) (r : ℕ) → r < length s → get_or s r false ≡ false → marks s < length s
unfolding marks keep
marks-room [] r h e = absurd (not-suc-le-zero h)
marks-room (b ∷ s) zero h e = rw e (omega (arith, marks-few s))
marks-room (b ∷ s) (suc r) h e = go b (marks-room s r (le_of_suc-le-suc h) e)
  where
    go : (b : Bool) → marks s < length s → length (cond b (b ∷ keep (λ x. x) s) (keep (λ x. x) s)) < suc (length s)
    go true q = omega arith
    go false q = omega arith

-- no marks
pub marks-none : (s : List Bool) → all not s ≡ true → marks s ≡ 0
unfolding marks keep all
marks-none [] h = refl
marks-none (true ∷ s) h = absurd (true≢false (sym h))
marks-none (false ∷ s) h = marks-none s h

pub unmarked : (s : List Bool) (r : ℕ) → all not s ≡ true → get_or s r false ≡ false
unfolding all
unmarked [] r h = refl
unmarked (true ∷ s) r h = absurd (true≢false (sym h))
unmarked (false ∷ s) zero h = refl
unmarked (false ∷ s) (suc r) h = unmarked s r h

-- ---- places

pub get_d_map_in : {A B : Type 0} (f : A → B) (l : List A) (r : ℕ) (d : A) (e : B) → r < length l → get_or (map f l) r e ≡ f (get_or l r d)
get_d_map_in f [] r d e h = absurd (not-suc-le-zero h)
get_d_map_in f (x ∷ l) zero d e h = refl
get_d_map_in f (x ∷ l) (suc r) d e h = get_d_map_in f l r d e (le_of_suc-le-suc h)

-- what was written at the front
pub get_d_over-front : {A : Type 0} (w l : List A) (r : ℕ) (d : A) → r < length l → get_or (over w 0 l) r d ≡ get_or l r d
unfolding over
get_d_over-front w l r d h = get_or-append l (drop (0 + length l) w) d r h

-- ---- the keys whose rows are marked

chosen-suc : (s : List Bool) (ks : List ℕ) (j : ℕ) → j < length ks → j < length s
    → chosen s (take (suc j) ks) ≡ chosen s (take j ks) ++ cond (get_or s j false) (get_or ks j 0 ∷ []) []
unfolding chosen
chosen-suc s [] j a b = absurd (not-suc-le-zero a)
chosen-suc [] (k ∷ ks) j a b = absurd (not-suc-le-zero b)
chosen-suc (c ∷ s) (k ∷ ks) zero a b = refl
chosen-suc (c ∷ s) (k ∷ ks) (suc j) a b = go c (chosen-suc s ks j (le_of_suc-le-suc a) (le_of_suc-le-suc b))
  where
    go : (b : Bool) → chosen s (take (suc j) ks) ≡ chosen s (take j ks) ++ cond (get_or s j false) (get_or ks j 0 ∷ []) []
        → cond b (k ∷ chosen s (take (suc j) ks)) (chosen s (take (suc j) ks)) ≡ cond b (k ∷ chosen s (take j ks)) (chosen s (take j ks)) ++ cond (get_or s j false) (get_or ks j 0 ∷ []) []
    go true r = rw r
    go false r = r

pub chosen_more : (s : List Bool) (ks : List ℕ) (j : ℕ) → j < length ks → j < length s
    → chosen s (take (j + 1) ks) ≡ chosen s (take j ks) ++ cond (get_or s j false) (get_or ks j 0 ∷ []) []
chosen_more s ks j a b = rw add-one (chosen-suc s ks j a b)

pub chosen-told : (p : ℕ → Bool) (ks : List ℕ) (rest : List Bool) → chosen (map p ks ++ rest) ks ≡ keep p ks
unfolding chosen keep
chosen-told p [] rest = refl
chosen-told p (k ∷ ks) rest = rw (chosen-told p ks rest)
