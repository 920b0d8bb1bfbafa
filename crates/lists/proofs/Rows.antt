-- Laws of rows in lent memory, over any elements. Assumes nothing.
use Rattle.std.specs.Prelude.{Option, None, Some}
use mathlib.Core.Path.{◌≡◌, refl, sym, ap, ◌∙◌}
use Prim.Native.Nat.{ℕ, zero, suc, ◌+◌, ◌-◌, ◌*◌, ◌/◌, ◌≤◌, ◌<◌}
use native.Mathlib.Nat.{le_of_suc-le-suc, not-suc-le-zero, zero-mul, add-zero, mul-le-mul_right, eq-or-lt_of_le}
use native.Mathlib.Numerals.{add-one}
use native.Mathlib.Omega.{arith}
use mathlib.Core.Bool.{Bool, true, false, ◌||◌, cond}
use mathlib.Core.Logic.{◌⊎◌, inl, inr, ⊎_elim}
use mathlib.Core.List.{List, [], ◌∷◌, ◌++◌, map, append_assoc}
use lib.ListN.{length, get_or, set, take, drop, length-append, length-drop, take-append-drop, get_or-append}
use lib.Seq.{drop-drop, take-take, take-nil, take-add, length-take-le, take_at, drop_at, sets-eq}
use lib.Seq.{get_or-take, get_or-drop, take-suc, drop-cons, append_snoc, set_at, set-get_or}
use lib.Dec.{eqb, ltb}
use borrow.Author.Tests.{eqb-true, eqb-false, eq-eqb, ne_eqb, ltb-true, ltb-false}
use Rattle.lists.specs.Select.{has, ascending}
use Rattle.lists.specs.Rows.{reads, over, keys, later, row_with, Among}
use Rattle.lists.proofs.Select.{ascending-places, ascending-from}

pub drop-take : {A : Type 0} (m n : ℕ) (l : List A) → drop m (take n l) ≡ take (n - m) (drop m l)
drop-take zero n l = let e : n - 0 ≡ n = omega arith in rw e
drop-take (suc m) zero l = let e : 0 - suc m ≡ 0 = omega arith in rw e
drop-take (suc m) (suc n) [] = sym (take-nil (suc n - suc m))
drop-take (suc m) (suc n) (x ∷ l) = let e : suc n - suc m ≡ n - m = omega arith in rw e (drop-take m n l)

-- ---- reading

module _ {A B : Type 0} (s : ℕ) (dec : List A → B) where
  pub length-reads : (k : ℕ) (w : List A) → length (reads s dec k w) ≡ k
  unfolding reads
  length-reads zero w = refl
  length-reads (suc k) w = ap suc (length-reads k (drop s w))

  pub get_d_reads : (k i : ℕ) (w : List A) (d : B) → i < k → get_or (reads s dec k w) i d ≡ dec (take s (drop (i * s) w))
  unfolding reads
  get_d_reads zero i w d h = absurd (not-suc-le-zero h)
  get_d_reads (suc k) zero w d h = rw zero-mul
  get_d_reads (suc k) (suc i) w d h =
      let e : s + i * s ≡ suc i * s = omega arith in
      rw (get_d_reads k i (drop s w) d (le_of_suc-le-suc h), drop-drop, e)

  -- the rows from number n on, and the first n rows
  pub drop-reads : (n k : ℕ) (w : List A) → drop n (reads s dec k w) ≡ reads s dec (k - n) (drop (n * s) w)
  unfolding reads
  drop-reads zero k w = let e : k - 0 ≡ k = omega arith in rw (zero-mul, e)
  drop-reads (suc n) zero w = let e : 0 - suc n ≡ 0 = omega arith in rw e
  drop-reads (suc n) (suc k) w =
      let e : s + n * s ≡ suc n * s = omega arith in
      let f : suc k - suc n ≡ k - n = omega arith in
      rw (drop-reads n k (drop s w), drop-drop, e, f)

  pub take-reads : (n k : ℕ) (w : List A) → n ≤ k → take n (reads s dec k w) ≡ reads s dec n w
  unfolding reads
  take-reads zero k w h = refl
  take-reads (suc n) zero w h = absurd (not-suc-le-zero h)
  take-reads (suc n) (suc k) w h = rw (take-reads n k (drop s w) (le_of_suc-le-suc h))

  -- the first k rows lie in the first k * s words
  pub reads-take : (k n : ℕ) (w : List A) → k * s ≤ n → reads s dec k (take n w) ≡ reads s dec k w
  unfolding reads
  reads-take zero n w h = refl
  reads-take (suc k) n w h =
      let l : s ≤ n = omega arith in
      let m : k * s ≤ n - s = omega arith in
      rw (take-take s n w l, drop-take s n w, reads-take k (n - s) (drop s w) m)

-- what is read of what is read
pub mapped-reads : {A B C : Type 0} (s : ℕ) (f : List A → B) (g : B → C) (n : ℕ) (w : List A) → map g (reads s f n w) ≡ reads s (λ r. g (f r)) n w
unfolding reads
mapped-reads s f g zero w = refl
mapped-reads s f g (suc n) w = ap (λ z. g (f (take s w)) ∷ z) (mapped-reads s f g n (drop s w))

-- ---- writing

module _ {A : Type 0} where
  pub over-nil : (w : List A) (a : ℕ) → over w a [] ≡ w
  unfolding over
  over-nil w a = rw (add-zero, take-append-drop)

  pub length_over : (w : List A) (a : ℕ) (l : List A) → a + length l ≤ length w → length (over w a l) ≡ length w
  unfolding over
  length_over w a l h =
      let i : a ≤ length w = omega arith in
      simp (length-append, length-drop, length-take-le a w i) (omega arith)

  front : (w : List A) (a : ℕ) (l : List A) → a + length l ≤ length w → length (take a w ++ l) ≡ a + length l
  front w a l h = let i : a ≤ length w = omega arith in simp (length-append, length-take-le a w i)

  -- what was written, with all before it; what lies behind
  pub take-over : (w : List A) (a : ℕ) (l : List A) → a + length l ≤ length w → take (a + length l) (over w a l) ≡ take a w ++ l
  unfolding over
  take-over w a l h = rw (← append_assoc, take_at (take a w ++ l) (drop (a + length l) w) (a + length l) (front w a l h))

  pub drop-over : (w : List A) (a : ℕ) (l : List A) → a + length l ≤ length w → drop (a + length l) (over w a l) ≡ drop (a + length l) w
  unfolding over
  drop-over w a l h = rw (← append_assoc, drop_at (take a w ++ l) (drop (a + length l) w) (a + length l) (front w a l h))

  -- a list written behind another, at a place that is known by an equation
  pub over-over : (w : List A) (a n : ℕ) (l m : List A) → a + length l ≡ n → n ≤ length w → over (over w a l) n m ≡ over w a (l ++ m)
  over-over w a n l m e h =
      let g : a + length l ≤ length w = omega arith in
      let t : take n (over w a l) ≡ take a w ++ l = rw (← e) (take-over w a l g) in
      let s : drop n (over w a l) ≡ drop n w = rw (← e) (drop-over w a l g) in
      let k : n + length m ≡ a + length (l ++ m) = rw length-append (omega arith) in
      let d : drop (n + length m) (over w a l) ≡ drop (a + length (l ++ m)) w =
      sym (drop-drop (length m) n (over w a l)) ∙ rw (s, drop-drop, k) in
      joined (over w a l) t d
    where
      joined : (v : List A) → take n v ≡ take a w ++ l → drop (n + length m) v ≡ drop (a + length (l ++ m)) w → over v n m ≡ over w a (l ++ m)
      joined v t d = unfold over in rw (t, d, append_assoc (take a w), append_assoc l m)

  -- three stores in a row
  pub over-three : (w : List A) (a : ℕ) (x y z : A) → a + 3 ≤ length w
      → set (set (set w a x) (a + 1) y) (a + 2) z ≡ over w a (x ∷ y ∷ z ∷ [])
  unfolding over
  over-three w a x y z h =
      let i : a + 1 ≡ suc a = omega arith in
      let j : a + 2 ≡ suc (suc a) = omega arith in
      rw (i, j, ← append_assoc) (sets-eq (x ∷ y ∷ z ∷ []) w a h)

  -- a list written in a part that begins at a
  pub over-part : (w : List A) (a b : ℕ) (l : List A) → a ≤ length w → take a w ++ over (drop a w) b l ≡ over w (a + b) l
  unfolding over
  over-part w a b l h =
      let e : a + (b + length l) ≡ a + b + length l = omega arith in
      rw (drop-drop, e, ← append_assoc, ← take-add)

  -- from place a on lies what was written there, and before it what was there
  pub drop-from-over : (w : List A) (a : ℕ) (l : List A) → a ≤ length w → drop a (over w a l) ≡ l ++ drop (a + length l) w
  unfolding over
  drop-from-over w a l h = drop_at (take a w) (l ++ drop (a + length l) w) a (length-take-le a w h)

  pub take-before-over : (w : List A) (a : ℕ) (l : List A) → a ≤ length w → take a (over w a l) ≡ take a w
  unfolding over
  take-before-over w a l h = take_at (take a w) (l ++ drop (a + length l) w) a (length-take-le a w h)

  -- a list written in front of another
  pub over-ahead : (w : List A) (a n : ℕ) (l m : List A) → a + length l ≡ n → n + length m ≤ length w → over (over w n m) a l ≡ over w a (l ++ m)
  over-ahead w a n l m e h =
      let i : n ≤ length w = omega arith in
      let j : a ≤ n = omega arith in
      let k : n + length m ≡ a + length (l ++ m) = rw length-append (omega arith) in
      let t : take a (over w n m) ≡ take a w = sym (take-take a n (over w n m) j) ∙ ap (take a) (take-before-over w n m i) ∙ take-take a n w j in
      joined (over w n m) t (drop-from-over w n m i ∙ ap (λ (q : ℕ). m ++ drop q w) k)
    where
      joined : (v : List A) → take a v ≡ take a w → drop n v ≡ m ++ drop (a + length (l ++ m)) w → over v a l ≡ over w a (l ++ m)
      joined v t d = unfold over in rw (t, e, d, append_assoc l m)

  -- a list written at the front
  pub over-front : (w : List A) (a : ℕ) (l : List A) → a ≤ length w → over w a l ≡ over w 0 (take a w ++ l)
  unfolding over
  over-front w a l h =
      let e : a + length l ≡ 0 + length (take a w ++ l) = rw (length-append, length-take-le a w h) (omega arith) in
      rw (e, append_assoc)

  -- what is there, written again
  pub over-itself : (w : List A) (n : ℕ) → n ≤ length w → over w 0 (take n w) ≡ w
  unfolding over
  over-itself w n h =
      let e : 0 + n ≡ n = omega arith in
      rw (length-take-le n w h, e, take-append-drop)

  -- what is read before the written list, and behind it
  pub get_d_over-before : (w : List A) (a : ℕ) (l : List A) (k : ℕ) (d : A) → k < a → a ≤ length w → get_or (over w a l) k d ≡ get_or w k d
  unfolding over
  get_d_over-before w a l k d h i =
      let j : k < length (take a w) = rw (length-take-le a w i) h in
      get_or-append (take a w) (l ++ drop (a + length l) w) d k j ∙ get_or-take a w k d h

  pub get_d_over-behind : (w : List A) (a : ℕ) (l : List A) (k : ℕ) (d : A) → a + length l ≤ k → a + length l ≤ length w → get_or (over w a l) k d ≡ get_or w k d
  get_d_over-behind w a l k d h i =
      let m = a + length l in
      let e : k ≡ m + (k - m) = omega arith in
      rw (e, ← get_or-drop m (over w a l) (k - m) d, ← get_or-drop m w (k - m) d, drop-over w a l i)

  -- a store in front of the written list, and one behind it
  pub store-before : (w : List A) (a : ℕ) (l : List A) (x : A) → a + 1 + length l ≤ length w → set (over w (a + 1) l) a x ≡ over w a (x ∷ l)
  unfolding over
  store-before w a l x h =
      let i : a < length w = omega arith in
      let j : a ≤ length w = omega arith in
      let e : suc a + length l ≡ a + suc (length l) = omega arith in
      rw (add-one, take-suc w a x i, append_snoc, e, set_at (take a w) (get_or w a x) (l ++ drop (a + suc (length l)) w) x a (length-take-le a w j))

  pub store-behind : (w : List A) (a m : ℕ) (l : List A) (x : A) → a + length l ≡ m → m < length w → set (over w a l) m x ≡ over w a (l ++ (x ∷ []))
  unfolding over
  store-behind w a m l x q h =
      let i : a + length l ≤ length w = omega arith in
      let e : a + length (l ++ (x ∷ [])) ≡ suc m = rw length-append (omega arith) in
      rw (e, q, drop-cons w m x h, ← append_assoc (take a w) l, set_at (take a w ++ l) (get_or w m x) (drop (suc m) w) x m (front w a l i ∙ q), append_assoc (take a w) l, append_snoc l)

  -- one store, and one id more that is there already
  pub store_at : (w : List A) (a : ℕ) (x : A) → a < length w → set w a x ≡ over w a (x ∷ [])
  store_at w a x h = ap (λ (v : List A). set v a x) (sym (over-nil w (a + 1))) ∙ store-before w a [] x (omega arith)

  pub over-kept : (w : List A) (a : ℕ) (l : List A) (d : A) → a + 1 + length l ≤ length w → over w (a + 1) l ≡ over w a (get_or w a d ∷ l)
  over-kept w a l d h =
      let i : a < a + 1 = omega arith in
      let j : a + 1 ≤ length w = omega arith in
      let e : get_or (over w (a + 1) l) a d ≡ get_or w a d = get_d_over-before w (a + 1) l a d i j in
      sym (set-get_or (over w (a + 1) l) a d) ∙ ap (set (over w (a + 1) l) a) e ∙ store-before w a l (get_or w a d) h

  -- one store behind the first n
  pub store-end : (w : List A) (n : ℕ) (x : A) → n < length w → set w n x ≡ over w 0 (take n w ++ (x ∷ []))
  store-end w n x h =
      let i : n ≤ length w = omega arith in
      let e : n + length {A = A} [] ≡ n = omega arith in
      ap (λ (v : List A). set v n x) (sym (over-nil w n)) ∙ store-behind w n n [] x e h ∙ over-front w n (x ∷ []) i

-- ---- two parts

module _ {A : Type 0} where
  pub take-front : (n : ℕ) (b c : List A) → n ≤ length b → take n (b ++ c) ≡ take n b
  take-front zero b c h = refl
  take-front (suc n) [] c h = absurd (not-suc-le-zero h)
  take-front (suc n) (x ∷ b) c h = ap (λ z. x ∷ z) (take-front n b c (le_of_suc-le-suc h))

  pub drop-front : (n : ℕ) (b c : List A) → n ≤ length b → drop n (b ++ c) ≡ drop n b ++ c
  drop-front zero b c h = refl
  drop-front (suc n) [] c h = absurd (not-suc-le-zero h)
  drop-front (suc n) (x ∷ b) c h = drop-front n b c (le_of_suc-le-suc h)

  -- written within the first of them
  pub over_in : (b c : List A) (k : ℕ) (l : List A) → k + length l ≤ length b → over (b ++ c) k l ≡ over b k l ++ c
  unfolding over
  over_in b c k l h =
      let i : k ≤ length b = omega arith in
      rw (take-front k b c i, drop-front (k + length l) b c h, append_assoc, append_assoc)

-- ---- keys, and the row with a key

-- row i of n lies within the n rows
pub row_within : (i n s : ℕ) → i < n → i * s + s ≤ n * s
row_within i n s h =
    let m : (i + 1) * s ≤ n * s = mul-le-mul_right s (omega arith) in
    omega arith

pub row-start : (i n s m : ℕ) → 0 < s → n * s ≤ m → i < n → i * s < m
row-start i n s m p q h = omega (arith, row_within i n s h)

pub length-keys : (s n : ℕ) (w : List ℕ) → length (keys s n w) ≡ n
unfolding keys
length-keys s n w = length-reads s (λ (r : List ℕ). get_or r 0 0) n w

pub key-at : (s n i : ℕ) (w : List ℕ) → 0 < s → i < n → get_or (keys s n w) i 0 ≡ get_or w (i * s) 0
unfolding keys
key-at s n i w p h =
    get_d_reads s (λ (r : List ℕ). get_or r 0 0) n i w 0 h ∙ get_or-take s (drop (i * s) w) 0 0 p ∙ rw (get_or-drop, add-zero)

-- rows of one word are their keys
pub keys-one : (w : List ℕ) → keys 1 (length w) w ≡ w
unfolding keys reads
keys-one [] = refl
keys-one (x ∷ w) = ap (λ (ks : List ℕ). x ∷ ks) (keys-one w)

-- a number that is no key has no row
pub row-none : (x : ℕ) (ks : List ℕ) → ((k : ℕ) → k < length ks → get_or ks k 0 ≡ x → ⊥) → row_with x ks ≡ None
unfolding row_with
row-none x [] h = refl
row-none x (y ∷ ks) h =
    let r : row_with x ks ≡ None = row-none x ks (λ k l. let g : suc k < suc (length ks) = omega arith in h (suc k) g) in
    rw (ne_eqb y x (h 0 (omega arith)), r)

-- the first row with a key
pub row_first : (x i : ℕ) (ks : List ℕ) → i < length ks → get_or ks i 0 ≡ x → ((k : ℕ) → k < i → get_or ks k 0 ≡ x → ⊥) → row_with x ks ≡ Some i
unfolding row_with
row_first x i [] l e h = absurd (not-suc-le-zero l)
row_first x zero (y ∷ ks) l e h = rw (eq-eqb y x e)
row_first x (suc i) (y ∷ ks) l e h =
    let r : row_with x ks ≡ Some i = row_first x i ks (le_of_suc-le-suc l) e (λ k g. let g : suc k < suc i = omega arith in h (suc k) g) in
    rw (ne_eqb y x (h 0 (omega arith)), r)

-- where keys ascend a key has one row
pub row-at : (x i : ℕ) (ks : List ℕ) → ascending ks ≡ true → i < length ks → get_or ks i 0 ≡ x → row_with x ks ≡ Some i
row-at x i ks a l e = row_first x i ks l e (λ k g q. let p = ascending-places ks k i a g l in omega arith)

-- a number between the keys before a place and those from it on has no row
pub row-between : (x m : ℕ) (ks : List ℕ) → ((k : ℕ) → k < m → get_or ks k 0 < x) → ((k : ℕ) → m ≤ k → k < length ks → x < get_or ks k 0) → row_with x ks ≡ None
row-between x m ks below above = row-none x ks (λ k l e. side k l e (ltb k m) refl)
  where
    side : (k : ℕ) → k < length ks → get_or ks k 0 ≡ x → (b : Bool) → ltb k m ≡ b → ⊥
    side k l e true t = omega (arith, below k (ltb-true k m t))
    side k l e false t = omega (arith, above k (ltb-false k m t) l)

-- a row that is found is one of the rows and has the key; where none is found no row has it
pub found_within : (x : ℕ) (ks : List ℕ) (j : ℕ) → row_with x ks ≡ Some j → j < length ks
unfolding row_with
found_within x [] j e = let z : ◌≡◌ {A = ℕ} 0 1 = cc in omega arith
found_within x (k ∷ ks) j e = go (eqb k x) (row_with x ks) (λ i q. found_within x ks i q) e
  where
    go : (b : Bool) (r : Option ℕ) → ((i : ℕ) → r ≡ Some i → i < length ks) → cond b (Some 0) (later r) ≡ Some j → j < suc (length ks)
    go true r q f = let z : j ≡ 0 = cc in omega arith
    go false (Some i) q f = let z : j ≡ suc i = cc in omega (arith, q i refl)
    go false None q f = let z : ◌≡◌ {A = ℕ} 0 1 = cc in omega arith

pub found-key : (x : ℕ) (ks : List ℕ) (j : ℕ) → row_with x ks ≡ Some j → get_or ks j 0 ≡ x
unfolding row_with
found-key x [] j e = let z : ◌≡◌ {A = ℕ} 0 1 = cc in absurd (omega arith)
found-key x (k ∷ ks) j e = go (eqb k x) refl (row_with x ks) (λ i q. found-key x ks i q) e
  where
    go : (b : Bool) → eqb k x ≡ b → (r : Option ℕ) → ((i : ℕ) → r ≡ Some i → get_or ks i 0 ≡ x) → cond b (Some 0) (later r) ≡ Some j → get_or (k ∷ ks) j 0 ≡ x
    go true p r q f = let z : j ≡ 0 = cc in rw z (eqb-true k x p)
    go false p (Some i) q f = let z : j ≡ suc i = cc in rw z (q i refl)
    go false p None q f = let z : ◌≡◌ {A = ℕ} 0 1 = cc in absurd (omega arith)

abbrev pub there : Option ℕ → Bool
there (Some j) = true
there None = false

pub found-has : (x : ℕ) (ks : List ℕ) → has x ks ≡ there (row_with x ks)
unfolding has row_with
found-has x [] = refl
found-has x (k ∷ ks) = go (eqb k x) refl (row_with x ks) (found-has x ks)
  where
    go : (b : Bool) → eqb k x ≡ b → (r : Option ℕ) → has x ks ≡ there r → (eqb x k || has x ks) ≡ there (cond b (Some 0) (later r))
    go true e r h = rw (eq-eqb x k (sym (eqb-true k x e)))
    go false e (Some j) h = rw (ne_eqb x k (λ q. eqb-false k x e (sym q)), h)
    go false e None h = rw (ne_eqb x k (λ q. eqb-false k x e (sym q)), h)

-- the same of a search among rows of one word
module _ (x : ℕ) (ks : List ℕ) (r : Option ℕ) (e : r ≡ row_with x (keys 1 (length ks) ks)) where
  pub one_found : row_with x ks ≡ r
  one_found = sym (e ∙ ap (row_with x) (keys-one ks))

  pub one_has : has x ks ≡ there r
  one_has = found-has x ks ∙ ap there one_found

-- ---- a search by halves

module _ (ks : List ℕ) (up : ascending ks ≡ true) (x low left half : ℕ) (a : Among ks x low left) (h : half ≡ left / 2) (more : 1 < left) where
  -- the upper half, where its first key is not above x
  pub upper-half : get_or ks (low + half) 0 ≤ x → Among ks x (low + half) (left - half)
  upper-half e =
      (omega arith, (omega (arith, a.1.0), (λ k l. let p = ascending-places ks k (low + half) up l (omega (arith, a.1.0)) in omega arith, λ k l m. a.1.1.1 k (omega arith) m)))

  -- the lower half, where it is
  pub lower-half : x < get_or ks (low + half) 0 → Among ks x low (left - half)
  lower-half e =
      (omega arith, (omega (arith, a.1.0), (a.1.1.0, λ k l m. ascending-from x ks (low + half) up e k (omega arith) m)))

-- one row is left
pub last_row : (ks : List ℕ) (up : ascending ks ≡ true) (x low left : ℕ) → Among ks x low left → left ≤ 1 → get_or ks low 0 ≡ x → row_with x ks ≡ Some low
last_row ks up x low left a l e = row-at x low ks up (omega (arith, a.0, a.1.0)) e

pub no_row : (ks : List ℕ) (x low left : ℕ) → Among ks x low left → left ≤ 1 → (get_or ks low 0 ≡ x → ⊥) → row_with x ks ≡ None
no_row ks x low left a l ne = row-none x ks (λ k m e. side k m e (ltb k low) refl (ltb low k) refl)
  where
    side : (k : ℕ) → k < length ks → get_or ks k 0 ≡ x → (p : Bool) → ltb k low ≡ p → (q : Bool) → ltb low k ≡ q → ⊥
    side k m e true t q u = omega (arith, a.1.1.0 k (ltb-true k low t))
    side k m e false t true u = omega (arith, a.1.1.1 k (omega (arith, ltb-true low k u, l, a.0)) m)
    side k m e false t false u =
        let z : k ≡ low = omega (arith, ltb-false k low t, ltb-false low k u) in
        ne (ap (λ i. get_or ks i 0) (sym z) ∙ e)

-- ---- a search from a row near by

-- ascending keys differ at least as much as their rows
pub keys-apart : (ks : List ℕ) (i j : ℕ) → ascending ks ≡ true → i ≤ j → j < length ks → get_or ks i 0 + (j - i) ≤ get_or ks j 0
keys-apart ks i zero up g h = let e : i ≡ 0 = omega arith in rw e (omega arith)
keys-apart ks i (suc j) up g h = ⊎_elim (λ e. rw e (omega arith)) (λ l. further (keys-apart ks i j up (omega arith) (omega arith))) (eq-or-lt_of_le g)
  where
    further : get_or ks i 0 + (j - i) ≤ get_or ks j 0 → get_or ks i 0 + (suc j - i) ≤ get_or ks (suc j) 0
    further p = let q = ascending-places ks j (suc j) up (omega arith) h in omega arith

module _ (ks : List ℕ) (up : ascending ks ≡ true) (x near d : ℕ) where
  -- ahead of a row: as many rows as x is larger, or all
  pub among-ahead : get_or ks near 0 ≤ x → near + d < length ks → ((d ≡ x - get_or ks near 0) ⊎ (near + d + 1 ≡ length ks)) → Among ks x near (d + 1)
  among-ahead h m w =
      (omega arith, (omega arith, (λ k l. let p = ascending-places ks k near up l (omega arith) in omega arith, λ k l g. ⊎_elim (λ e. let p = keys-apart ks near k up (omega arith) g in omega arith) (λ e. omega arith) w)))

  -- and behind it
  pub among-back : x < get_or ks near 0 → d ≤ near → near < length ks → ((d ≡ get_or ks near 0 - x) ⊎ (d ≡ near)) → Among ks x (near - d) (d + 1)
  among-back h m n w =
      (omega arith, (omega arith, (λ k l. ⊎_elim (λ e. let p = keys-apart ks k near up (omega arith) n in omega arith) (λ e. omega arith) w, λ k l g. let p = ascending-places ks near k up (omega arith) g in omega arith)))

-- the smaller of two numbers
pub least-of : (a b d : ℕ) → d ≡ cond (ltb a b) a b → (d ≤ a) × ((d ≤ b) × ((d ≡ a) ⊎ (d ≡ b)))
least-of a b d e = side (ltb a b) refl (rw e)
  where
    side : (t : Bool) → ltb a b ≡ t → d ≡ cond t a b → (d ≤ a) × ((d ≤ b) × ((d ≡ a) ⊎ (d ≡ b)))
    side true t e = let l = ltb-true a b t in (omega arith, (omega arith, inl e))
    side false t e = let l = ltb-false a b t in (omega arith, (omega arith, inr e))
