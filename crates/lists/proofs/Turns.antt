-- One turn of each loop that edits a list in place: w is the list at entry, l the list at the turn. Assumes nothing.
use mathlib.Core.Path.{◌≡◌, sym, ap, ◌∙◌}
use mathlib.Core.Bool.{Bool, true, false}
use Prim.Native.Nat.{ℕ, suc, ◌+◌, ◌-◌, ◌≤◌, ◌<◌}
use native.Mathlib.Numerals.{add-one}
use native.Mathlib.Omega.{arith}
use mathlib.Core.List.{List, [], ◌∷◌, ◌++◌, map, append-nil, map-append}
use lib.Dec.{ltb}
use lib.ListN.{length, get_or, set, take, drop, length-append, length-drop, length-map, take-append-drop}
use lib.Seq.{length-take-le, take-suc, take-take, drop-cons, append_snoc, set_at, get_or_at, set-get_or, get_or-take, get_or-drop}
use borrow.Author.Tests.{lt-ltb}
use Rattle.lists.specs.Every.{all}
use Rattle.lists.specs.Select.{keep, has, place, ascending}
use Rattle.lists.specs.Rows.{over}
use Rattle.lists.proofs.Every.{all_nil, all-places, all-step}
use Rattle.lists.proofs.Booleans.{and_both}
use Rattle.lists.proofs.Select.{length-keep, keep-more, place-between, ascending-upto, lacks-places}
use Rattle.lists.proofs.Rows.{over-front, get_d_over-before, get_d_over-behind, store-before, store-behind}

-- every element changed by f: those before i are
module _ {A : Type 0} (f : A → A) (w l : List A) (i : ℕ) (d : A) (h : i < length w) (e : l ≡ map f (take i w) ++ drop i w) where
  done : length (map f (take i w)) ≡ i
  done = let j : i ≤ length w = omega arith in rw (length-map, length-take-le i w j)

  read : get_or l i d ≡ get_or w i d
  read = rw (e, drop-cons w i d h, get_or_at (map f (take i w)) (get_or w i d) (drop (suc i) w) d i done)

  pub change-step : (x : A) → f (get_or l i d) ≡ x → set l i x ≡ map f (take (i + 1) w) ++ drop (i + 1) w
  change-step x q =
      let r : f (get_or w i d) ≡ x = rw (← read) q in
      rw (e, add-one, drop-cons w i d h, set_at (map f (take i w)) (get_or w i d) (drop (suc i) w) x i done, take-suc w i d h, map-append, append_snoc, r)

  pub change-none : f (get_or l i d) ≡ get_or l i d → l ≡ map f (take (i + 1) w) ++ drop (i + 1) w
  change-none q = sym (set-get_or l i d) ∙ change-step (get_or l i d) q

-- those that pass kept at the front: those before i are, and m of them passed
module _ {A : Type 0} (p : A → Bool) (w l : List A) (i m : ℕ) (d : A) (h : i < length w) (n : m ≡ length (keep p (take i w))) (e : l ≡ over w 0 (keep p (take i w))) where
  keep-few : m ≤ i
  keep-few =
      let j : i ≤ length w = omega arith in
      omega (arith, length-keep p (take i w), length-take-le i w j)

  look : get_or l i d ≡ get_or w i d
  look = rw e (get_d_over-behind w 0 (keep p (take i w)) i d (omega (arith, keep-few)) (omega (arith, keep-few)))

  keep-here : p (get_or l i d) ≡ true → keep p (take (i + 1) w) ≡ keep p (take i w) ++ (get_or l i d ∷ [])
  keep-here t = let s : p (get_or w i d) ≡ true = rw look at t in rw (keep-more p w i d h, s, look)

  pub keep-store : p (get_or l i d) ≡ true → set l m (get_or l i d) ≡ over w 0 (keep p (take (i + 1) w))
  keep-store t =
      rw (keep-here t) (ap (λ (v : List A). set v m (get_or l i d)) e ∙ store-behind w 0 m (keep p (take i w)) (get_or l i d) (omega arith) (omega (arith, keep-few)))

  pub keep-count : p (get_or l i d) ≡ true → m + 1 ≡ length (keep p (take (i + 1) w))
  keep-count t = rw (keep-here t, length-append) (omega arith)

  pub keep-not : p (get_or l i d) ≡ false → keep p (take (i + 1) w) ≡ keep p (take i w)
  keep-not t = let s : p (get_or w i d) ≡ false = rw look at t in rw (keep-more p w i d h, s, append-nil)

-- room made in the first n: those from i on stand one place later
module _ (w l : List ℕ) (n i : ℕ) (a : i ≤ n) (b : n < length w) (e : l ≡ over w (i + 1) (drop i (take n w))) where
  size : i + 1 + length (drop i (take n w)) ≡ n + 1
  size = let j : n ≤ length w = omega arith in rw (length-drop, length-take-le n w j) (omega arith)

  room-read : (k : ℕ) → k < i → get_or l k 0 ≡ get_or (take n w) k 0
  room-read k g =
      let c : k < n = omega arith in
      rw (e, get_or-take n w k 0 c) (get_d_over-before w (i + 1) (drop i (take n w)) k 0 (omega arith) (omega arith))

  store : (x : ℕ) → set l i x ≡ over w i (x ∷ drop i (take n w))
  store x = rw e (store-before w i (drop i (take n w)) x (omega (arith, size)))

  pub room-step : 0 < i → set l i (get_or l (i - 1) 0) ≡ over w (i - 1 + 1) (drop (i - 1) (take n w))
  room-step p =
      let g : i - 1 < i = omega arith in
      let s : suc (i - 1) ≡ i = omega arith in
      let t : i - 1 + 1 ≡ i = omega arith in
      let j : n ≤ length w = omega arith in
      let k : i - 1 < length (take n w) = rw (length-take-le n w j) (omega arith) in
      rw (t, drop-cons (take n w) (i - 1) 0 k, s, ← room-read (i - 1) g) (store (get_or l (i - 1) 0))

  filled : (x : ℕ) → all (λ y. ltb y x) (take i (take n w)) ≡ true → all (ltb x) (drop i (take n w)) ≡ true → set l i x ≡ over w 0 (place x (take n w))
  filled x p q =
      let r : place x (take n w) ≡ take i (take n w) ++ (x ∷ drop i (take n w)) =
      ap (place x) (sym (take-append-drop i (take n w))) ∙ place-between x (take i (take n w)) (drop i (take n w)) p q in
      rw (r, take-take i n w a) (store x ∙ over-front w i (x ∷ drop i (take n w)) (omega arith))

  long : length (take n w) ≡ n
  long = let j : n ≤ length w = omega arith in length-take-le n w j

  -- the new number's place is found: the number before it is smaller, or there is none
  pub room-found : (x : ℕ) → ascending (take n w) ≡ true → 0 < i → get_or l (i - 1) 0 < x → all (ltb x) (drop i (take n w)) ≡ true → set l i x ≡ over w 0 (place x (take n w))
  room-found x s p g q =
      let v = take n w in
      let j = i - 1 in
      let y : get_or v j 0 < x = rw (← room-read j (omega arith)) g in
      let m : length (take i v) ≡ i = length-take-le i v (omega (arith, long)) in
      let below = all-places (λ (z : ℕ). ltb z x) (take i v) 0
      (λ k h. let h : k < i = omega arith in rw (get_or-take i v k 0 h) (lt-ltb (get_or v k 0) x (ascending-upto x v j s (omega (arith, long)) y k (omega arith)))) in
      filled x below q

  pub room-first : (x : ℕ) → i ≡ 0 → all (ltb x) (drop i (take n w)) ≡ true → set l 0 x ≡ over w 0 (place x (take n w))
  room-first x z q =
      let u : all (λ y. ltb y x) (take i (take n w)) ≡ true = rw z (all_nil (λ (y : ℕ). ltb y x)) in
      ap (λ (k : ℕ). set l k x) (sym z) ∙ filled x u q

  -- it lies further down: the number before is larger, since the list lacks the new one
  pub room-larger : (x : ℕ) → has x (take n w) ≡ false → 0 < i → x ≤ get_or l (i - 1) 0 → all (ltb x) (drop i (take n w)) ≡ true → all (ltb x) (drop (i - 1) (take n w)) ≡ true
  room-larger x s p g q =
      let v = take n w in
      let j = i - 1 in
      let h : j < length v = omega (arith, long) in
      let o : j + 1 ≡ i = omega arith in
      let m : x ≡ get_or v j 0 → ⊥ = lacks-places x v j s h in
      let y : x < get_or v j 0 = omega (arith, room-read j (omega arith)) in
      all-step (ltb x) v j 0 h ∙ and_both (ltb x (get_or v j 0)) (all (ltb x) (drop (j + 1) v)) (lt-ltb x (get_or v j 0) y) (rw o q)

-- how many pass: m of those before i did
module _ {A : Type 0} (p : A → Bool) (w : List A) (i m : ℕ) (d : A) (h : i < length w) (n : m ≡ length (keep p (take i w))) where
  pub count-one : p (get_or w i d) ≡ true → m + 1 ≡ length (keep p (take (i + 1) w))
  count-one t = rw (keep-more p w i d h, t, length-append) (omega arith)

  pub count_none : p (get_or w i d) ≡ false → m ≡ length (keep p (take (i + 1) w))
  count_none t = rw (keep-more p w i d h, t, append-nil) n

-- a list s written from place a on: i of its elements are
module _ {A : Type 0} (w s l : List A) (a i : ℕ) (d : A) (h : i < length s) (k : a + length s ≤ length w) (e : l ≡ over w a (take i s)) where
  written : length (take i s) ≡ i
  written = let j : i ≤ length s = omega arith in length-take-le i s j

  pub copy_step : set l (a + i) (get_or s i d) ≡ over w a (take (i + 1) s)
  copy_step = rw (e, add-one, take-suc s i d h) (store-behind w a (a + i) (take i s) (get_or s i d) (omega (arith, written)) (omega arith))

  -- what lies further on is as at entry
  pub copy_read : (b : ℕ) → a ≤ b → get_or l (b + i) d ≡ get_or w (b + i) d
  copy_read b g = rw e (get_d_over-behind w a (take i s) (b + i) d (omega (arith, written)) (omega (arith, written)))

-- the same where the list written lies further on in the words themselves
pub move_step : {A : Type 0} (w l : List A) (a b i : ℕ) (d : A) → a ≤ b → b + i < length w → l ≡ over w a (take i (drop b w))
    → set l (a + i) (get_or l (b + i) d) ≡ over w a (take (i + 1) (drop b w))
move_step w l a b i d g h e =
    let m : length (drop b w) ≡ length w - b = length-drop b w in
    let j : i < length (drop b w) = omega arith in
    let k : a + length (drop b w) ≤ length w = omega arith in
    rw (copy_read w (drop b w) l a i d j k e b g, ← get_or-drop b w i d) (copy_step w (drop b w) l a i d j k e)
