-- The first place of an id in a list, the list with something else there, and the lists in which second halves follow. Assumes nothing.
use mathlib.Core.Path.{◌≡◌, refl, sym, ap, ◌∙◌}
use Prim.Native.Nat.{ℕ, suc, ◌+◌, ◌≤◌, ◌<◌}
use native.Mathlib.Nat.{not-suc-le-zero}
use native.Mathlib.Numerals.{add-one}
use native.Mathlib.Omega.{arith}
use mathlib.Core.Bool.{Bool, true, false, ◌&&◌, cond, true≢false}
use mathlib.Core.List.{List, [], ◌∷◌, ◌++◌}
use lib.Dec.{eqb}
use lib.ListN.{length, get_or, set, take, drop, length-append, length-drop, length-set, drop_of_length-le}
use lib.Seq.{length-take-le, drop-cons, set_split, take-suc, take-take, append_snoc}
use borrow.Author.Tests.{eq-eqb, ne_eqb, eqb-true, eqb-false}
use Rattle.lists.specs.Rows.{over}
use Rattle.lists.specs.Select.{has}
use Rattle.lists.proofs.Booleans.{or_left, or_right, and-false}
use Rattle.lists.proofs.Rows.{store-before, over-front}
use Rattle.rules.specs.Turns.{swap_first}
use Rattle.follows.specs.Following.{first_place, pair, followed, followed_all}

module _ (x : ℕ) where
  place_here : (y : ℕ) (l : List ℕ) → eqb y x ≡ true → first_place x (y ∷ l) ≡ 0
  unfolding first_place
  place_here y l e = rw e

  place-on : (y : ℕ) (l : List ℕ) → eqb y x ≡ false → first_place x (y ∷ l) ≡ suc (first_place x l)
  unfolding first_place
  place-on y l e = rw e

  pub place-few : (l : List ℕ) → first_place x l ≤ length l
  unfolding first_place
  place-few [] = omega arith
  place-few (y ∷ l) = go (eqb y x) (place-few l)
    where
      go : (b : Bool) → first_place x l ≤ length l → cond b 0 (suc (first_place x l)) ≤ suc (length l)
      go true h = omega arith
      go false h = omega arith

  pub place-has : (l : List ℕ) → first_place x l < length l → has x l ≡ true
  unfolding has
  place-has [] h = absurd (not-suc-le-zero h)
  place-has (y ∷ l) h = go (eqb y x) refl (place-has l)
    where
      go : (b : Bool) → eqb y x ≡ b → (first_place x l < length l → has x l ≡ true) → has x (y ∷ l) ≡ true
      go true e ih = or_left (eqb x y) (has x l) (eq-eqb x y (sym (eqb-true y x e)))
      go false e ih = or_right (eqb x y) (has x l) (ih (omega (arith, place-on y l e)))

  pub place-lacks : (l : List ℕ) → first_place x l ≡ length l → has x l ≡ false
  unfolding has
  place-lacks [] h = refl
  place-lacks (y ∷ l) h = go (eqb y x) refl (place-lacks l)
    where
      go : (b : Bool) → eqb y x ≡ b → (first_place x l ≡ length l → has x l ≡ false) → has x (y ∷ l) ≡ false
      go true e ih = absurd (omega (arith, place_here y l e))
      go false e ih = rw (ne_eqb x y (λ q. eqb-false y x e (sym q)), ih (omega (arith, place-on y l e)))

  pub has-place : (l : List ℕ) → has x l ≡ true → first_place x l < length l
  has-place l h = let few = place-few l in let some : first_place x l ≡ length l → ⊥ = λ e. true≢false (sym h ∙ place-lacks l e) in omega arith

  -- the list with another list in the first place
  pub swap-there : (by l : List ℕ) → first_place x l < length l → swap_first x by l ≡ take (first_place x l) l ++ (by ++ drop (suc (first_place x l)) l)
  unfolding swap_first
  swap-there by [] h = absurd (not-suc-le-zero h)
  swap-there by (y ∷ l) h = go (eqb y x) refl (swap-there by l)
    where
      go : (b : Bool) → eqb y x ≡ b → (first_place x l < length l → swap_first x by l ≡ take (first_place x l) l ++ (by ++ drop (suc (first_place x l)) l))
          → cond b (by ++ l) (y ∷ swap_first x by l) ≡ take (first_place x (y ∷ l)) (y ∷ l) ++ (by ++ drop (suc (first_place x (y ∷ l))) (y ∷ l))
      go true e ih = rw (place_here y l e)
      go false e ih = rw (place-on y l e) (ap (λ z. y ∷ z) (ih (omega (arith, place-on y l e))))

  pub swap-absent : (by l : List ℕ) → first_place x l ≡ length l → swap_first x by l ≡ l
  unfolding swap_first
  swap-absent by [] h = refl
  swap-absent by (y ∷ l) h = go (eqb y x) refl (swap-absent by l)
    where
      go : (b : Bool) → eqb y x ≡ b → (first_place x l ≡ length l → swap_first x by l ≡ l) → cond b (by ++ l) (y ∷ swap_first x by l) ≡ y ∷ l
      go true e ih = absurd (omega (arith, place_here y l e))
      go false e ih = ap (λ z. y ∷ z) (ih (omega (arith, place-on y l e)))

  pub swap-length : (by l : List ℕ) → first_place x l < length l → length (swap_first x by l) + 1 ≡ length l + length by
  swap-length by l h =
      let p = first_place x l in
      let f : length (take p l) ≡ p = length-take-le p l (omega arith) in
      let d = length-drop (suc p) l in
      omega (arith, ap length (swap-there by l h), length-append (take p l) (by ++ drop (suc p) l), length-append by (drop (suc p) l))

  -- one id put in the place of the first
  pub swap-set : (y : ℕ) (l : List ℕ) → first_place x l < length l → swap_first x (y ∷ []) l ≡ set l (first_place x l) y
  swap-set y l h = swap-there (y ∷ []) l h ∙ sym (set_split l (first_place x l) y h)

  pub place_at : (l : List ℕ) → first_place x l < length l → get_or l (first_place x l) 0 ≡ x
  place_at [] h = absurd (not-suc-le-zero h)
  place_at (y ∷ l) h = go (eqb y x) refl (place_at l)
    where
      go : (b : Bool) → eqb y x ≡ b → (first_place x l < length l → get_or l (first_place x l) 0 ≡ x) → get_or (y ∷ l) (first_place x (y ∷ l)) 0 ≡ x
      go true e ih = rw (place_here y l e) (eqb-true y x e)
      go false e ih = rw (place-on y l e) (ih (omega (arith, place-on y l e)))

  -- one turn of the search
  pub search-here : (l : List ℕ) (i : ℕ) → i < length l → get_or l i 0 ≡ x → i + first_place x (drop i l) ≡ i
  search-here l i h e = let z = place_here (get_or l i 0) (drop (suc i) l) (eq-eqb (get_or l i 0) x e) in rw (drop-cons l i 0 h) (omega arith)

  pub search-on : (l : List ℕ) (i : ℕ) → i < length l → (get_or l i 0 ≡ x → ⊥) → i + first_place x (drop i l) ≡ i + 1 + first_place x (drop (i + 1) l)
  search-on l i h e =
      let z = place-on (get_or l i 0) (drop (suc i) l) (ne_eqb (get_or l i 0) x e) in
      rw (add-one i, drop-cons l i 0 h) (omega arith)

  pub search-end : (l : List ℕ) (i : ℕ) → length l ≤ i → i + first_place x (drop i l) ≡ i
  unfolding first_place
  search-end l i h = rw (drop_of_length-le l h) (omega arith)

-- ---- an id put behind the first of n ids

module _ (w l : List ℕ) (n i x y : ℕ) (b : n < length w) (e : l ≡ over w (i + 1) (drop i (take n w))) where
  pub behind-put : i ≤ n → first_place x (take n w) + 1 ≡ i → set l i y ≡ over w 0 (swap_first x (pair x y) (take n w))
  behind-put a q =
      let v = take n w in
      let p = first_place x v in
      let size : length v ≡ n = length-take-le n w (omega arith) in
      let h : p < length v = omega arith in
      let s : i ≡ suc p = omega arith in
      let r : i + 1 + length (drop i v) ≤ length w = rw (length-drop i v) (omega arith) in
      let front : take i w ≡ take p v ++ (x ∷ []) = sym (take-take i n w a) ∙ (ap (λ j. take j v) s ∙ (take-suc v p 0 h ∙ ap (λ z. take p v ++ (z ∷ [])) (place_at x v h))) in
      let whole : swap_first x (pair x y) v ≡ take i w ++ (y ∷ drop i v) =
      swap-there x (pair x y) v h ∙ (ap (λ j. take p v ++ (x ∷ y ∷ drop j v)) (sym s) ∙ sym (ap (λ z. z ++ (y ∷ drop i v)) front ∙ append_snoc (take p v) x (y ∷ drop i v))) in
      ap (λ z. set z i y) e ∙ (store-before w i (drop i v) y r ∙ (over-front w i (y ∷ drop i v) (omega arith) ∙ ap (over w 0) (sym whole)))

-- ---- one cut lane

module _ (anchored : Bool) (past : List Bool) (i j : ℕ) (ids : List ℕ) where
  pub followed-absent : first_place i ids ≡ length ids → followed anchored past i j ids ≡ ids
  followed-absent e = go anchored
    where
      go : (b : Bool) → cond b (cond (has i ids && get_or past (first_place i ids) false) (swap_first i (j ∷ []) ids) ids) (swap_first i (pair i j) ids) ≡ ids
      go true = rw (place-lacks i ids e)
      go false = swap-absent i (pair i j) ids e

  module _ (a : anchored ≡ true) (h : first_place i ids < length ids) where
    pub followed-past : get_or past (first_place i ids) false ≡ true → followed anchored past i j ids ≡ set ids (first_place i ids) j
    followed-past p = rw (a, place-has i ids h, p) (swap-set i j ids h)

    pub followed-before : get_or past (first_place i ids) false ≡ false → followed anchored past i j ids ≡ ids
    followed-before p = rw (a, p, and-false (has i ids))

  pub followed-added : anchored ≡ false → followed anchored past i j ids ≡ swap_first i (pair i j) ids
  followed-added a = rw a

  -- it loses none
  pub followed-long : length ids ≤ length (followed anchored past i j ids)
  followed-long = go (eqb (first_place i ids) (length ids)) refl anchored refl (get_or past (first_place i ids) false) refl
    where
      some : eqb (first_place i ids) (length ids) ≡ false → first_place i ids < length ids
      some e = let d = eqb-false (first_place i ids) (length ids) e in omega (arith, place-few i ids)

      go : (b : Bool) → eqb (first_place i ids) (length ids) ≡ b → (a : Bool) → anchored ≡ a → (m : Bool) → get_or past (first_place i ids) false ≡ m
          → length ids ≤ length (followed anchored past i j ids)
      go true e a f m g = omega (arith, ap length (followed-absent (eqb-true (first_place i ids) (length ids) e)))
      go false e true f true g = omega (arith, ap length (followed-past f (some e) g), length-set ids (first_place i ids) j)
      go false e true f false g = omega (arith, ap length (followed-before f (some e) g))
      go false e false f m g = omega (arith, ap length (followed-added f), swap-length i (pair i j) ids (some e))

-- ---- all cut lanes

module _ (anchored : Bool) (past : List Bool) where
  pub followed-all-long : (next : ℕ) (cut ids : List ℕ) → length ids ≤ length (followed_all anchored past next cut ids)
  unfolding followed_all
  followed-all-long next [] ids = omega arith
  followed-all-long next (i ∷ cut) ids = omega (arith, followed-long anchored past i next ids, followed-all-long (suc next) cut (followed anchored past i next ids))

  -- one cut lane, then the others
  pub followed-step : (next : ℕ) (cut : List ℕ) (r : ℕ) (ids : List ℕ) → r < length cut
      → followed_all anchored past (next + r) (drop r cut) ids ≡ followed_all anchored past (next + (r + 1)) (drop (r + 1) cut) (followed anchored past (get_or cut r 0) (next + r) ids)
  unfolding followed_all
  followed-step next cut r ids h = let e : next + suc r ≡ suc (next + r) = omega arith in rw (drop-cons cut r 0 h, add-one r, e)

  pub followed-end : (next : ℕ) (cut : List ℕ) (r : ℕ) (ids : List ℕ) → length cut ≤ r → followed_all anchored past (next + r) (drop r cut) ids ≡ ids
  unfolding followed_all
  followed-end next cut r ids h = rw (drop_of_length-le cut h)
