-- Ids listed at the front of an array: one more of them, and a search by halves. Assumes nothing.
use Rattle.std.specs.Prelude.{None, Some}
use mathlib.Core.Path.{◌≡◌, refl, sym, ap, ◌∙◌}
use Prim.Native.Nat.{ℕ, suc, ◌+◌, ◌-◌, ◌*◌, ◌/◌, ◌≤◌, ◌<◌}
use native.Mathlib.Nat.{eq-or-lt_of_le}
use native.Mathlib.Numerals.{add-one}
use native.Mathlib.Omega.{arith}
use mathlib.Core.Bool.{Bool, true, false, cond}
use mathlib.Core.List.{List}
use mathlib.Core.Logic.{◌⊎◌, inl, inr, ⊎_elim}
use lib.Dec.{ltb}
use lib.ListN.{length, get_or, set, take, replicate, length-set, length-replicate, get_or-replicate}
use lib.Seq.{get_or-take, get_or-set_other, take-suc, take-suc-set, take_all, length-take-le}
use borrow.Author.Tests.{ltb-true, ltb-false}
use Rattle.lists.specs.Rows.{keys, row_with}
use Rattle.lists.proofs.Select.{ascending-places}
use Rattle.lists.proofs.Rows.{length-keys, key-at, row-at, row-none}
use Rattle.row_ids.specs.Listed.{Spare, Listed, Ready}

-- an array with no id in it
pub spare-all : (m : ℕ) → Spare 0 (replicate m 18446744073709551615)
spare-all m k a l = get_or-replicate {A = ℕ} m k 18446744073709551615 0 (rw (length-replicate {A = ℕ} m 18446744073709551615) at l)

-- ---- the ids so far, of n rows of s words

module _ (s n : ℕ) (rows ids : List ℕ) (some : 0 < s) where
  abbrev ks : List ℕ
  ks = keys s n rows

  many : (i : ℕ) → i ≤ n → length (take i ks) ≡ i
  many i h = length-take-le i ks (rw (length-keys s n rows) h)

  pub list-none : Spare 0 ids → Listed (take 0 ks) ids
  list-none z = record { front = refl; behind = z }

  pub list-more : (i : ℕ) → i < n → i < length ids → Listed (take i ks) ids → Listed (take (i + 1) ks) (set ids i (get_or rows (i * s) 0))
  list-more i h l e =
      let j : i ≤ n = omega arith in
      let m : i < length ks = rw (length-keys s n rows) h in
      let v : get_or ks i 0 ≡ get_or rows (i * s) 0 = key-at s n i rows some h in
      let f : take i ids ≡ take i ks = rw (many i j) at e.front in
      let w : length (take (i + 1) ks) ≡ suc i = many (i + 1) (omega arith) ∙ add-one i in
      record {
        front = rw (w, take-suc-set ids i (get_or rows (i * s) 0) l, add-one, take-suc ks i 0 m, f, v);
        behind = λ k a b. let o : k ≡ i → ⊥ = λ z. omega (arith, w) in let b : k < length ids = rw (length-set ids i (get_or rows (i * s) 0)) at b in get_or-set_other ids i k (get_or rows (i * s) 0) 0 o ∙ e.behind k (omega (arith, w, many i j)) b;
      }

  pub list_all : (i : ℕ) → n ≤ i → Listed (take i ks) ids → Listed ks ids
  list_all i h e = rw (take_whole) at e
    where
      take_whole : take i ks ≡ ks
      take_whole = take_all i ks (rw (length-keys s n rows) h)

-- ---- a search by halves: where it still looks for x

pub record Left (ids : List ℕ) (n x low left : ℕ) : Type 0 where
  pub some : 1 ≤ left
  pub within : low + left ≤ 1024
  pub below : (k : ℕ) → k < low → (k < n) × (get_or ids k 0 < x)
  pub above : (low + left ≡ 1024) ⊎ ((k : ℕ) → low + left ≤ suc k → k < n → x ≤ get_or ids k 0)

module _ (ids : List ℕ) (n x : ℕ) (r : Ready n ids) (fits : x ≤ 18446744073709551615) where
  size : length (take n ids) ≡ n
  size = length-take-le n ids (omega (arith, r.few, r.long))

  rises : (i j : ℕ) → i < j → j < n → get_or ids i 0 < get_or ids j 0
  rises i j h l =
      let g : i < n = omega arith in
      let m : j < length (take n ids) = rw size l in
      rw (get_or-take n ids i 0 g, get_or-take n ids j 0 l) at (ascending-places (take n ids) i j r.up h m)

  not-below : (i j : ℕ) → i ≤ j → j < n → get_or ids i 0 ≤ get_or ids j 0
  not-below i j h l = ⊎_elim (λ e. rw e (omega arith)) (λ g. let p = rises i j g l in omega arith) (eq-or-lt_of_le h)

  -- a row that has the id is its row
  pub search-found : (i : ℕ) → i < n → get_or ids i 0 ≡ x → Some i ≡ row_with x (take n ids)
  search-found i h e = sym (row-at x i (take n ids) r.up (rw size h) (get_or-take n ids i 0 h ∙ e))

  pub search-all : Left ids n x 0 1024
  search-all = record { some = omega arith; within = omega arith; below = λ k h. absurd (omega arith); above = inl refl }

  module _ (low left : ℕ) (a : Left ids n x low left) (more : 1 < left) where
    abbrev half : ℕ
    half = left / 2

    search-upper : get_or ids (low + half - 1) 0 < x → Left ids n x (low + half) (left - half)
    search-upper h =
        let q = low + half - 1 in
        let e : low + half + (left - half) ≡ low + left = omega arith in
        record {
          some = omega arith;
          within = rw e a.within;
          below = λ k l. listed k (omega arith) (ltb q n) refl;
          above = rw e a.above;
        }
      where
        listed : (k : ℕ) → k ≤ low + half - 1 → (b : Bool) → ltb (low + half - 1) n ≡ b → (k < n) × (get_or ids k 0 < x)
        listed k l true t =
            let m = ltb-true (low + half - 1) n t in
            let p = not-below k (low + half - 1) l m in
            (omega arith, omega arith)
        listed k l false t =
            let m = ltb-false (low + half - 1) n t in
            let p = r.spare (low + half - 1) m (omega (arith, a.within, r.long)) in
            absurd (omega arith)

    search-lower : x ≤ get_or ids (low + half - 1) 0 → Left ids n x low (left - half)
    search-lower h =
        record {
          some = omega arith;
          within = omega (arith, a.within);
          below = a.below;
          above = inr (λ k l m. let p = not-below (low + half - 1) k (omega arith) m in omega arith);
        }

    -- a turn: a half is gone past, or not
    module _ (p : ℕ) (e : p ≡ cond (ltb (get_or ids (low + half - 1) 0) x) half 0) where
      pub turn-less : p ≤ half
      turn-less = go (ltb (get_or ids (low + half - 1) 0) x) e
        where
          go : (b : Bool) → p ≡ cond b half 0 → p ≤ half
          go true f = omega arith
          go false f = omega arith

      pub search-turn : Left ids n x (low + p) (left - half)
      search-turn = go (ltb (get_or ids (low + half - 1) 0) x) refl e
        where
          go : (b : Bool) → ltb (get_or ids (low + half - 1) 0) x ≡ b → p ≡ cond b half 0 → Left ids n x (low + p) (left - half)
          go true t f = rw f (search-upper (ltb-true (get_or ids (low + half - 1) 0) x t))
          go false t f =
              let z : low + p ≡ low = omega arith in
              rw z (search-lower (ltb-false (get_or ids (low + half - 1) 0) x t))

  module _ (low left : ℕ) (a : Left ids n x low left) (one : left ≤ 1) where
    pub search-ends : (low < n → get_or ids low 0 ≡ x → ⊥) → None ≡ row_with x (take n ids)
    search-ends ne =
        sym (row-none x (take n ids) (λ k l e. let l : k < n = rw size at l in side k l (sym (get_or-take n ids k 0 l) ∙ e) (ltb k low) refl (ltb low k) refl))
      where
        side : (k : ℕ) → k < n → get_or ids k 0 ≡ x → (p : Bool) → ltb k low ≡ p → (q : Bool) → ltb low k ≡ q → ⊥
        side k m e true t q u = let b = a.below k (ltb-true k low t) in omega (arith, b.1)
        side k m e false t true u =
            let g = ltb-true low k u in
            ⊎_elim (λ z. omega (arith, a.some)) (λ f. let p = f low (omega (arith, a.some)) (omega arith) in let s = rises low k g m in omega arith) a.above
        side k m e false t false u =
            let z : k ≡ low = omega (arith, ltb-false k low t, ltb-false low k u) in
            ne (rw z at m) (ap (λ i. get_or ids i 0) (sym z) ∙ e)
