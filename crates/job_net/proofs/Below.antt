-- How many keys lie below an id: one step of a walk, and where an id stands among ascending keys. Assumes nothing.
use mathlib.Core.Path.{◌≡◌, refl, sym, ap, ◌∙◌}
use mathlib.Core.Bool.{Bool, true, false, ◌&&◌, cond}
use mathlib.Core.List.{List, [], ◌∷◌}
use Prim.Native.Nat.{ℕ, zero, suc, ◌+◌, ◌-◌, ◌*◌, ◌≤◌, ◌<◌}
use native.Mathlib.Nat.{le_of_suc-le-suc, not-suc-le-zero}
use native.Mathlib.Numerals.{add-one}
use native.Mathlib.Omega.{arith}
use lib.Dec.{eqb, ltb}
use lib.ListN.{length, get_or, drop, length-drop, drop_of_length-le}
use lib.Seq.{drop-cons, get_or-drop}
use borrow.Author.Tests.{ltb-true, ltb-false, lt-ltb, le-ltb, eqb-true, eqb-false}
use Rattle.lists.specs.Rows.{keys, row_with}
use Rattle.lists.specs.Select.{has, ascending}
use Rattle.lists.proofs.Rows.{length-keys, key-at, row-at, row-between, there, found-has}
use Rattle.lists.proofs.Select.{ascending-from}
use Rattle.job_net.specs.Net.{below}

-- ---- one step

module _ (id : ℕ) (ks : List ℕ) (j : ℕ) where
  pub below_on : j < length ks → get_or ks j 0 < id → below id (drop j ks) ≡ suc (below id (drop (j + 1) ks))
  unfolding below
  below_on l h = rw (add-one j, drop-cons ks j 0 l, lt-ltb (get_or ks j 0) id h)

  pub below-stops : j < length ks → id ≤ get_or ks j 0 → below id (drop j ks) ≡ 0
  unfolding below
  below-stops l h = rw (drop-cons ks j 0 l, le-ltb (get_or ks j 0) id h)

  pub below-ends : length ks ≤ j → below id (drop j ks) ≡ 0
  unfolding below
  below-ends l = rw (drop_of_length-le ks l)

-- ---- those that are counted lie below, the next does not

pub below-few : (id : ℕ) (ks : List ℕ) → below id ks ≤ length ks
unfolding below
below-few id [] = omega arith
below-few id (k ∷ ks) = go (ltb k id) (below-few id ks)
  where
    go : (b : Bool) → below id ks ≤ length ks → cond b (suc (below id ks)) 0 ≤ suc (length ks)
    go true r = omega arith
    go false r = omega arith

pub below-lower : (id : ℕ) (ks : List ℕ) (m : ℕ) → m < below id ks → get_or ks m 0 < id
unfolding below
below-lower id [] m h = absurd (not-suc-le-zero h)
below-lower id (k ∷ ks) m h = go (ltb k id) refl m (below-lower id ks) h
  where
    go : (b : Bool) → ltb k id ≡ b → (m : ℕ) → ((l : ℕ) → l < below id ks → get_or ks l 0 < id) → m < cond b (suc (below id ks)) 0 → get_or (k ∷ ks) m 0 < id
    go true e zero r g = ltb-true k id e
    go true e (suc m) r g = r m (le_of_suc-le-suc g)
    go false e m r g = absurd (not-suc-le-zero g)

pub below_next : (id : ℕ) (ks : List ℕ) → below id ks < length ks → id ≤ get_or ks (below id ks) 0
unfolding below
below_next id [] h = absurd (not-suc-le-zero h)
below_next id (k ∷ ks) h = go (ltb k id) refl (below_next id ks) h
  where
    go : (b : Bool) → ltb k id ≡ b → (below id ks < length ks → id ≤ get_or ks (below id ks) 0) → cond b (suc (below id ks)) 0 < suc (length ks) → id ≤ get_or (k ∷ ks) (cond b (suc (below id ks)) 0) 0
    go true e r g = r (le_of_suc-le-suc g)
    go false e r g = ltb-false k id e

-- ---- a walk from row `from` on, before which all keys are below

module _ (id : ℕ) (ks : List ℕ) (from : ℕ) (upto : from ≤ length ks) (passed : (m : ℕ) → m < from → get_or ks m 0 < id) (j : ℕ) (e : j ≡ from + below id (drop from ks)) where
  pub walk-within : j ≤ length ks
  walk-within = omega (arith, below-few id (drop from ks), length-drop from ks)

  pub walk-lower : (m : ℕ) → m < j → get_or ks m 0 < id
  walk-lower m h = side (ltb m from) refl
    where
      side : (b : Bool) → ltb m from ≡ b → get_or ks m 0 < id
      side true t = passed m (ltb-true m from t)
      side false t =
          let l : from ≤ m = ltb-false m from t in
          let d : from + (m - from) ≡ m = omega arith in
          let r : get_or (drop from ks) (m - from) 0 < id = below-lower id (drop from ks) (m - from) (omega arith) in
          rw (get_or-drop from ks (m - from) 0, d) at r

  walk-next : j < length ks → id ≤ get_or ks j 0
  walk-next h =
      let r : id ≤ get_or (drop from ks) (below id (drop from ks)) 0 = below_next id (drop from ks) (omega (arith, length-drop from ks)) in
      rw e (rw (get_or-drop from ks (below id (drop from ks)) 0) at r)

  -- the id is a key if it is the key there
  pub walk-finds : ascending ks ≡ true → has id ks ≡ (ltb j (length ks) && eqb (get_or ks j 0) id)
  walk-finds up = found-has id ks ∙ side (ltb j (length ks)) refl (eqb (get_or ks j 0) id) refl
    where
      side : (a : Bool) → ltb j (length ks) ≡ a → (b : Bool) → eqb (get_or ks j 0) id ≡ b → there (row_with id ks) ≡ (a && b)
      side true p true q = ap there (row-at id j ks up (ltb-true j (length ks) p) (eqb-true (get_or ks j 0) id q))
      side true p false q =
          let l : j < length ks = ltb-true j (length ks) p in
          let n : id ≡ get_or ks j 0 → ⊥ = λ z. eqb-false (get_or ks j 0) id q (sym z) in
          let m : id < get_or ks j 0 = omega (arith, walk-next l) in
          ap there (row-between id j ks walk-lower (λ k g h. ascending-from id ks j up m k g h))
      side false p b q =
          let l : length ks ≤ j = ltb-false j (length ks) p in
          ap there (row-between id j ks walk-lower (λ k g h. absurd (past k g h l)))
        where
          past : (k : ℕ) → j ≤ k → k < length ks → length ks ≤ j → ⊥
          past k g h l = omega arith

-- ---- the loop that walks

-- what is passed and what is left give the whole
pub record Walked (id : ℕ) (ks : List ℕ) (from j : ℕ) : Type 0 where
  pub upto : j ≤ length ks
  pub whole : from + below id (drop from ks) ≡ j + below id (drop j ks)

module _ (s n id : ℕ) (w : List ℕ) (some : 0 < s) (from j : ℕ) (m : Walked id (keys s n w) from j) where
  pub walk-turns : j < n → get_or w (j * s) 0 < id → Walked id (keys s n w) from (j + 1)
  walk-turns l h =
      let k : j < length (keys s n w) = omega (arith, length-keys s n w) in
      let g : get_or (keys s n w) j 0 < id = rw (key-at s n j w some l) h in
      record { upto = omega arith; whole = m.whole ∙ omega (arith, below_on id (keys s n w) j k g) }

  pub walk-stops : j < n → id ≤ get_or w (j * s) 0 → j ≡ from + below id (drop from (keys s n w))
  walk-stops l h =
      let k : j < length (keys s n w) = omega (arith, length-keys s n w) in
      let g : id ≤ get_or (keys s n w) j 0 = rw (key-at s n j w some l) h in
      omega (arith, m.whole, below-stops id (keys s n w) j k g)

  pub walk_ends : n ≤ j → j ≡ from + below id (drop from (keys s n w))
  walk_ends l = omega (arith, m.whole, below-ends id (keys s n w) j (omega (arith, length-keys s n w)))

pub walk_begins : (s n id : ℕ) (w : List ℕ) (from : ℕ) → from ≤ n → Walked id (keys s n w) from from
walk_begins s n id w from l = record { upto = omega (arith, length-keys s n w); whole = refl }

-- ---- the key of row j

module _ (s n : ℕ) (w : List ℕ) (some : 0 < s) (j id : ℕ) where
  pub key_here : j < n → eqb (get_or w (j * s) 0) id ≡ (ltb j n && eqb (get_or (keys s n w) j 0) id)
  key_here l = rw (key-at s n j w some l, lt-ltb j n l)

  pub key-past : n ≤ j → false ≡ (ltb j n && eqb (get_or (keys s n w) j 0) id)
  key-past l = rw (le-ltb j n l)
