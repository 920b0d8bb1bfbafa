-- A counted list in a row, written: its slots lent as a part, and its count stored. Assumes nothing.
use mathlib.Core.Path.{◌≡◌, sym, ap, ◌∙◌}
use Prim.Native.Nat.{ℕ, suc, ◌+◌, ◌-◌, ◌≤◌, ◌<◌}
use native.Mathlib.Omega.{arith}
use mathlib.Core.Bool.{Bool, true, false}
use mathlib.Core.List.{List, ◌∷◌, ◌++◌, append_assoc}
use lib.ListN.{length, set, take, drop, length-drop, take-append-drop}
use lib.Seq.{drop-drop, length-take-le, take-take}
use borrow.Rule.Slice.PartMut.{mid_of, put_mid, Post-is}
use Rattle.lists.specs.Rows.{over}
use Rattle.lists.specs.Select.{has, place, without, ascending}
use Rattle.lists.proofs.Rows.{drop-front, length_over, store-before, over-part, over-itself, over-kept}
use Rattle.lists.proofs.Place.{place-present, length-place}
use Rattle.lists.proofs.Select.{length_without}
use Rattle.tables.specs.View.{word, ids_at}
use Rattle.store.specs.Rows.{set_list}

-- ids written over the n slots behind a count, and the count
slots-again : (t ids : List ℕ) (a x n : ℕ) → a + 1 + n ≤ length t → length ids ≤ n → over t a (x ∷ over (take n (drop (a + 1) t)) 0 ids) ≡ over t a (x ∷ ids)
unfolding over
slots-again t ids a x n r h =
    let z : 0 + length ids ≡ length ids = omega arith in
    let w = drop (a + 1) t in
    let s = take n w in
    let l : length s ≡ n = length-take-le n w (rw length-drop (omega arith)) in
    let v : length (ids ++ drop (0 + length ids) s) ≡ n = length_over s 0 ids (rw l (omega arith)) ∙ l in
    let behind : drop (a + suc n) t ≡ drop n w = let e : a + suc n ≡ a + 1 + n = omega arith in rw (e, drop-drop) in
    let after : drop (a + suc (length ids)) t ≡ drop (length ids) w = let e : a + suc (length ids) ≡ a + 1 + length ids = omega arith in rw (e, drop-drop) in
    let whole : drop (length ids) s ++ drop n w ≡ drop (length ids) w = sym (drop-front (length ids) s (drop n w) (rw l h)) ∙ ap (drop (length ids)) (take-append-drop n w) in
    ap (λ k. take a t ++ (x ∷ (ids ++ drop (0 + length ids) s) ++ drop (a + suc k) t)) v
    ∙ rw (behind, after, z) (ap (λ k. take a t ++ (x ∷ k)) (append_assoc ids (drop (length ids) s) (drop n w) ∙ ap (λ k. ids ++ k) whole))

-- a part put back
pub put-over : (t v : List ℕ) (a e : ℕ) → a + length v ≡ e → a ≤ e → put_mid a (e - a) t v ≡ over t a v
unfolding over
put-over t v a e q h = rw (Post-is a e t h, q)

-- the part with its m slots put back, and the count stored
module _ (t v ids : List ℕ) (a m : ℕ) (r : a + 1 + m ≤ length t) (h : length ids ≤ m) (e : v ≡ over (mid_of (a + 1) (a + 1 + m - (a + 1)) t) 0 ids) where
  slots-are : v ≡ over (take m (drop (a + 1) t)) 0 ids
  slots-are = let n : a + 1 + m - (a + 1) ≡ m = omega arith in e ∙ ap (λ k. over (take k (drop (a + 1) t)) 0 ids) n

  slots-many : length v ≡ m
  slots-many =
      let q : length (take m (drop (a + 1) t)) ≡ m = length-take-le m (drop (a + 1) t) (rw length-drop (omega arith)) in
      ap length slots-are ∙ (length_over (take m (drop (a + 1) t)) 0 ids (rw q (omega arith)) ∙ q)

  slots-put : put_mid (a + 1) (a + 1 + m - (a + 1)) t v ≡ over t (a + 1) v
  slots-put = put-over t v (a + 1) (a + 1 + m) (omega (arith, slots-many)) (omega arith)

  pub list-room : a < length (put_mid (a + 1) (a + 1 + m - (a + 1)) t v)
  list-room =
      let l : length (over t (a + 1) v) ≡ length t = length_over t (a + 1) v (omega (arith, slots-many)) in
      rw (slots-put, l) (omega arith)

  pub list_put : (x : ℕ) → set (put_mid (a + 1) (a + 1 + m - (a + 1)) t v) a x ≡ over t a (x ∷ ids)
  list_put x =
      ap (λ z. set z a x) slots-put
      ∙ (store-before t a v x (omega (arith, slots-many)) ∙ (ap (λ z. over t a (x ∷ z)) slots-are ∙ slots-again t ids a x m (omega arith) h))

-- the list at k of a row that holds it
module _ (t : List ℕ) (k : ℕ) (room : k + 1 + word k t ≤ length t) where
  pub ids-many : length (ids_at k t) ≡ word k t
  ids-many = length-take-le (word k t) (drop (suc k) t) (rw length-drop (omega arith))

  -- as a part with m slots holds it
  pub ids-part : (m : ℕ) → word k t ≤ m → take (word k t) (mid_of (k + 1) (k + 1 + m - (k + 1)) t) ≡ ids_at k t
  ids-part m h =
      let n = word k t in
      let z : k + 1 + m - (k + 1) ≡ m = omega arith in
      let s : k + 1 ≡ suc k = omega arith in
      ap (λ j. take n (take j (drop (k + 1) t))) z ∙ (take-take n m (drop (k + 1) t) h ∙ ap (λ j. take n (drop j t)) s)

  pub own-list : set_list k (ids_at k t) t ≡ t
  unfolding set_list
  own-list =
      let ids = ids_at k t in
      let s : k + 1 ≡ suc k = omega arith in
      let z : suc k + 0 ≡ suc k = omega arith in
      let m : word k t ≤ length (drop (suc k) t) = rw length-drop (omega arith) in
      let kept : over t (suc k) ids ≡ t =
      ap (λ j. over t j ids) (sym z)
      ∙ (sym (over-part t (suc k) 0 ids (omega arith)) ∙ (ap (λ w. take (suc k) t ++ w) (over-itself (drop (suc k) t) (word k t) m) ∙ take-append-drop (suc k) t)) in
      ap (λ j. over t k (j ∷ ids)) ids-many ∙ (sym (over-kept t k ids 0 (omega (arith, ids-many))) ∙ (ap (λ j. over t j ids) s ∙ kept))

  -- an id that stands in it, and one that does not, put in its place
  module _ (id : ℕ) (up : ascending (ids_at k t) ≡ true) (b : Bool) (be : b ≡ has id (take (k + 1 + word k t - (k + 1)) (drop (k + 1) t))) where
    held : b ≡ has id (ids_at k t)
    held =
        let z : k + 1 + word k t - (k + 1) ≡ word k t = omega arith in
        let s : k + 1 ≡ suc k = omega arith in
        be ∙ (ap (λ j. has id (take j (drop (k + 1) t))) z ∙ ap (λ j. has id (take (word k t) (drop j t))) s)

    pub placed-old : b ≡ true → t ≡ set_list k (place id (ids_at k t)) t
    placed-old e = sym (ap (λ ids. set_list k ids t) (place-present id (ids_at k t) up (sym held ∙ e)) ∙ own-list)

    module _ (e : b ≡ false) (free : has id (ids_at k t) ≡ false → k + 1 + word k t < length t) where
      lacks : has id (ids_at k t) ≡ false
      lacks = sym held ∙ e

      pub place-room : k + 1 + (word k t + 1) ≤ length t
      place-room = omega (arith, free lacks)

      abbrev slots : List ℕ
      slots = mid_of (k + 1) (k + 1 + (word k t + 1) - (k + 1)) t

      same : take (word k t) slots ≡ ids_at k t
      same = ids-part (word k t + 1) (omega arith)

      pub place-may : (word k t < length slots) × ((ascending (take (word k t) slots) ≡ true) × (has id (take (word k t) slots) ≡ false))
      place-may =
          let z : k + 1 + (word k t + 1) - (k + 1) ≡ word k t + 1 = omega arith in
          let l : length slots ≡ word k t + 1 = rw z (length-take-le (word k t + 1) (drop (k + 1) t) (rw length-drop (omega (arith, place-room)))) in
          (omega arith, (ap ascending same ∙ up, ap (has id) same ∙ lacks))

      pub placed-new : (v : List ℕ) → v ≡ over slots 0 (place id (take (word k t) slots))
          → set (put_mid (k + 1) (k + 1 + (word k t + 1) - (k + 1)) t v) k (word k t + 1) ≡ set_list k (place id (ids_at k t)) t
      unfolding set_list
      placed-new v q =
          let ids = place id (ids_at k t) in
          let l : length ids ≡ word k t + 1 = omega (arith, length-place id (ids_at k t) lacks, ids-many) in
          list_put t v ids k (word k t + 1) place-room (omega arith) (q ∙ ap (λ x. over slots 0 (place id x)) same) (word k t + 1) ∙ ap (λ x. over t k (x ∷ ids)) (sym l)

-- as many ids put back in the part that was lent
pub list-again : (t v : List ℕ) (k : ℕ) → k + 1 + word k t ≤ length t → length v ≡ word k t → put_mid (k + 1) (k + 1 + word k t - (k + 1)) t v ≡ set_list k v t
unfolding set_list
list-again t v k room n =
    put-over t v (k + 1) (k + 1 + word k t) (omega arith) (omega arith) ∙ (over-kept t k v 0 (omega arith) ∙ ap (λ x. over t k (x ∷ v)) (sym n))

-- ids written behind their count
pub list_copied : (t ids : List ℕ) (k : ℕ) → k + 1 + length ids ≤ length t → (v : List ℕ) → v ≡ over t (k + 1) ids → set v k (length ids) ≡ set_list k ids t
unfolding set_list
list_copied t ids k room v e = ap (λ w. set w k (length ids)) e ∙ store-before t k ids (length ids) room

-- an id taken out of the list at k
pub list-without : (t v : List ℕ) (k id r : ℕ) → k + 1 + word k t ≤ length t
    → r ≡ length (without id (take (word k t) (mid_of (k + 1) (k + 1 + word k t - (k + 1)) t)))
    → v ≡ over (mid_of (k + 1) (k + 1 + word k t - (k + 1)) t) 0 (without id (take (word k t) (mid_of (k + 1) (k + 1 + word k t - (k + 1)) t)))
    → set (put_mid (k + 1) (k + 1 + word k t - (k + 1)) t v) k r ≡ set_list k (without id (ids_at k t)) t
unfolding set_list
list-without t v k id r room q e =
    let n = word k t in
    let same = ids-part t k room n (omega arith) in
    let few : length (without id (ids_at k t)) ≤ n = omega (arith, length_without id (ids_at k t), ids-many t k room) in
    list_put t v (without id (ids_at k t)) k n room few (e ∙ ap (λ x. over (mid_of (k + 1) (k + 1 + n - (k + 1)) t) 0 (without id x)) same) r
    ∙ ap (λ x. over t k (x ∷ without id (ids_at k t))) (q ∙ ap (λ x. length (without id x)) same)
