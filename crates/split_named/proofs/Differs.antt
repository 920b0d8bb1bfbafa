-- When a list of lanes differs from what it was before the cut: a second half that came stands in no old list. Assumes nothing.
use mathlib.Core.Path.{◌≡◌, refl, sym, ap, ◌∙◌}
use Prim.Native.Nat.{ℕ, suc, ◌≤◌, ◌<◌}
use native.Mathlib.Omega.{arith}
use mathlib.Core.Bool.{Bool, true, false, not, ◌&&◌, cond, true≢false}
use mathlib.Core.List.{List, [], ◌∷◌, map}
use lib.Dec.{eqb, ltb}
use lib.ListN.{length, get_or, set}
use lib.Seq.{get_or-set_same, get_or-set_other}
use borrow.Author.Tests.{eq-eqb, eqb-true, eqb-false, ltb-true}
use Rattle.lists.specs.Select.{any, has, insert_after, numbered, same_numbers}
use Rattle.lists.proofs.Booleans.{and-fst, neither}
use Rattle.lists.proofs.Every.{all_head, all_tail}
use Rattle.lists.proofs.Select.{length-after, after-still, some-kept}
use Rattle.rules.specs.Turns.{swap_first}
use Rattle.laws.proofs.SplitRows.{same-numbers}
use Rattle.grow.proofs.Growing.{firsts-numbered}
use Rattle.follows.specs.Following.{first_place, pair, followed, followed_all, own_differ}
use Rattle.follows.proofs.Places.{place-few, place-has, has-place, place_at, swap-set, swap-absent, swap-length, followed-all-long}
use Rattle.split_named.proofs.Words.{below}

-- ---- the same numbers

pub same-itself : (xs : List ℕ) → same_numbers xs xs ≡ true
unfolding same_numbers
same-itself [] = refl
same-itself (x ∷ xs) = rw (eq-eqb x x refl) (same-itself xs)

same_of : (xs ys : List ℕ) → ys ≡ xs → not (same_numbers xs ys) ≡ false
same_of xs ys e = rw (e, same-itself xs)

differ_of : (xs ys : List ℕ) → (xs ≡ ys → ⊥) → not (same_numbers xs ys) ≡ true
differ_of xs ys n = go (same_numbers xs ys) refl
  where
    go : (b : Bool) → same_numbers xs ys ≡ b → not b ≡ true
    go true e = absurd (n (same-numbers xs ys e))
    go false e = refl

-- ---- a list that gains each second half after its first

pub gains_differ : (next : ℕ) (cut ids : List ℕ) → not (same_numbers ids (insert_after (numbered next cut) ids)) ≡ any (λ i. has i cut) ids
gains_differ next cut ids =
    go (any (λ i. has i (map (λ h. h.0) (numbered next cut))) ids) refl ∙ ap (λ fs. any (λ i. has i fs) ids) (firsts-numbered next cut)
  where
    go : (b : Bool) → any (λ i. has i (map (λ h. h.0) (numbered next cut))) ids ≡ b → not (same_numbers ids (insert_after (numbered next cut) ids)) ≡ any (λ i. has i (map (λ h. h.0) (numbered next cut))) ids
    go true e =
        differ_of ids (insert_after (numbered next cut) ids)
        (λ q. omega (arith, ap length q, length-after (numbered next cut) ids, some-kept (λ i. has i (map (λ h. h.0) (numbered next cut))) ids e))
        ∙ sym e
    go false e = same_of ids (insert_after (numbered next cut) ids) (after-still (numbered next cut) ids e) ∙ sym e

-- ---- lanes that follow an anchor

lacks-place : (x : ℕ) (l : List ℕ) → has x l ≡ false → first_place x l ≡ length l
lacks-place x l h = let few = place-few x l in let none : first_place x l < length l → ⊥ = λ k. true≢false (sym (place-has x l k) ∙ h) in omega arith

-- a new id stays where it stands
stays-once : (past : List Bool) (base i j : ℕ) (now : List ℕ) (p : ℕ) → base ≤ j → base ≤ get_or now p 0 → base ≤ get_or (followed true past i j now) p 0
stays-once past base i j now p h l = go (has i now) refl (get_or past (first_place i now) false)
  where
    at : (b : Bool) → eqb p (first_place i now) ≡ b → first_place i now < length now → base ≤ get_or (set now (first_place i now) j) p 0
    at true e k =
        let z : get_or (set now (first_place i now) j) p 0 ≡ j =
        ap (λ q. get_or (set now (first_place i now) j) q 0) (eqb-true p (first_place i now) e) ∙ get_or-set_same now (first_place i now) j 0 k in
        omega arith
    at false e k = let z = get_or-set_other now (first_place i now) p j 0 (eqb-false p (first_place i now) e) in omega arith

    go : (b : Bool) → has i now ≡ b → (c : Bool) → base ≤ get_or (cond (b && c) (swap_first i (j ∷ []) now) now) p 0
    go true e true = let k = has-place i now e in rw (swap-set i j now k) (at (eqb p (first_place i now)) refl k)
    go true e false = l
    go false e c = l

new-stays : (past : List Bool) (base next : ℕ) (cut now : List ℕ) (p : ℕ) → base ≤ next → base ≤ get_or now p 0 → base ≤ get_or (followed_all true past next cut now) p 0
unfolding followed_all
new-stays past base next [] now p h l = l
new-stays past base next (i ∷ cut) now p h l = new-stays past base (suc next) cut (followed true past i next now) p (omega arith) (stays-once past base i next now p h l)

module _ (past : List Bool) (ids : List ℕ) where
  -- a cut lane that changes the list
  abbrev changes : Bool → ℕ → Bool
  changes a i = has i ids && cond a (get_or past (first_place i ids) false) true

  still : (a : Bool) (i j : ℕ) → changes a i ≡ false → followed a past i j ids ≡ ids
  still true i j h = ap (λ z. cond z (swap_first i (j ∷ []) ids) ids) h
  still false i j h = go (has i ids) refl h
    where
      go : (b : Bool) → has i ids ≡ b → (b && true) ≡ false → swap_first i (pair i j) ids ≡ ids
      go true e q = absurd (true≢false q)
      go false e q = swap-absent i (pair i j) ids (lacks-place i ids e)

  all-still : (a : Bool) (next : ℕ) (cut : List ℕ) → any (changes a) cut ≡ false → followed_all a past next cut ids ≡ ids
  unfolding followed_all any
  all-still a next [] h = refl
  all-still a next (i ∷ cut) h =
      let n = neither (changes a i) (any (changes a) cut) h in
      ap (followed_all a past (suc next) cut) (still a i next n.0) ∙ all-still a (suc next) cut n.1

  -- the first that does
  moved : (a : Bool) (base next i : ℕ) (cut : List ℕ) → base ≤ next → i < base → changes a i ≡ true → ids ≡ followed_all a past (suc next) cut (followed a past i next ids) → ⊥
  moved true base next i cut h l c q =
      let here : has i ids ≡ true = and-fst (has i ids) (get_or past (first_place i ids) false) c in
      let k = has-place i ids here in
      let p = first_place i ids in
      let e : followed true past i next ids ≡ set ids p next = ap (λ z. cond z (swap_first i (next ∷ []) ids) ids) c ∙ swap-set i next ids k in
      let z : get_or (followed true past i next ids) p 0 ≡ next = ap (λ l. get_or l p 0) e ∙ get_or-set_same ids p next 0 k in
      let s = new-stays past base (suc next) cut (followed true past i next ids) p (omega arith) (omega arith) in
      omega (arith, ap (λ l. get_or l p 0) q, place_at i ids k)
  moved false base next i cut h l c q =
      let k = has-place i ids (and-fst (has i ids) true c) in
      omega (arith, ap length q, followed-all-long false past (suc next) cut (followed false past i next ids), swap-length i (pair i next) ids k)

  all_moved : (a : Bool) (base next : ℕ) (cut : List ℕ) → base ≤ next → below base cut → any (changes a) cut ≡ true → ids ≡ followed_all a past next cut ids → ⊥
  unfolding followed_all any
  all_moved a base next [] h b c q = true≢false (sym c)
  all_moved a base next (i ∷ cut) h b c q =
      go (changes a i) refl (λ d r. all_moved a base (suc next) cut (omega arith) (all_tail (λ i. ltb i base) i cut b) d r)
    where
      go : (x : Bool) → changes a i ≡ x → (any (changes a) cut ≡ true → ids ≡ followed_all a past (suc next) cut ids → ⊥) → ⊥
      go true e ih = moved a base next i cut h (ltb-true i base (all_head (λ i. ltb i base) i cut b)) e q
      go false e ih = ih (rw e at c) (q ∙ ap (followed_all a past (suc next) cut) (still a i next e))

  pub own-differ : (a : Bool) (next : ℕ) (cut : List ℕ) → below next cut → not (same_numbers ids (followed_all a past next cut ids)) ≡ own_differ a past cut ids
  own-differ a next cut b = go (any (changes a) cut) refl
    where
      go : (x : Bool) → any (changes a) cut ≡ x → not (same_numbers ids (followed_all a past next cut ids)) ≡ any (changes a) cut
      go true e = differ_of ids (followed_all a past next cut ids) (all_moved a next next cut (omega arith) b e) ∙ sym e
      go false e = same_of ids (followed_all a past next cut ids) (all-still a next cut e) ∙ sym e
