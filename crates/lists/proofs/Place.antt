-- An id placed in an ascending list, or taken out: what is there stays, and how long the list becomes. Assumes nothing.
use mathlib.Core.Path.{◌≡◌, refl, sym, ap}
use mathlib.Core.Bool.{Bool, true, false, not, cond, true≢false}
use mathlib.Core.List.{List, [], ◌∷◌, ◌++◌}
use Prim.Native.Nat.{ℕ, suc, ◌+◌, ◌≤◌, ◌<◌}
use native.Mathlib.Omega.{arith}
use lib.Dec.{eqb, ltb}
use lib.ListN.{length, length-append}
use borrow.Author.Tests.{eqb-true, eqb-false, ltb-true, ltb-false, lt-ltb, le-ltb}
use Rattle.lists.specs.Every.{all}
use Rattle.lists.specs.Select.{keep, has, place, without, ascending}
use Rattle.lists.proofs.Select.{all-weaken, all-has, above-all, ascending-tail, keep_all, keep-none}

-- placing what is there
pub place-present : (x : ℕ) (ys : List ℕ) → ascending ys ≡ true → has x ys ≡ true → place x ys ≡ ys
unfolding place has keep ascending
place-present x [] up h = absurd (true≢false (sym h))
place-present x (y ∷ ys) up h = go (eqb x y) refl (place-present x ys (ascending-tail y ys up))
  where
    go : (b : Bool) → eqb x y ≡ b → (has x ys ≡ true → keep (λ z. ltb z x) ys ++ (x ∷ keep (λ z. ltb x z) ys) ≡ ys)
        → cond (ltb y x) (y ∷ keep (λ z. ltb z x) ys) (keep (λ z. ltb z x) ys) ++ (x ∷ cond (ltb x y) (y ∷ keep (λ z. ltb x z) ys) (keep (λ z. ltb x z) ys)) ≡ y ∷ ys
    go true t r =
        let e : x ≡ y = eqb-true x y t in
        let a : all (ltb x) ys ≡ true = rw e (above-all y ys up) in
        let n : keep (λ z. ltb z x) ys ≡ [] = keep-none (λ z. ltb z x) ys (all-weaken (ltb x) (λ z. not (ltb z x)) ys (λ z u.
        let v : x < z = ltb-true x z u in ap not (le-ltb z x (omega arith))) a) in
        let s : ltb y x ≡ false = le-ltb y x (omega arith) in
        let w : ltb x y ≡ false = le-ltb x y (omega arith) in
        rw (s, w, n, keep_all (λ z. ltb x z) ys a, e)
    go false t r =
        let inside : has x ys ≡ true = rw t at h in
        let l : y < x = ltb-true y x (all-has (ltb y) x ys (above-all y ys up) inside) in
        let s : ltb y x ≡ true = lt-ltb y x l in
        let w : ltb x y ≡ false = le-ltb x y (omega arith) in
        rw (s, w) (ap (λ zs. y ∷ zs) (r inside))

-- taking out what is not there
pub without-absent : (x : ℕ) (ys : List ℕ) → has x ys ≡ false → without x ys ≡ ys
unfolding without has keep
without-absent x [] h = refl
without-absent x (y ∷ ys) h = go (eqb x y) refl (without-absent x ys)
  where
    go : (b : Bool) → eqb x y ≡ b → (has x ys ≡ false → keep (λ z. not (eqb x z)) ys ≡ ys)
        → cond (not (eqb x y)) (y ∷ keep (λ z. not (eqb x z)) ys) (keep (λ z. not (eqb x z)) ys) ≡ y ∷ ys
    go true t r = absurd (true≢false (rw t at h))
    go false t r = rw t (ap (λ zs. y ∷ zs) (r (rw t at h)))

-- a list that lacks x falls into the smaller and the larger ones
place-splits : (x : ℕ) (ys : List ℕ) → has x ys ≡ false → length (keep (λ y. ltb y x) ys) + length (keep (λ y. ltb x y) ys) ≡ length ys
unfolding keep has
place-splits x [] h = refl
place-splits x (y ∷ ys) h = sides (λ r. place-splits x ys r) (eqb x y) refl (ltb y x) refl (ltb x y) refl
  where
    sides : (has x ys ≡ false → length (keep (λ y. ltb y x) ys) + length (keep (λ y. ltb x y) ys) ≡ length ys) → (b : Bool) → eqb x y ≡ b → (p : Bool) → ltb y x ≡ p → (q : Bool) → ltb x y ≡ q
        → length (cond (ltb y x) (y ∷ keep (λ y. ltb y x) ys) (keep (λ y. ltb y x) ys)) + length (cond (ltb x y) (y ∷ keep (λ y. ltb x y) ys) (keep (λ y. ltb x y) ys)) ≡ suc (length ys)
    sides ih true e p f q g = absurd (true≢false (rw e at h))
    sides ih false e true f true g = let u = ltb-true y x f in let v = ltb-true x y g in absurd (both u v)
      where
        both : y < x → x < y → ⊥
        both u v = omega arith
    sides ih false e true f false g = let r = ih (rw e at h) in rw (f, g) (omega arith)
    sides ih false e false f true g = let r = ih (rw e at h) in rw (f, g) (omega arith)
    sides ih false e false f false g = let u = ltb-false y x f in let v = ltb-false x y g in absurd (neither u v (eqb-false x y e))
      where
        neither : x ≤ y → y ≤ x → (x ≡ y → ⊥) → ⊥
        neither u v n = let z : x ≡ y = omega arith in n z

pub length-place : (x : ℕ) (ys : List ℕ) → has x ys ≡ false → length (place x ys) ≡ length ys + 1
unfolding place
length-place x ys h =
    let s = place-splits x ys h in
    let a = length-append (keep (λ y. ltb y x) ys) (x ∷ keep (λ y. ltb x y) ys) in
    omega arith
