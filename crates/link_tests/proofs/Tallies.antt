-- Laws of tallies: how often a list has a number. Assumes nothing.
use Rattle.std.specs.Prelude.{Some}
use mathlib.Core.Path.{◌≡◌, refl, sym, ap, ◌∙◌}
use Prim.Native.Nat.{ℕ, zero, suc, ◌+◌, ◌<◌}
use native.Mathlib.Nat.{le_of_suc-le-suc, not-suc-le-zero}
use native.Mathlib.Omega.{arith}
use mathlib.Core.Bool.{Bool, true, false, ◌||◌, cond}
use mathlib.Core.List.{List, [], ◌∷◌, ◌++◌}
use lib.Dec.{eqb, ltb}
use lib.ListN.{length, get_or, set, take, length-append, length-map, length-set}
use lib.Seq.{ext_get_or, get_or-set_same, get_or-set_other, length-take-le, get_or-take, get_or_at}
use borrow.Author.Tests.{eq-eqb, ne_eqb, eqb-true, eqb-false, ltb-true, lt-ltb}
use Rattle.lists.specs.Rows.{row_with}
use Rattle.lists.specs.Select.{keep, has, ascending}
use Rattle.lists.proofs.Booleans.{and-fst, and-snd, and_both}
use Rattle.lists.proofs.Select.{keep_append, above-all, ascending-tail, ascending-places, all-has}
use Rattle.lists.proofs.Rows.{found-key, row-at}
use Rattle.link_tests.specs.Met.{times, tally, stands_at}

pub times-append : (b : ℕ) (l m : List ℕ) → times b (l ++ m) ≡ times b l + times b m
times-append b l m = ap length (keep_append (eqb b) l m) ∙ length-append (keep (eqb b) l) (keep (eqb b) m)

pub times-one : (b x : ℕ) → b ≡ x → times b (x ∷ []) ≡ 1
unfolding keep
times-one b x e = rw (eq-eqb b x e)

pub times-other : (b x : ℕ) → (b ≡ x → ⊥) → times b (x ∷ []) ≡ 0
unfolding keep
times-other b x n = rw (ne_eqb b x n)

-- a list that lacks a number
pub times_none : (b : ℕ) (l : List ℕ) → ((k : ℕ) → k < length l → get_or l k 0 ≡ b → ⊥) → times b l ≡ 0
unfolding keep
times_none b [] h = refl
times_none b (y ∷ ys) h =
    let n : eqb b y ≡ false = ne_eqb b y (λ e. h 0 (omega arith) (sym e)) in
    rw n (times_none b ys (λ k l. let l : suc k < suc (length ys) = omega arith in h (suc k) l))

-- an ascending list has a number once or never
pub times-once : (b : ℕ) (l : List ℕ) → ascending l ≡ true → times b l ≡ cond (has b l) 1 0
unfolding keep has ascending
times-once b [] a = refl
times-once b (y ∷ ys) a = go (eqb b y) refl (times-once b ys (ascending-tail y ys a))
  where
    lacks : b ≡ y → (q : Bool) → has b ys ≡ q → q ≡ false
    lacks e true h =
        let l : y < b = ltb-true y b (all-has (ltb y) b ys (above-all y ys a) h) in
        absurd (omega arith)
    lacks e false h = refl

    go : (q : Bool) → eqb b y ≡ q → length (keep (eqb b) ys) ≡ cond (has b ys) 1 0
        → length (cond q (y ∷ keep (eqb b) ys) (keep (eqb b) ys)) ≡ cond (q || has b ys) 1 0
    go true e r =
        let n : has b ys ≡ false = lacks (eqb-true b y e) (has b ys) refl in
        let z : length (keep (eqb b) ys) ≡ 0 = rw n at r in
        omega arith
    go false e r = r

-- before its place an ascending list lacks a number
pub times-before : (l : List ℕ) (k : ℕ) → ascending l ≡ true → k < length l → times (get_or l k 0) (take k l) ≡ 0
times-before l k a h =
    let m : length (take k l) ≡ k = length-take-le k l (omega arith) in
    times_none (get_or l k 0) (take k l)
    (λ i g e. let g : i < k = rw m at g in let p = ascending-places l i k a g h in let q = get_or-take k l i 0 g in omega arith)

-- ---- tallies of some numbers

pub length-tally : (ks l : List ℕ) → length (tally ks l) ≡ length ks
unfolding tally
length-tally ks l = length-map ks (λ (k : ℕ). times k l)

pub get_d_tally : (ks l : List ℕ) (j : ℕ) → j < length ks → get_or (tally ks l) j 0 ≡ times (get_or ks j 0) l
unfolding tally
get_d_tally [] l j h = absurd (not-suc-le-zero h)
get_d_tally (k ∷ ks) l zero h = refl
get_d_tally (k ∷ ks) l (suc j) h = get_d_tally ks l j (le_of_suc-le-suc h)

-- nothing is counted yet
pub tally-none : (ks zs : List ℕ) → length zs ≡ length ks → ((j : ℕ) → j < length zs → get_or zs j 0 ≡ 0) → zs ≡ tally ks []
tally-none ks zs e h =
    ext_get_or 0 zs (tally ks []) (e ∙ sym (length-tally ks []))
    (λ j l. let m : j < length ks = rw e at l in h j l ∙ sym (get_d_tally ks [] j m ∙ none (get_or ks j 0)))
  where
    none : (b : ℕ) → times b [] ≡ 0
    none b = unfold keep in refl

-- one number more
pub tally-more : (ks l : List ℕ) (x j : ℕ) → ascending ks ≡ true → row_with x ks ≡ Some j
    → set (tally ks l) j (get_or (tally ks l) j 0 + 1) ≡ tally ks (l ++ (x ∷ []))
tally-more ks l x j a e =
    ext_get_or 0 (set (tally ks l) j v) (tally ks (l ++ (x ∷ []))) (length-set (tally ks l) j v ∙ length-tally ks l ∙ sym (length-tally ks (l ++ (x ∷ []))))
    (λ k h. let h : k < length ks = rw (length-set (tally ks l) j v, length-tally ks l) at h in at k h (eqb k j) refl)
  where
    v : ℕ
    v = get_or (tally ks l) j 0 + 1

    more : (k : ℕ) → k < length ks → get_or (tally ks (l ++ (x ∷ []))) k 0 ≡ times (get_or ks k 0) l + times (get_or ks k 0) (x ∷ [])
    more k h = get_d_tally ks (l ++ (x ∷ [])) k h ∙ times-append (get_or ks k 0) l (x ∷ [])

    at : (k : ℕ) → k < length ks → (q : Bool) → eqb k j ≡ q → get_or (set (tally ks l) j v) k 0 ≡ get_or (tally ks (l ++ (x ∷ []))) k 0
    at k h true t =
        let z : k ≡ j = eqb-true k j t in
        let m : k < length (tally ks l) = rw (length-tally ks l) h in
        let u : get_or ks k 0 ≡ x = ap (λ i. get_or ks i 0) z ∙ found-key x ks j e in
        let p : get_or (set (tally ks l) j v) k 0 ≡ v = ap (λ i. get_or (set (tally ks l) i v) k 0) (sym z) ∙ get_or-set_same (tally ks l) k v 0 m in
        let w : get_or (tally ks l) j 0 ≡ times (get_or ks k 0) l = ap (λ i. get_or (tally ks l) i 0) (sym z) ∙ get_d_tally ks l k h in
        let o = times-one (get_or ks k 0) x u in
        p ∙ (omega (arith, more k h))
    at k h false t =
        let n : k ≡ j → ⊥ = eqb-false k j t in
        let o = times-other (get_or ks k 0) x (λ u. other k h u n) in
        get_or-set_other (tally ks l) j k v 0 n ∙ (get_d_tally ks l k h ∙ omega (arith, more k h))
      where
        other : (k : ℕ) → k < length ks → get_or ks k 0 ≡ x → (k ≡ j → ⊥) → ⊥
        other k h u n =
            let f : Some k ≡ Some j = sym (row-at x k ks a h u) ∙ e in
            let z : k ≡ j = cc in
            n z

-- ---- a number at a place

pub stands-less : (c x : ℕ) (l : List ℕ) → stands_at c x l ≡ true → c < length l
unfolding stands_at
stands-less c x l h = ltb-true c (length l) (and-fst (ltb c (length l)) (eqb (get_or l c 0) x) h)

pub stands-is : (c x : ℕ) (l : List ℕ) → stands_at c x l ≡ true → get_or l c 0 ≡ x
unfolding stands_at
stands-is c x l h = eqb-true (get_or l c 0) x (and-snd (ltb c (length l)) (eqb (get_or l c 0) x) h)

has-place : (l : List ℕ) (c : ℕ) → c < length l → has (get_or l c 0) l ≡ true
unfolding has
has-place [] c h = absurd (not-suc-le-zero h)
has-place (y ∷ l) zero h = rw (eq-eqb y y refl)
has-place (y ∷ l) (suc c) h = or-true (eqb (get_or l c 0) y) (has-place l c (le_of_suc-le-suc h))
  where
    or-true : (a : Bool) → {b : Bool} → b ≡ true → (a || b) ≡ true
    or-true true e = refl
    or-true false e = e

pub stands-has : (c x : ℕ) (l : List ℕ) → stands_at c x l ≡ true → has x l ≡ true
stands-has c x l h = rw (stands-is c x l h) at (has-place l c (stands-less c x l h))

pub stands-behind : (x : ℕ) (l m : List ℕ) → stands_at (length l) x (l ++ (x ∷ m)) ≡ true
unfolding stands_at
stands-behind x l m =
    let h : length l < length (l ++ (x ∷ m)) = rw length-append (omega arith) in
    and_both (ltb (length l) (length (l ++ (x ∷ m)))) (eqb (get_or (l ++ (x ∷ m)) (length l) 0) x) (lt-ltb (length l) (length (l ++ (x ∷ m))) h)
    (eq-eqb (get_or (l ++ (x ∷ m)) (length l) 0) x (get_or_at l x m 0 (length l) refl))
