-- Lists in which no id stands twice, walked from the front with a mark for each remainder; and lists that ascend. Assumes nothing.
use mathlib.Core.Path.{◌≡◌, refl, sym, ap, ◌∙◌}
use mathlib.Core.Bool.{Bool, true, false, not, ◌&&◌, true≢false, and-true}
use mathlib.Core.List.{List, [], ◌∷◌, ◌++◌}
use Prim.Native.Nat.{ℕ, suc, ◌+◌, ◌-◌, ◌%◌, ◌≤◌, ◌<◌}
use native.Mathlib.Nat.{mod-lt, suc-ne-zero}
use native.Mathlib.Numerals.{add-one}
use native.Mathlib.Omega.{arith}
use lib.Dec.{eqb, ltb, leb}
use lib.ListN.{length, get_or, set, take, drop, length-set}
use lib.Seq.{take_all, take-suc, split_at, get_or-set_same, get_or-set_other}
use borrow.Author.Tests.{eqb-true, eqb-false, eq-eqb, ne_eqb, ltb-true, leb-true, le-leb, not-true}
use Rattle.lists.specs.Every.{all}
use Rattle.lists.specs.Select.{has, above, ascending, distinct}
use Rattle.lists.proofs.Booleans.{and_both, and-fst, and-snd, and-false, or_left, or_right, neither, same_test}
use Rattle.lists.proofs.Every.{all_nil, all_cons, all_append, all_get_d, all-places}
use Rattle.lists.proofs.Select.{has-append, all-has, all-weaken, above-all, ascending-tail, ascending-upto}

-- ---- one id more, behind others

-- which lack it
distinct_more : (x : ℕ) (xs : List ℕ) → has x xs ≡ false → distinct xs ≡ true → distinct (xs ++ (x ∷ [])) ≡ true
unfolding distinct has
distinct_more x [] n d = refl
distinct_more x (y ∷ xs) n d =
    let (a, b) = neither (eqb x y) (has x xs) n in
    let e : has y xs ≡ false = not-true (has y xs) (and-fst (not (has y xs)) (distinct xs) d) in
    let f : eqb y x ≡ false = ne_eqb y x (λ q. eqb-false x y a (sym q)) in
    rw (has-append y xs (x ∷ []), e, f) (distinct_more x xs b (and-snd (not (has y xs)) (distinct xs) d))

-- which have it
distinct-twice : (x : ℕ) (xs ys : List ℕ) → has x xs ≡ true → distinct (xs ++ (x ∷ ys)) ≡ false
unfolding distinct has
distinct-twice x [] ys h = absurd (true≢false (sym h))
distinct-twice x (y ∷ xs) ys h = go (eqb x y) refl (distinct-twice x xs ys)
  where
    go : (b : Bool) → eqb x y ≡ b → (has x xs ≡ true → distinct (xs ++ (x ∷ ys)) ≡ false) → (not (has y (xs ++ (x ∷ ys))) && distinct (xs ++ (x ∷ ys))) ≡ false
    go true e r =
        let f : has y (x ∷ ys) ≡ true = or_left (eqb y x) (has y ys) (eq-eqb y x (sym (eqb-true x y e))) in
        rw (has-append y xs (x ∷ ys) ∙ or_right (has y xs) (has y (x ∷ ys)) f)
    go false e r = rw (r (rw e at h)) (and-false (not (has y (xs ++ (x ∷ ys)))))

-- ---- a walk from the front: the ids before place i are distinct, and the mark of each is set

-- the mark of an id
abbrev pub marked : List Bool → ℕ → Bool
marked seen x = get_or seen (x % 509) false

pub record Walked (ids : List ℕ) (seen : List Bool) (i : ℕ) : Type 0 where
  pub within : i ≤ length ids
  pub room : length seen ≡ 509
  pub apart : distinct (take i ids) ≡ true
  pub marks : all (marked seen) (take i ids) ≡ true

pub walked_none : (ids : List ℕ) (seen : List Bool) → length seen ≡ 509 → Walked ids seen 0
walked_none ids seen r = record { within = omega arith; room = r; apart = unfold distinct in refl; marks = all_nil (marked seen) }

-- an id without its mark is none of those
pub unmarked-lacks : (ids : List ℕ) (seen : List Bool) (i x : ℕ) → Walked ids seen i → marked seen x ≡ false → has x (take i ids) ≡ false
unmarked-lacks ids seen i x w n = go (has x (take i ids)) refl
  where
    go : (b : Bool) → has x (take i ids) ≡ b → b ≡ false
    go false e = refl
    go true e = sym (all-has (marked seen) x (take i ids) w.marks e) ∙ n

-- a mark set takes none away
marks_stay : (seen : List Bool) (m x : ℕ) → m < length seen → marked seen x ≡ true → marked (set seen m true) x ≡ true
marks_stay seen m x h t = go (eqb (x % 509) m) refl
  where
    go : (b : Bool) → eqb (x % 509) m ≡ b → get_or (set seen m true) (x % 509) false ≡ true
    go true e = rw (eqb-true (x % 509) m e) (get_or-set_same seen m true false h)
    go false e = get_or-set_other seen m (x % 509) true false (eqb-false (x % 509) m e) ∙ t

-- an id that is none of those joins them
pub walked_more : (ids : List ℕ) (seen : List Bool) (i : ℕ) → i < length ids → Walked ids seen i → has (get_or ids i 0) (take i ids) ≡ false
    → Walked ids (set seen (get_or ids i 0 % 509) true) (i + 1)
walked_more ids seen i h w n =
    let x = get_or ids i 0 in
    let m = x % 509 in
    let l : m < length seen = rw w.room (mod-lt x (omega arith)) in
    let then = marked (set seen m true) in
    record {
      within = omega arith;
      room = length-set seen m true ∙ w.room;
      apart = rw (add-one, take-suc ids i 0 h) (distinct_more x (take i ids) n w.apart);
      marks = rw (add-one, take-suc ids i 0 h) (all_append then (take i ids) (x ∷ [])
          (all-weaken (marked seen) then (take i ids) (λ y t. marks_stay seen m y l t) w.marks)
          (all_cons then x [] (get_or-set_same seen m true false l) (all_nil then)));
    }

-- an id that is one of those stands twice
pub repeats : (ids : List ℕ) (i : ℕ) → i < length ids → has (get_or ids i 0) (take i ids) ≡ true → distinct ids ≡ false
repeats ids i h t = ap distinct (split_at ids i 0 h) ∙ distinct-twice (get_or ids i 0) (take i ids) (drop (suc i) ids) t

-- the end of the walk
pub walked_all : (ids : List ℕ) (seen : List Bool) (i : ℕ) → length ids ≤ i → Walked ids seen i → distinct ids ≡ true
walked_all ids seen i h w = rw (take_all i ids h) at w.apart

-- ---- lists that ascend

above-lacks : (x : ℕ) (ys : List ℕ) → above x ys ≡ true → has x ys ≡ false
above-lacks x ys a = go (has x ys) refl
  where
    go : (b : Bool) → has x ys ≡ b → b ≡ false
    go false e = refl
    go true e = let u : x < x = ltb-true x x (all-has (ltb x) x ys (above-all x ys a) e) in absurd (nothing u)
      where
        nothing : x < x → ⊥
        nothing u = omega arith

ascending-distinct : (ids : List ℕ) → ascending ids ≡ true → distinct ids ≡ true
unfolding ascending distinct
ascending-distinct [] a = refl
ascending-distinct (x ∷ xs) a = and_both (not (has x xs)) (distinct xs) (ap not (above-lacks x xs a)) (ascending-distinct xs (ascending-tail x xs a))

-- none passes a bound where the last does not
ascending-last : (ids : List ℕ) (most : ℕ) → ascending ids ≡ true → 0 < length ids → all (λ x. leb x most) ids ≡ leb (get_or ids (length ids - 1) 0) most
ascending-last ids most a h =
    same_test (all (λ x. leb x most) ids) (leb (get_or ids (length ids - 1) 0) most)
    (λ p. all_get_d (λ x. leb x most) ids (length ids - 1) 0 (omega arith) p)
    (λ t. all-places (λ x. leb x most) ids 0 (λ k g.
    let u : get_or ids (length ids - 1) 0 ≤ most = leb-true (get_or ids (length ids - 1) 0) most t in
    let v : get_or ids k 0 < suc most = ascending-upto (suc most) ids (length ids - 1) a (omega arith) (omega arith) k (omega arith) in
    le-leb (get_or ids k 0) most (omega arith)))

-- ---- no id passes a bound or stands twice

pub good_none : (ids : List ℕ) (most : ℕ) → length ids ≡ 0 → (all (λ x. leb x most) ids && distinct ids) ≡ true
unfolding all distinct
good_none [] most e = refl
good_none (x ∷ xs) most e = absurd (suc-ne-zero (length xs) e)

pub good-ascending : (ids : List ℕ) (most : ℕ) → ascending ids ≡ true → 0 < length ids → (all (λ x. leb x most) ids && distinct ids) ≡ leb (get_or ids (length ids - 1) 0) most
good-ascending ids most a h = rw (ascending-distinct ids a, ascending-last ids most a h) (and-true (leb (get_or ids (length ids - 1) 0) most))
