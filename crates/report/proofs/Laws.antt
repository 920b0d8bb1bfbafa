-- Lanes named and listed: one turn of each. Assumes nothing.
use mathlib.Core.Path.{◌≡◌, refl, sym, ap, ◌∙◌}
use mathlib.Core.Bool.{Bool, true, false}
use mathlib.Core.List.{List, [], ◌∷◌, ◌++◌, map-append, append_assoc}
use Prim.Native.Nat.{ℕ, zero, suc, ◌+◌, ◌*◌, ◌≤◌, ◌<◌}
use native.Mathlib.Numerals.{add-one}
use native.Mathlib.Omega.{arith}
use lib.ListN.{length, get_or, set, take, length-append, length-map}
use lib.Seq.{length-take-le, take_all, take-suc}
use Rattle.lists.specs.Rows.{over}
use Rattle.lists.specs.Select.{each, has, place, ascending}
use Rattle.lists.proofs.Rows.{take-over, over-nil, over-itself, store-behind}
use Rattle.lists.proofs.Place.{place-present, length-place}
use Rattle.lists.proofs.Select.{each_append}
use Rattle.entities.specs.Types.{kind_number}
use Rattle.rules.specs.Names.{EntityKind, EntityRef}
use Rattle.rules.specs.Edit.{refs, up_from}
use Rattle.report.specs.Report.{entity_words, listed}

-- an id named among the first n of w: one that is there, and one that is not
module _ (w : List ℕ) (n id : ℕ) (h : n < length w) where
  count : length (take n w) ≡ n
  count = let j : n ≤ length w = omega arith in length-take-le n w j

  pub named-old : ascending (take n w) ≡ true → has id (take n w) ≡ true → (w ≡ over w 0 (place id (take n w))) × (n ≡ length (place id (take n w)))
  named-old up t =
      let e = place-present id (take n w) up t in
      let j : n ≤ length w = omega arith in
      (sym (ap (over w 0) e ∙ over-itself w n j), sym (ap length e ∙ count))

  longer : has id (take n w) ≡ false → length (place id (take n w)) ≡ n + 1
  longer t = length-place id (take n w) t ∙ rw count

  pub named_new : (v : List ℕ) → has id (take n w) ≡ false → v ≡ over w 0 (place id (take n w)) → (v ≡ over w 0 (place id (take n w))) × (n + 1 ≡ length (place id (take n w)))
  named_new v t e = (e, sym (longer t))

  -- the ids that are named stand in front
  pub named-front : (v : List ℕ) (r : ℕ) → ascending (take n w) ≡ true → (v ≡ over w 0 (place id (take n w))) × (r ≡ length (place id (take n w)))
      → (take r v ≡ place id (take n w)) × (r ≡ length (place id (take n w)))
  named-front v r up (e, q) = (ap (λ k. take k v) q ∙ (ap (take (length ids)) e ∙ front-over), q)
    where
      ids : List ℕ
      ids = place id (take n w)

      few : (b : Bool) → has id (take n w) ≡ b → length ids ≤ length w
      few true t = let l = ap length (place-present id (take n w) up t) ∙ count in omega arith
      few false t = let l = longer t in omega arith

      front-over : take (length ids) (over w 0 ids) ≡ ids
      front-over =
          let z : 0 + length ids ≡ length ids = omega arith in
          let k = few (has id (take n w)) refl in
          let h : 0 + length ids ≤ length w = omega arith in
          rw z at (take-over w 0 ids h)

-- ---- entities listed

pub length-entities : (es : List EntityRef) → length (each entity_words es) ≡ length es * 2
unfolding each
length-entities [] = refl
length-entities (x ∷ es) = let r = length-entities es in omega arith

-- entities of one kind, in words; and of the kind with number x
abbrev pub pairs : EntityKind → List ℕ → List ℕ
pairs q ids = each entity_words (refs q ids)

abbrev pub pairs_of : ℕ → List ℕ → List ℕ
pairs_of x ids = each (λ i. x ∷ i ∷ []) ids

pub pairs-are : (q : EntityKind) (x : ℕ) (ids : List ℕ) → x ≡ kind_number q → pairs_of x ids ≡ pairs q ids
unfolding each
pairs-are q x [] e = refl
pairs-are q x (i ∷ ids) e = ap (λ z. x ∷ i ∷ z) (pairs-are q x ids e) ∙ ap (λ z. z ∷ i ∷ pairs q ids) e

pub length_pairs : (q : EntityKind) (ids : List ℕ) → length (pairs q ids) ≡ length ids * 2
length_pairs q ids = length-entities (refs q ids) ∙ ap (λ n. n * 2) (length-map ids (λ i. record { kind = q; id = i }))

pub pairs-append : (q : EntityKind) (xs ys : List ℕ) → pairs q (xs ++ ys) ≡ pairs q xs ++ pairs q ys
pairs-append q xs ys =
    ap (each entity_words) (map-append (λ i. record { kind = q; id = i }) xs ys) ∙ each_append entity_words (refs q xs) (refs q ys)

-- one more behind those that are listed in v
module _ (x : ℕ) where
  length-words : (ids : List ℕ) → length (pairs_of x ids) ≡ length ids * 2
  unfolding each
  length-words [] = refl
  length-words (i ∷ ids) = let r = length-words ids in omega arith

  pub list-more : (w v ids : List ℕ) (at n y : ℕ) → n ≡ at + length ids → (n + 1) * 2 ≤ length w → v ≡ over w (at * 2) (pairs_of x ids)
      → set (set v (n * 2) x) (n * 2 + 1) y ≡ over w (at * 2) (pairs_of x (ids ++ (y ∷ [])))
  list-more w v ids at n y c h e =
      let l = pairs_of x ids in
      let m = length-words ids in
      let first : set (over w (at * 2) l) (n * 2) x ≡ over w (at * 2) (l ++ (x ∷ [])) = store-behind w (at * 2) (n * 2) l x (omega arith) (omega arith) in
      let o : at * 2 + length (l ++ (x ∷ [])) ≡ n * 2 + 1 = rw length-append (omega arith) in
      let second = store-behind w (at * 2) (n * 2 + 1) (l ++ (x ∷ [])) y o (omega arith) in
      let more : l ++ (x ∷ y ∷ []) ≡ pairs_of x (ids ++ (y ∷ [])) = sym (each_append (λ i. x ∷ i ∷ []) ids (y ∷ []) ∙ ap (λ z. l ++ z) one) in
      ap (λ z. set (set z (n * 2) x) (n * 2 + 1) y) e ∙ (ap (λ z. set z (n * 2 + 1) y) first ∙ (second ∙ ap (over w (at * 2)) (append_assoc l (x ∷ []) (y ∷ []) ∙ more)))
    where
      one : pairs_of x (y ∷ []) ≡ x ∷ y ∷ []
      one = unfold each in refl

  -- a turn: those before i are listed in v
  pub list-step : (w v ids : List ℕ) (at i : ℕ) → i < length ids → (at + length ids) * 2 ≤ length w → v ≡ over w (at * 2) (pairs_of x (take i ids))
      → set (set v ((at + i) * 2) x) ((at + i) * 2 + 1) (get_or ids i 0) ≡ over w (at * 2) (pairs_of x (take (i + 1) ids))
  list-step w v ids at i h r e =
      let j : i ≤ length ids = omega arith in
      let n = length-take-le i ids j in
      let t : take (i + 1) ids ≡ take i ids ++ (get_or ids i 0 ∷ []) = rw add-one (take-suc ids i 0 h) in
      list-more w v (take i ids) at (at + i) (get_or ids i 0) (omega arith) (omega arith) e ∙ ap (λ z. over w (at * 2) (pairs_of x z)) (sym t)

-- all of them, from place `at` on
pub list-end : (q : EntityKind) (x : ℕ) (w v ids : List ℕ) (at i : ℕ) → x ≡ kind_number q → i ≤ length ids → length ids ≤ i → v ≡ over w (at * 2) (pairs_of x (take i ids))
    → (at + i ≡ at + length ids) × (v ≡ over w (at * 2) (pairs q ids))
list-end q x w v ids at i k l h e = (omega arith, e ∙ (ap (λ z. over w (at * 2) (pairs_of x z)) (take_all i ids h) ∙ ap (over w (at * 2)) (pairs-are q x ids k)))

-- ids that count up
pub length_up : (from n : ℕ) → length (up_from from n) ≡ n
unfolding up_from
length_up from zero = refl
length_up from (suc n) = ap suc (length_up (suc from) n)

up_more : (from n : ℕ) → up_from from (n + 1) ≡ up_from from n ++ ((from + n) ∷ [])
unfolding up_from
up_more from zero = let e : from + 0 ≡ from = omega arith in rw e
up_more from (suc n) =
    let e : suc n + 1 ≡ suc (n + 1) = omega arith in
    let f : suc from + n ≡ from + suc n = omega arith in
    rw e (ap (λ z. from ∷ z) (up_more (suc from) n ∙ ap (λ k. up_from (suc from) n ++ (k ∷ [])) f))

module _ (x : ℕ) (w : List ℕ) (at from : ℕ) where
  pub up_none : w ≡ over w (at * 2) (pairs_of x (up_from from 0))
  unfolding up_from each
  up_none = sym (over-nil w (at * 2))

  pub up_step : (v : List ℕ) (i : ℕ) → (at + i + 1) * 2 ≤ length w → v ≡ over w (at * 2) (pairs_of x (up_from from i))
      → set (set v ((at + i) * 2) x) ((at + i) * 2 + 1) (from + i) ≡ over w (at * 2) (pairs_of x (up_from from (i + 1)))
  up_step v i h e =
      list-more x w v (up_from from i) at (at + i) (from + i) (ap (λ n. at + n) (sym (length_up from i))) h e ∙ ap (λ z. over w (at * 2) (pairs_of x z)) (sym (up_more from i))

  pub up-end : (q : EntityKind) (v : List ℕ) (n i : ℕ) → x ≡ kind_number q → i ≤ n → n ≤ i → v ≡ over w (at * 2) (pairs_of x (up_from from i))
      → (at + i ≡ at + n) × (v ≡ over w (at * 2) (pairs q (up_from from n)))
  up-end q v n i k l h e =
      let m : i ≡ n = omega arith in
      (omega arith, e ∙ (ap (λ j. over w (at * 2) (pairs_of x (up_from from j))) m ∙ ap (over w (at * 2)) (pairs-are q x (up_from from n) k)))

-- an empty list changes nothing
pub listed_nil : (w : List ℕ) → listed w [] ≡ w
unfolding listed each
listed_nil w = over-nil w 0
