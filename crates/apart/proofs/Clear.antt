-- The test by marks finds what `all_clear` says: among n unmarked points every line finds its own unmarked where no two lines share a point.
-- Assumes nothing.
use mathlib.Core.Path.{◌≡◌, refl, sym, ap, ◌∙◌}
use mathlib.Core.Logic.{◌⊎◌, inl, inr, ⊎_elim}
use mathlib.Core.Bool.{Bool, true, false, not, ◌&&◌, ◌||◌, and-true, true≢false}
use mathlib.Core.List.{List, [], ◌∷◌, ◌++◌}
use Prim.Native.Nat.{ℕ, zero, suc, ◌+◌, ◌-◌, ◌≤◌, ◌<◌}
use native.Mathlib.Nat.{le_of_suc-le-suc, not-suc-le-zero}
use native.Mathlib.Omega.{arith}
use lib.Dec.{eqb, leb, ltb}
use lib.ListN.{length, get_or, take, drop, replicate, length-take, length-replicate, get_or-append}
use lib.Seq.{get_or-take, get_or-drop, get_or-append-add, length-take-le}
use borrow.Author.Tests.{eq-eqb, eqb-true, eqb-false, leb-true, leb-false, ltb-true, ltb-false, not-true}
use Rattle.lists.specs.Every.{all}
use Rattle.lists.specs.Rows.{over}
use Rattle.lists.proofs.Every.{all_head, all_tail, all-places}
use Rattle.lists.proofs.Booleans.{and_both, and-fst, and-snd, same_test, neither}
use Rattle.lists.proofs.Rows.{get_d_over-before, get_d_over-behind}
use Rattle.tables.specs.Formed.{Span, clear, all_clear}
use Rattle.apart.specs.Marks.{trues, marked, unmarked, apart_by, within}
use Rattle.apart.proofs.Marks.{or_cases, length-trues, within-cases, marked-none, length_marked}

-- ---- Booleans and tests on lists

shuffle : (a b c d : Bool) → (a && (b && c && d)) ≡ (a && b && (c && d))
shuffle false b c d = refl
shuffle true false c d = refl
shuffle true true c d = refl

module _ {A : Type 0} where
  -- a test that is two tests
  all_split : (p q r : A → Bool) (xs : List A) → ((x : A) → p x ≡ (q x && r x)) → all p xs ≡ (all q xs && all r xs)
  unfolding all
  all_split p q r [] h = refl
  all_split p q r (x ∷ xs) h = rw (h x, all_split p q r xs h) (swap (q x) (r x) (all q xs) (all r xs))
    where
      swap : (a b c d : Bool) → (a && b && (c && d)) ≡ (a && c && (b && d))
      swap false b c d = refl
      swap true false false d = refl
      swap true false true d = refl
      swap true true c d = refl

  all_true : (p : A → Bool) (xs : List A) → ((x : A) → p x ≡ true) → all p xs ≡ true
  unfolding all
  all_true p [] h = refl
  all_true p (x ∷ xs) h = rw (h x, all_true p xs h)

  -- of a list that passes each place does, also one past its end where the default passes
  all_anywhere : (p : A → Bool) (xs : List A) (i : ℕ) (d : A) → p d ≡ true → all p xs ≡ true → p (get_or xs i d) ≡ true
  all_anywhere p [] i d e h = e
  all_anywhere p (x ∷ xs) zero d e h = all_head p x xs h
  all_anywhere p (x ∷ xs) (suc i) d e h = all_anywhere p xs i d e (all_tail p x xs h)

-- ---- points

-- a line is unmarked where each of its points is
unmarked-points : (m : List Bool) (t : Span) → unmarked m t ≡ true → (k : ℕ) → k < t.size → get_or m (t.start + k) false ≡ false
unfolding unmarked
unmarked-points m t h k l =
    let p = all_anywhere not (take t.size (drop t.start m)) k false refl h in
    let e : get_or (take t.size (drop t.start m)) k false ≡ get_or m (t.start + k) false = rw (get_or-take t.size (drop t.start m) k false l, get_or-drop) in
    sym e ∙ not-true (get_or (take t.size (drop t.start m)) k false) p

points-unmarked : (m : List Bool) (t : Span) → ((k : ℕ) → k < t.size → get_or m (t.start + k) false ≡ false) → unmarked m t ≡ true
unfolding unmarked
points-unmarked m t h = all-places not w false (λ k l. let g : k < t.size = omega (arith, length-take t.size (drop t.start m)) in rw (get_or-take t.size (drop t.start m) k false g, get_or-drop, h k g))
  where
    w : List Bool
    w = take t.size (drop t.start m)

get_d_trues : (n k : ℕ) → k < n → get_or (trues n) k false ≡ true
get_d_trues zero k h = absurd (not-suc-le-zero h)
get_d_trues (suc n) zero h = refl
get_d_trues (suc n) (suc k) h = get_d_trues n k (le_of_suc-le-suc h)

-- ---- a line marked

module _ (m : List Bool) (s : Span) (h : s.start + s.size ≤ length m) where
  -- its points are marked, the others stay
  in_line : (p : ℕ) → s.start ≤ p → p < s.start + s.size → get_or (marked m s) p false ≡ true
  unfolding marked over
  in_line p a b =
      let i : length (take s.start m) ≡ s.start = length-take-le s.start m (omega arith) in
      let e : p ≡ length (take s.start m) + (p - s.start) = omega arith in
      let l : p - s.start < length (trues s.size) = omega (arith, length-trues s.size) in
      let r = trues s.size ++ drop (s.start + length (trues s.size)) m in
      ap (λ (q : ℕ). get_or (take s.start m ++ r) q false) e
      ∙ get_or-append-add (take s.start m) r (p - s.start) false
      ∙ get_or-append (trues s.size) (drop (s.start + length (trues s.size)) m) false (p - s.start) l
      ∙ get_d_trues s.size (p - s.start) (omega arith)

  out-of-line : (p : ℕ) → (p < s.start) ⊎ (s.start + s.size ≤ p) → get_or (marked m s) p false ≡ get_or m p false
  unfolding marked
  out-of-line p o =
      let e = length-trues s.size in
      ⊎_elim
      (λ l. get_d_over-before m s.start (trues s.size) p false l (omega arith))
      (λ l. get_d_over-behind m s.start (trues s.size) p false (omega arith) (omega arith))
      o

  -- what is unmarked afterwards was so before
  was-unmarked : (p : ℕ) → get_or (marked m s) p false ≡ false → get_or m p false ≡ false
  was-unmarked p z = side (ltb p s.start) (leb (s.start + s.size) p) refl refl
    where
      side : (a b : Bool) → ltb p s.start ≡ a → leb (s.start + s.size) p ≡ b → get_or m p false ≡ false
      side true b u v = sym (out-of-line p (inl (ltb-true p s.start u))) ∙ z
      side false true u v = sym (out-of-line p (inr (leb-true (s.start + s.size) p v))) ∙ z
      side false false u v = absurd (true≢false (sym (in_line p (ltb-false p s.start u) (leb-false (s.start + s.size) p v)) ∙ z))

-- ---- two lines

-- a point of one of two clear lines lies before the other or behind it
clear-out : (s t : Span) (k : ℕ) → clear s t ≡ true → k < t.size → (t.start + k < s.start) ⊎ (s.start + s.size ≤ t.start + k)
clear-out s t k h l = ⊎_elim (λ u. ⊎_elim (λ v. ⊎_elim none other (or_cases a b v)) before (or_cases (a || b) d u)) behind (or_cases (a || b || d) e h)
  where
    a : Bool
    a = eqb s.size 0

    b : Bool
    b = eqb t.size 0

    d : Bool
    d = leb (s.start + s.size) t.start

    e : Bool
    e = leb (t.start + t.size) s.start

    Out : Type 0
    Out = (t.start + k < s.start) ⊎ (s.start + s.size ≤ t.start + k)

    side : s.size ≡ 0 → (b : Bool) → ltb (t.start + k) s.start ≡ b → Out
    side e true u = inl (ltb-true (t.start + k) s.start u)
    side e false u = let v = ltb-false (t.start + k) s.start u in inr (omega arith)

    none : eqb s.size 0 ≡ true → Out
    none u = side (eqb-true s.size 0 u) (ltb (t.start + k) s.start) refl

    other : eqb t.size 0 ≡ true → Out
    other u = let e = eqb-true t.size 0 u in absurd (omega arith)

    before : leb (s.start + s.size) t.start ≡ true → Out
    before u = let e = leb-true (s.start + s.size) t.start u in inr (omega arith)

    behind : leb (t.start + t.size) s.start ≡ true → Out
    behind u = let e = leb-true (t.start + t.size) s.start u in inl (omega arith)

-- lines that are not clear share the later of their first points
touch : (s t : Span) → clear s t ≡ false
    → (s.start - t.start < t.size) × ((s.start ≤ t.start + (s.start - t.start)) × (t.start + (s.start - t.start) < s.start + s.size))
touch s t h =
    let u = neither (eqb s.size 0 || eqb t.size 0 || leb (s.start + s.size) t.start) (leb (t.start + t.size) s.start) h in
    let v = neither (eqb s.size 0 || eqb t.size 0) (leb (s.start + s.size) t.start) u.0 in
    let w = neither (eqb s.size 0) (eqb t.size 0) v.0 in
    let a = leb-false (t.start + t.size) s.start u.1 in
    let b = leb-false (s.start + s.size) t.start v.1 in
    let c : s.size ≡ 0 → ⊥ = eqb-false s.size 0 w.0 in
    let d : t.size ≡ 0 → ⊥ = eqb-false t.size 0 w.1 in
    (omega arith, (omega arith, omega arith))

-- THE KEY: a line finds its points unmarked after another is marked where it found them so before and the two are clear
key : (m : List Bool) (s : Span) → s.start + s.size ≤ length m → (t : Span) → unmarked (marked m s) t ≡ (unmarked m t && clear s t)
key m s h t = same_test (unmarked (marked m s) t) (unmarked m t && clear s t) there back
  where
    apart : unmarked (marked m s) t ≡ true → (b : Bool) → clear s t ≡ b → b ≡ true
    apart u true e = refl
    apart u false e =
        let o = touch s t e in
        let p = t.start + (s.start - t.start) in
        absurd (true≢false (sym (in_line m s h p o.1.0 o.1.1) ∙ unmarked-points (marked m s) t u (s.start - t.start) o.0))

    there : unmarked (marked m s) t ≡ true → (unmarked m t && clear s t) ≡ true
    there u =
        and_both (unmarked m t) (clear s t)
        (points-unmarked m t (λ k l. was-unmarked m s h (t.start + k) (unmarked-points (marked m s) t u k l)))
        (apart u (clear s t) refl)

    back : (unmarked m t && clear s t) ≡ true → unmarked (marked m s) t ≡ true
    back u =
        points-unmarked (marked m s) t
        (λ k l. out-of-line m s h (t.start + k) (clear-out s t k (and-snd (unmarked m t) (clear s t) u) l)
        ∙ unmarked-points m t (and-fst (unmarked m t) (clear s t) u) k l)

pub unmarked-marked : (m : List Bool) (s : Span) → within (length m) s ≡ true → (t : Span) → unmarked (marked m s) t ≡ (unmarked m t && clear s t)
unmarked-marked m s h t = ⊎_elim none (λ l. key m s l t) (within-cases (length m) s h)
  where
    none : s.size ≡ 0 → unmarked (marked m s) t ≡ (unmarked m t && clear s t)
    none e = rw (marked-none m s e, eq-eqb s.size 0 e) (sym (and-true (unmarked m t)))

-- ---- all lines

-- THE THEOREM: every line finds its points unmarked where all are unmarked at first and no two lines share a point
pub apart-is : (m : List Bool) (ss : List Span) → all (within (length m)) ss ≡ true → apart_by m ss ≡ (all (unmarked m) ss && all_clear ss)
unfolding apart_by all_clear all
apart-is m [] h = refl
apart-is m (s ∷ ss) h =
    let a : within (length m) s ≡ true = and-fst (within (length m) s) (all (within (length m)) ss) h in
    let b : all (within (length (marked m s))) ss ≡ true = rw (length_marked m s a) (and-snd (within (length m) s) (all (within (length m)) ss) h) in
    rw (apart-is (marked m s) ss b, all_split (unmarked (marked m s)) (unmarked m) (clear s) ss (unmarked-marked m s a))
    (shuffle (unmarked m s) (all (unmarked m) ss) (all (clear s) ss) (all_clear ss))

get_d_default : {A : Type 0} (n i : ℕ) (d : A) → get_or (replicate n d) i d ≡ d
get_d_default zero i d = refl
get_d_default (suc n) zero d = refl
get_d_default (suc n) (suc i) d = get_d_default n i d

pub apart-clear : (n : ℕ) (ss : List Span) → all (within n) ss ≡ true → apart_by (replicate n false) ss ≡ all_clear ss
apart-clear n ss h =
    let w : all (within (length (replicate n false))) ss ≡ true = rw (length-replicate n false) h in
    let u : all (unmarked (replicate n false)) ss ≡ true =
    all_true (unmarked (replicate n false)) ss (λ s. points-unmarked (replicate n false) s (λ k l. get_d_default n (s.start + k) false)) in
    rw (apart-is (replicate n false) ss w, u)
