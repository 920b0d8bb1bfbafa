-- The first test that fails, found by a pass over the tests; ids that rise. Assumes nothing.
use mathlib.Core.Path.{◌≡◌, refl, sym, ap, ◌∙◌}
use mathlib.Core.Bool.{Bool, true, false, ◌&&◌}
use mathlib.Core.List.{List, [], ◌∷◌}
use Prim.Native.Nat.{ℕ, zero, suc, ◌+◌, ◌-◌, ◌*◌, ◌≤◌, ◌<◌}
use native.Mathlib.Omega.{arith}
use native.Mathlib.Numerals.{add-one}
use lib.Dec.{ltb}
use lib.ListN.{length, get_or, drop, drop_of_length-le}
use lib.Seq.{drop-cons, get_or-drop, drop-drop}
use Rattle.lists.specs.Every.{all}
use Rattle.lists.specs.Rows.{keys}
use Rattle.lists.specs.Select.{ascending, above}
use Rattle.lists.proofs.Rows.{length-reads, get_d_reads, length-keys, key-at}
use Rattle.tables.specs.View.{rows, word}
use Rattle.row_tests.proofs.Tables.{row_of}
use Rattle.row_faults.specs.First.{first_false, rises_from, rises}

-- ---- a pass over tests

pub first-begins : (l : List Bool) → first_false l ≡ 0 + first_false (drop 0 l)
first-begins l = omega arith

module _ (l : List Bool) (i : ℕ) (v : first_false l ≡ i + first_false (drop i l)) where
  pub first-goes-on : i < length l → get_or l i true ≡ true → first_false l ≡ i + 1 + first_false (drop (i + 1) l)
  unfolding first_false
  first-goes-on k e =
      let s : first_false (drop i l) ≡ suc (first_false (drop (suc i) l)) = rw (drop-cons l i true k, e) in
      rw (add-one i) (omega (arith, v, s))

  pub first_stops : i < length l → get_or l i true ≡ false → i ≡ first_false l
  unfolding first_false
  first_stops k e = let s : first_false (drop i l) ≡ 0 = rw (drop-cons l i true k, e) in omega (arith, v, s)

  pub first_ends : length l ≤ i → i ≡ first_false l
  unfolding first_false
  first_ends k = let s : first_false (drop i l) ≡ 0 = rw (drop_of_length-le l k) in omega (arith, v, s)

-- ---- whether all pass

pub none-fails : (l : List Bool) → length l ≤ first_false l → all (λ b. b) l ≡ true
unfolding all first_false
none-fails [] h = refl
none-fails (true ∷ l) h = none-fails l (omega arith)
none-fails (false ∷ l) h = absurd (omega arith)

pub one-fails : (l : List Bool) → first_false l < length l → all (λ b. b) l ≡ false
unfolding all first_false
one-fails [] h = absurd (omega arith)
one-fails (true ∷ l) h = one-fails l (omega arith)
one-fails (false ∷ l) h = refl

-- ---- the rows of a table

module _ (s : ℕ) (p : List ℕ → Bool) (t : List ℕ) where
  pub tests-length : length (rows s p t) ≡ word 0 t
  unfolding rows
  tests-length = length-reads s p (word 0 t) (drop 1 t)

  pub test_at : (i : ℕ) → i < word 0 t → get_or (rows s p t) i true ≡ p (row_of s t i)
  unfolding rows
  test_at i k =
      let e : 1 + i * s + s - (1 + i * s) ≡ s = omega arith in
      rw (get_d_reads s p (word 0 t) i (drop 1 t) true k, drop-drop, e)

-- ---- ids that rise

rises-from-length : (x : ℕ) (ys : List ℕ) → length (rises_from x ys) ≡ length ys
unfolding rises_from
rises-from-length x [] = refl
rises-from-length x (y ∷ ys) = ap suc (rises-from-length y ys)

rises-length : (ks : List ℕ) → length (rises ks) ≡ length ks
unfolding rises
rises-length [] = refl
rises-length (x ∷ ks) = ap suc (rises-from-length x ks)

rises-first : (ks : List ℕ) → get_or (rises ks) 0 true ≡ true
unfolding rises
rises-first [] = refl
rises-first (x ∷ ks) = refl

rises-from-at : (x : ℕ) (ys : List ℕ) (j : ℕ) → j < length ys → get_or (rises_from x ys) j true ≡ ltb (get_or (x ∷ ys) j 0) (get_or ys j 0)
unfolding rises_from
rises-from-at x [] j h = absurd (omega arith)
rises-from-at x (y ∷ ys) zero h = refl
rises-from-at x (y ∷ ys) (suc j) h = rises-from-at y ys j (omega arith)

rises-later : (ks : List ℕ) (j : ℕ) → suc j < length ks → get_or (rises ks) (suc j) true ≡ ltb (get_or ks j 0) (get_or ks (suc j) 0)
unfolding rises
rises-later [] j h = absurd (omega arith)
rises-later (x ∷ ks) j h = rises-from-at x ks j (omega arith)

from_all : (x : ℕ) (ys : List ℕ) → all (λ b. b) (rises_from x ys) ≡ above x ys
unfolding all rises_from above
from_all x [] = refl
from_all x (y ∷ ys) = ap (λ b. ltb x y && b) (from_all y ys)

pub rises-all : (ks : List ℕ) → all (λ b. b) (rises ks) ≡ ascending ks
unfolding all rises ascending
rises-all [] = refl
rises-all (x ∷ ks) = from_all x ks

-- the ids of a table's rows
module _ (s : ℕ) (t : List ℕ) (pos : 0 < s) where
  pub ids-length : length (rises (keys s (word 0 t) (drop 1 t))) ≡ word 0 t
  ids-length = rises-length (keys s (word 0 t) (drop 1 t)) ∙ length-keys s (word 0 t) (drop 1 t)

  id-at : (i : ℕ) → i < word 0 t → get_or (keys s (word 0 t) (drop 1 t)) i 0 ≡ get_or t (1 + i * s) 0
  id-at i k = key-at s (word 0 t) i (drop 1 t) pos k ∙ get_or-drop 1 t (i * s) 0

  pub id-first : (i : ℕ) → i ≡ 0 → true ≡ get_or (rises (keys s (word 0 t) (drop 1 t))) i true
  id-first i e = rw e (sym (rises-first (keys s (word 0 t) (drop 1 t))))

  pub id-later : (i : ℕ) → (i ≡ 0 → ⊥) → i < word 0 t → ltb (get_or t (1 + (i - 1) * s) 0) (get_or t (1 + i * s) 0) ≡ get_or (rises (keys s (word 0 t) (drop 1 t))) i true
  id-later zero h k = absurd (h refl)
  id-later (suc j) h k =
      let e : suc j - 1 ≡ j = omega arith in
      let n : suc j < length (keys s (word 0 t) (drop 1 t)) = rw (length-keys s (word 0 t) (drop 1 t)) k in
      rw (e, ← id-at j (omega arith), ← id-at (suc j) k) (sym (rises-later (keys s (word 0 t) (drop 1 t)) j n))
