-- A pass over a table's rows: t is the table, s the length of a row, `good` the test. Assumes nothing.
use mathlib.Core.Path.{◌≡◌, refl, sym, ◌∙◌}
use Prim.Native.Nat.{ℕ, ◌+◌, ◌-◌, ◌*◌, ◌≤◌, ◌<◌}
use native.Mathlib.Omega.{arith}
use mathlib.Core.Bool.{Bool, true, false, ◌&&◌}
use mathlib.Core.List.{List}
use lib.Dec.{leb}
use lib.ListN.{length, take, drop, length-drop}
use lib.Seq.{drop-drop, length-take-le}
use borrow.Author.Tests.{leb-true}
use Rattle.lists.specs.Every.{all}
use Rattle.lists.proofs.Every.{all-step, all_end}
use Rattle.lists.proofs.Rows.{length-reads, get_d_reads, row_within}
use Rattle.lists.proofs.Booleans.{and-fst, and-snd}
use Rattle.tables.specs.View.{word, rows}
use Rattle.tables.specs.Formed.{counted}
use Rattle.row_tests.specs.Good.{all_rows}

-- row i, as it is lent
abbrev pub row_of : ℕ → List ℕ → ℕ → List ℕ
row_of s t i = take (1 + i * s + s - (1 + i * s)) (drop (1 + i * s) t)

-- the rows from number i on pass
abbrev pub rest_rows : ℕ → (List ℕ → Bool) → List ℕ → ℕ → Bool
rest_rows s good t i = all (λ b. b) (drop i (rows s good t))

-- ---- room

module _ (limit s : ℕ) (t : List ℕ) (h : counted limit s t ≡ true) where
  small : (leb 1 (length t) && leb (word 0 t) limit) ≡ true
  small = and-fst (leb 1 (length t) && leb (word 0 t) limit) (leb (1 + word 0 t * s) (length t)) h

  pub table-some : 1 ≤ length t
  table-some = leb-true 1 (length t) (and-fst (leb 1 (length t)) (leb (word 0 t) limit) small)

  pub table-few : word 0 t ≤ limit
  table-few = leb-true (word 0 t) limit (and-snd (leb 1 (length t)) (leb (word 0 t) limit) small)

  pub table-room : 1 + word 0 t * s ≤ length t
  table-room =
      leb-true (1 + word 0 t * s) (length t) (and-snd (leb 1 (length t) && leb (word 0 t) limit) (leb (1 + word 0 t * s) (length t)) h)

  -- row i lies within the table, and is a whole row
  pub row_room : (i : ℕ) → i < word 0 t → 1 + i * s + s ≤ length t
  row_room i k = omega (arith, row_within i (word 0 t) s k, table-room)

  pub row-length : (i : ℕ) → i < word 0 t → length (row_of s t i) ≡ s
  row-length i k =
      let e : 1 + i * s + s - (1 + i * s) ≡ s = omega arith in
      let g : s ≤ length (drop (1 + i * s) t) = rw length-drop (omega (arith, row_room i k)) in
      rw e (length-take-le s (drop (1 + i * s) t) g)

-- ---- the pass

module _ (s : ℕ) (good : List ℕ → Bool) (t : List ℕ) where
  pub pass-begins : all_rows s good t ≡ rest_rows s good t 0
  unfolding all_rows
  pass-begins = refl

  step : (i : ℕ) → i < word 0 t → rest_rows s good t i ≡ (good (row_of s t i) && rest_rows s good t (i + 1))
  unfolding rows
  step i k =
      let e : 1 + i * s + s - (1 + i * s) ≡ s = omega arith in
      let l : i < length (rows s good t) = rw (length-reads s good (word 0 t) (drop 1 t)) k in
      all-step (λ (b : Bool). b) (rows s good t) i true l ∙ rw (get_d_reads s good (word 0 t) i (drop 1 t) true k, drop-drop, e)

  module _ (i : ℕ) (v : all_rows s good t ≡ rest_rows s good t i) where
    pub pass-goes-on : (r : Bool) → i < word 0 t → r ≡ good (row_of s t i) → r ≡ true → all_rows s good t ≡ rest_rows s good t (i + 1)
    pass-goes-on r k g e = v ∙ step i k ∙ rw (← g, e)

    pub pass-stops : (r : Bool) → i < word 0 t → r ≡ good (row_of s t i) → r ≡ false → false ≡ all_rows s good t
    pass-stops r k g e = sym (v ∙ step i k ∙ rw (← g, e))

    pub pass-ends : word 0 t ≤ i → true ≡ all_rows s good t
    unfolding rows
    pass-ends k =
        let l : length (rows s good t) ≤ i = rw (length-reads s good (word 0 t) (drop 1 t)) k in
        sym (v ∙ all_end (λ (b : Bool). b) (rows s good t) i l)
