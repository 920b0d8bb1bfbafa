-- Sums over the rows of a table, one row after the other: rows of s words, g what a row counts, at most `most`. Assumes nothing.
use mathlib.Core.Path.{◌≡◌, ◌∙◌}
use mathlib.Core.Bool.{true}
use mathlib.Core.List.{List}
use Prim.Native.Nat.{ℕ, suc, ◌+◌, ◌-◌, ◌*◌, ◌≤◌, ◌<◌}
use native.Mathlib.Numerals.{add-one}
use native.Mathlib.Omega.{arith}
use lib.Dec.{leb}
use lib.ListN.{length, get_or, drop, drop_of_length-le}
use lib.Seq.{drop-cons, drop-drop}
use borrow.Author.Tests.{leb-true, le-leb}
use Rattle.lists.proofs.Rows.{length-reads, get_d_reads}
use Rattle.rules.specs.Sound.{total}
use Rattle.tables.specs.View.{word, rows}
use Rattle.tables.specs.Formed.{counted}
use Rattle.row_tests.proofs.Tables.{row_of}
use Rattle.lookup.specs.Lookup.{row_at, sorted_table, all_short}
use Rattle.lookup.proofs.Laws.{sorted-few, sorted-room, next_in, row-passes}

-- the rows before number i count `points`
pub record Summed (s : ℕ) (g : List ℕ → ℕ) (t : List ℕ) (most i points : ℕ) : Type 0 where
  pub inside : i ≤ word 0 t
  pub whole : total (rows s g t) ≡ points + total (drop i (rows s g t))
  pub few : points ≤ i * most

module _ (s : ℕ) (g : List ℕ → ℕ) (t : List ℕ) (most : ℕ) where
  pub sum-starts : Summed s g t most 0 0
  sum-starts = record { inside = omega arith; whole = omega arith; few = omega arith }

  module _ (i points : ℕ) (h : Summed s g t most i points) where
    pub sum-turns : (r : ℕ) → i < word 0 t → r ≡ g (row_at s t i) → r ≤ most → Summed s g t most (i + 1) (points + r)
    sum-turns r k e b = let d = step in record { inside = omega arith; whole = omega arith; few = omega arith }
      where
        step : total (drop i (rows s g t)) ≡ g (row_at s t i) + total (drop (i + 1) (rows s g t))
        step =
            unfold rows total in
            let l : i < length (rows s g t) = rw (length-reads s g (word 0 t) (drop 1 t)) k in
            rw (add-one, drop-cons (rows s g t) i 0 l, get_d_reads s g (word 0 t) i (drop 1 t) 0 k, drop-drop)

    pub sum-ends : word 0 t ≤ i → points ≡ total (rows s g t)
    sum-ends k = let d = none in omega arith
      where
        none : total (drop i (rows s g t)) ≡ 0
        none =
            unfold rows total in
            let l : length (rows s g t) ≤ i = rw (length-reads s g (word 0 t) (drop 1 t)) k in
            rw (drop_of_length-le (rows s g t) l)

-- row i, as it is lent
pub row-lent : (s : ℕ) (t : List ℕ) (i : ℕ) → row_of s t i ≡ row_at s t i
row-lent s t i = let e : 1 + i * s + s - (1 + i * s) ≡ s = omega arith in rw e

-- the size of the line at word k of row i, as it is read
module _ (s k : ℕ) (t : List ℕ) (i : ℕ) where
  pub size-read : suc k < s → get_or t (1 + i * s + k + 1) 0 ≡ word (k + 1) (row_at s t i)
  size-read h = next_in s t i k h ∙ rw add-one

  pub size_few : all_short s k t ≡ true → suc k < s → i < word 0 t → get_or t (1 + i * s + k + 1) 0 ≤ 256
  unfolding all_short
  size_few h m l =
      let g : word (suc k) (row_at s t i) ≤ 256 = leb-true (word (suc k) (row_at s t i)) 256 (row-passes s (λ w. leb (word (suc k) w) 256) t h i l) in
      omega (arith, next_in s t i k m)

-- a table in id order is one whose lines can be counted
pub columns-counted : (limit s : ℕ) (t : List ℕ) → limit ≤ 4096 → sorted_table limit s t ≡ true → counted 4096 s t ≡ true
columns-counted limit s t l h =
    let r = sorted-room limit s t h in
    let a : 1 ≤ length t = omega arith in
    let b : word 0 t ≤ 4096 = omega (arith, sorted-few limit s t h) in
    rw (le-leb 1 (length t) a, le-leb (word 0 t) 4096 b, le-leb (1 + word 0 t * s) (length t) r)
