-- From what the calls at a table's rows answered to the test of the whole table. Assumes nothing.
use mathlib.Core.Path.{◌≡◌, refl}
use Prim.Native.Nat.{ℕ, zero, suc, ◌+◌, ◌-◌, ◌*◌, ◌≤◌, ◌<◌}
use native.Mathlib.Numerals.{add-one}
use native.Mathlib.Omega.{arith}
use mathlib.Core.Bool.{Bool, true, false}
use mathlib.Core.List.{List}
use lib.ListN.{length}
use Rattle.std.specs.Prelude.{MatchBool}
use Rattle.std.specs.Borrow.{Bor}
use Rattle.std.specs.Fn.{Shared, FnReturnsAt}
use Rattle.tables.specs.View.{word}
use Rattle.tables.specs.Formed.{counted}
use Rattle.row_tests.specs.Good.{all_rows}
use Rattle.row_tests.proofs.Tables.{row_of, rest_rows, row-length, pass-begins, pass-goes-on, pass-stops, pass-ends}
use Rattle.table_tests.specs.Rows.{row_at, EachRow, SomeRow}

same_row : (s : ℕ) (t : List ℕ) (i : ℕ) → row_of s t i ≡ row_at s t i
same_row s t i = let e : 1 + i * s + s - (1 + i * s) ≡ s = omega arith in rw e

-- Where each answer that `test` may give at a row is that of `good`, the answer r for the table is `all_rows`.
module _ {F : Type 0} (call : Shared F (Bor (List ℕ) × Unit {0}) Bool) (test : F) (limit s : ℕ) (good : List ℕ → Bool) (t : List ℕ) (h : counted limit s t ≡ true)
    (tells : (w : List ℕ) (b : Bool) → length w ≡ s → FnReturnsAt call test w b → b ≡ good w) where
  told : (i : ℕ) (b : Bool) → i < word 0 t → FnReturnsAt call test (row_at s t i) b → b ≡ good (row_of s t i)
  told i b k says =
      let l = row-length limit s t h i k in
      let e = same_row s t i in
      rw e (tells (row_at s t i) b (rw (← e) l) says)

  -- the rows before i passed
  passed : (i : ℕ) → i ≤ word 0 t → EachRow s t (λ w. FnReturnsAt call test w true) → all_rows s good t ≡ rest_rows s good t i
  passed zero k each = pass-begins s good t
  passed (suc i) k each =
      rw (← add-one) (pass-goes-on s good t i (passed i (omega arith) each) true (omega arith) (told i true (omega arith) (each i (omega arith))) refl)

  -- a row fails that lies `left` rows ahead
  fails : (left i : ℕ) → i + left < word 0 t → FnReturnsAt call test (row_at s t (i + left)) false → all_rows s good t ≡ rest_rows s good t i → false ≡ all_rows s good t
  fails zero i k says v = let e : i + 0 ≡ i = omega arith in pass-stops s good t i v false (omega arith) (told i false (omega arith) (rw e at says)) refl
  fails (suc left) i k says v =
      let e : i + suc left ≡ i + 1 + left = omega arith in
      decide (good (row_of s t i)) refl (λ w. fails left (i + 1) (omega arith) (rw e at says) w)
    where
      decide : (b : Bool) → b ≡ good (row_of s t i) → (all_rows s good t ≡ rest_rows s good t (i + 1) → false ≡ all_rows s good t) → false ≡ all_rows s good t
      decide true g rest = rest (pass-goes-on s good t i v true (omega arith) g refl)
      decide false g rest = pass-stops s good t i v false (omega arith) g refl

  pub whole_table : (r : Bool) → MatchBool r (EachRow s t (λ w. FnReturnsAt call test w true)) (SomeRow s t (λ w. FnReturnsAt call test w false)) → r ≡ all_rows s good t
  whole_table true each = pass-ends s good t (word 0 t) (passed (word 0 t) (omega arith) each) (omega arith)
  whole_table false some =
      let e : 0 + some.0 ≡ some.0 = omega arith in
      fails some.0 0 (omega (arith, some.1)) (rw e some.2) (pass-begins s good t)
