-- Tests of the rows of a table, and of the records that they hold.
use mathlib.Core.Path.{◌≡◌, refl, sym, ap, ◌∙◌}
use mathlib.Core.Bool.{Bool, true, ◌&&◌}
use mathlib.Core.List.{List}
use Prim.Native.Nat.{ℕ, zero, suc, ◌+◌, ◌*◌, ◌≤◌}
use native.Mathlib.Omega.{arith}
use lib.ListN.{length, take, drop, length-drop}
use lib.Seq.{length-take-le}
use Rattle.lists.specs.Every.{all}
use Rattle.lists.specs.Rows.{reads}
use Rattle.lists.proofs.Every.{all-and, all_take, all_drop}
use Rattle.lists.proofs.Booleans.{and_both, and-fst, and-snd}
use Rattle.tables.specs.View.{word, rows}
use Rattle.row_tests.specs.Good.{all_rows}
use Rattle.row_tests.proofs.Relations.{all-reads}

-- ---- tests of rows

yes : Bool → Bool
yes b = b

-- a test of every record is a test of every row
pub every_row : {B : Type 0} (s : ℕ) (dec : List ℕ → B) (p : B → Bool) (t : List ℕ) → all p (rows s dec t) ≡ all_rows s (λ w. p (dec w)) t
unfolding rows all_rows
every_row s dec p t = all-reads s dec p (word 0 t) (drop 1 t)

-- two tests at once
pub rows-and : (s : ℕ) (p q : List ℕ → Bool) (t : List ℕ) → all_rows s (λ w. p w && q w) t ≡ (all_rows s p t && all_rows s q t)
rows-and s p q t =
    sym (every_row s (λ w. w) (λ w. p w && q w) t)
    ∙ (all-and p q (rows s (λ w. w) t) ∙ (ap (λ b. b && all q (rows s (λ w. w) t)) (every_row s (λ w. w) p t) ∙ ap (λ b. all_rows s p t && b) (every_row s (λ w. w) q t)))

-- a test that follows from another, of words that all pass `ok`
module _ (s : ℕ) (p q : List ℕ → Bool) (ok : ℕ → Bool) (h : (w : List ℕ) → length w ≡ s → all ok w ≡ true → p w ≡ true → q w ≡ true) where
  reads-weaken : (k : ℕ) (w : List ℕ) → k * s ≤ length w → all ok w ≡ true → all (λ b. b) (reads s p k w) ≡ true → all (λ b. b) (reads s q k w) ≡ true
  unfolding all reads
  reads-weaken zero w r o t = refl
  reads-weaken (suc k) w r o t =
      let e : s ≤ length w = omega arith in
      let f : k * s ≤ length (drop s w) = rw length-drop (omega arith) in
      and_both (q (take s w)) (all (λ b. b) (reads s q k (drop s w)))
      (h (take s w) (length-take-le s w e) (all_take ok s w o) (and-fst (p (take s w)) (all (λ b. b) (reads s p k (drop s w))) t))
      (reads-weaken k (drop s w) f (all_drop ok s w o) (and-snd (p (take s w)) (all (λ b. b) (reads s p k (drop s w))) t))

  pub rows-weaken : (t : List ℕ) → 1 + word 0 t * s ≤ length t → all ok t ≡ true → all_rows s p t ≡ true → all_rows s q t ≡ true
  unfolding rows all_rows
  rows-weaken t r o u = reads-weaken (word 0 t) (drop 1 t) (rw length-drop (omega arith)) (all_drop ok 1 t o) u

pub rows-three : (s : ℕ) (p q r : List ℕ → Bool) (t : List ℕ) → all_rows s (λ w. p w && q w && r w) t ≡ (all_rows s p t && all_rows s q t && all_rows s r t)
rows-three s p q r t = rows-and s (λ w. p w && q w) r t ∙ ap (λ b. b && all_rows s r t) (rows-and s p q t)

pub rows_four : (s : ℕ) (p q r u : List ℕ → Bool) (t : List ℕ)
    → all_rows s (λ w. p w && q w && r w && u w) t ≡ (all_rows s p t && all_rows s q t && all_rows s r t && all_rows s u t)
rows_four s p q r u t = rows-and s (λ w. p w && q w && r w) u t ∙ ap (λ b. b && all_rows s u t) (rows-three s p q r t)

pub rows-five : (s : ℕ) (p q r u v : List ℕ → Bool) (t : List ℕ)
    → all_rows s (λ w. p w && q w && r w && u w && v w) t ≡ (all_rows s p t && all_rows s q t && all_rows s r t && all_rows s u t && all_rows s v t)
rows-five s p q r u v t = rows-and s (λ w. p w && q w && r w && u w) v t ∙ ap (λ b. b && all_rows s v t) (rows_four s p q r u t)

pub rows-six : (s : ℕ) (p q r u v x : List ℕ → Bool) (t : List ℕ)
    → all_rows s (λ w. p w && q w && r w && u w && v w && x w) t
    ≡ (all_rows s p t && all_rows s q t && all_rows s r t && all_rows s u t && all_rows s v t && all_rows s x t)
rows-six s p q r u v x t = rows-and s (λ w. p w && q w && r w && u w && v w) x t ∙ ap (λ b. b && all_rows s x t) (rows-five s p q r u v t)
