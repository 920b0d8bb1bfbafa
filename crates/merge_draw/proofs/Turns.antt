-- The rows of a table changed one after the other by any g that keeps their length: one turn, and the end. Assumes nothing.
use mathlib.Core.Path.{◌≡◌, sym, ap, ◌∙◌}
use Prim.Native.Nat.{ℕ, suc, ◌+◌, ◌-◌, ◌*◌, ◌≤◌, ◌<◌}
use native.Mathlib.Nat.{mul-le-mul_right}
use native.Mathlib.Omega.{arith}
use mathlib.Core.List.{List, ◌∷◌}
use lib.ListN.{length, take, drop, length-drop}
use lib.Seq.{drop-drop, drop-cons}
use borrow.Rule.Slice.PartMut.{put_mid}
use Rattle.lists.specs.Rows.{over}
use Rattle.lists.proofs.Rows.{row_within}
use Rattle.tables.specs.View.{word}
use Rattle.row_tests.proofs.Tables.{row_of}
use Rattle.lookup.specs.Lookup.{row_at}
use Rattle.store.specs.Rows.{map_rows, on_rows}
use Rattle.store.proofs.Turns.{over-table}
use Rattle.store.proofs.Lists.{put-over}
use Rattle.mentions.proofs.Turns.{row-there}
use Rattle.mentions.proofs.Whole.{kept, rows_behind, rows_long, rows-put}

-- the first i rows of the table t are changed
pub record Changed (s : ℕ) (g : List ℕ → List ℕ) (t₀ t : List ℕ) (i : ℕ) : Type 0 where
  pub upto : i ≤ word 0 t₀
  pub words : t ≡ word 0 t₀ ∷ map_rows s g i (drop 1 t₀)

-- a change that keeps the length of every row of a table
abbrev pub Keeping : ℕ → (List ℕ → List ℕ) → List ℕ → Type 0
Keeping s g t = (j : ℕ) → j < word 0 t → length (g (row_at s t j)) ≡ s

module _ (s : ℕ) (g : List ℕ → List ℕ) (t₀ : List ℕ) (room : 1 + word 0 t₀ * s ≤ length t₀) (keeps : Keeping s g t₀) where
  pub changed-none : Changed s g t₀ t₀ 0
  unfolding map_rows
  changed-none = record { upto = omega arith; words = drop-cons t₀ 0 0 (omega arith) }

  row-among : (j : ℕ) → row_at s t₀ j ≡ take s (drop (j * s) (drop 1 t₀))
  row-among j = ap (take s) (sym (drop-drop (j * s) 1 t₀))

  all-kept : (i : ℕ) → i ≤ word 0 t₀ → kept s g i (drop 1 t₀)
  all-kept i u j l = let m : j < word 0 t₀ = omega arith in ap (λ x. length (g x)) (sym (row-among j)) ∙ keeps j m

  module _ (t : List ℕ) (i : ℕ) (m : Changed s g t₀ t i) where
    pub changed-length : length t ≡ length t₀
    changed-length =
        let r : i * s ≤ length (drop 1 t₀) = rw length-drop (omega (arith, mul-le-mul_right s m.upto)) in
        ap length m.words ∙ (ap suc (rows_long s g i (drop 1 t₀) r (all-kept i m.upto)) ∙ sym (ap length (drop-cons t₀ 0 0 (omega arith))))

    -- row i is as it was
    pub changed_row : row_of s t i ≡ row_at s t₀ i
    changed_row =
        row-there s t i
        ∙ ap (take s)
        (sym (drop-drop (i * s) 1 t)
        ∙ (ap (λ x. drop (i * s) (drop 1 x)) m.words ∙ (rows_behind s g i (drop 1 t₀) (all-kept i m.upto) ∙ drop-drop (i * s) 1 t₀)))

    module _ (l : i < word 0 t₀) where
      pub changed-room : 1 + i * s + s ≤ length t
      changed-room = omega (arith, changed-length, row_within i (word 0 t₀) s l)

      pub changed-turn : (v : List ℕ) → v ≡ g (row_of s t i) → Changed s g t₀ (put_mid (1 + i * s) (1 + i * s + s - (1 + i * s)) t v) (i + 1)
      changed-turn v ve =
          let w = drop 1 t₀ in
          let n : length v ≡ s = ap length (ve ∙ ap g changed_row) ∙ keeps i l in
          let q : 1 + i * s + length v ≡ 1 + i * s + s = omega arith in
          let p : put_mid (1 + i * s) (1 + i * s + s - (1 + i * s)) t v ≡ over t (1 + i * s) v = put-over t v (1 + i * s) (1 + i * s + s) q (omega arith) in
          let r : v ≡ g (take s (drop (i * s) w)) = ve ∙ ap g (changed_row ∙ row-among i) in
          record {
            upto = omega arith;
            words =
                p
                ∙ (ap (λ x. over x (1 + i * s) v) m.words
                ∙ (over-table (word 0 t₀) (map_rows s g i w) (i * s) v
                ∙ ap (λ x. word 0 t₀ ∷ x) (ap (over (map_rows s g i w) (i * s)) r ∙ rows-put s g i w (all-kept (i + 1) (omega arith)))));
          }

    pub changed-all : word 0 t₀ ≤ i → t ≡ on_rows s g t₀
    unfolding on_rows
    changed-all l =
        let e : i ≡ word 0 t₀ = omega (arith, m.upto) in
        m.words ∙ ap (λ n. word 0 t₀ ∷ map_rows s g n (drop 1 t₀)) e
