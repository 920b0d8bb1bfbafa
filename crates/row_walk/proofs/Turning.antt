-- A table whose rows are changed one after the other, each by its number: one turn, and the end. Assumes nothing.
use mathlib.Core.Path.{◌≡◌, refl, sym, ap, ◌∙◌}
use Prim.Native.Nat.{ℕ, suc, ◌+◌, ◌-◌, ◌*◌, ◌≤◌, ◌<◌}
use native.Mathlib.Omega.{arith}
use mathlib.Core.List.{List, [], ◌∷◌, ◌++◌, append_assoc}
use lib.ListN.{length, take, drop, take-append-drop}
use lib.Seq.{drop-drop, take-suc}
use borrow.Rule.Slice.PartMut.{put_mid, mid_len}
use Rattle.lists.specs.Rows.{over}
use Rattle.lists.proofs.Rows.{length_over, take-over, drop-over}
use Rattle.tables.specs.View.{word}
use Rattle.lookup.specs.Lookup.{row_at}
use Rattle.row_tests.proofs.Tables.{row_of}
use Rattle.store.proofs.Lists.{put-over}
use Rattle.mentions.proofs.Turns.{row-there}

-- the rows that a change `rest` makes of the n rows from number i on; the first i rows of t are done, the others as they were
pub record Turned (s : ℕ) (rest : ℕ → ℕ → List ℕ → List ℕ) (t₀ t : List ℕ) (i : ℕ) : Type 0 where
  pub upto : i ≤ word 0 t₀
  pub long : length t ≡ length t₀
  pub behind : drop (1 + i * s) t ≡ drop (1 + i * s) t₀
  pub whole : word 0 t₀ ∷ rest 0 (word 0 t₀) (drop 1 t₀) ≡ take (1 + i * s) t ++ rest i (word 0 t₀ - i) (drop (1 + i * s) t)

module _ (s : ℕ) (rest : ℕ → ℕ → List ℕ → List ℕ) (t₀ : List ℕ) where
  pub turned_none : 1 ≤ length t₀ → Turned s rest t₀ t₀ 0
  turned_none h =
      let e : 1 + 0 * s ≡ 1 = omega arith in
      let z : word 0 t₀ - 0 ≡ word 0 t₀ = omega arith in
      let one : take 1 t₀ ≡ word 0 t₀ ∷ [] = take-suc t₀ 0 0 h in
      record { upto = omega arith; long = refl; behind = refl; whole = rw (e, z, one) }

  module _ (t : List ℕ) (i : ℕ) (m : Turned s rest t₀ t i) where
    -- the next row, as it is lent
    pub turned-row : row_of s t i ≡ row_at s t₀ i
    turned-row = row-there s t i ∙ ap (take s) m.behind

    -- one turn
    module _ (g : ℕ → List ℕ → List ℕ) (more : (n : ℕ) (w : List ℕ) → rest i (suc n) w ≡ g i (take s w) ++ rest (suc i) n (drop s w)) where
      pub turned_turn : i < word 0 t₀ → 1 + i * s + s ≤ length t → (v : List ℕ) → length v ≡ length (row_of s t i) → v ≡ g i (row_of s t i)
          → Turned s rest t₀ (put_mid (1 + i * s) (1 + i * s + s - (1 + i * s)) t v) (i + 1)
      turned_turn l r v same e =
          let a = 1 + i * s in
          let z : a + s - a ≡ s = omega arith in
          let n : length v ≡ s = same ∙ (mid_len a (a + s) t r ∙ z) in
          let q : a + length v ≡ a + s = omega arith in
          let b : 1 + (i + 1) * s ≡ a + length v = omega arith in
          let c : 1 + (i + 1) * s ≡ a + s = omega arith in
          let k : word 0 t₀ - i ≡ suc (word 0 t₀ - (i + 1)) = omega arith in
          let o : suc i ≡ i + 1 = omega arith in
          let fits : a + length v ≤ length t = omega arith in
          let p : put_mid a (a + s - a) t v ≡ over t a v = put-over t v a (a + s) q (omega arith) in
          let d : drop (1 + (i + 1) * s) (over t a v) ≡ drop (a + s) t = ap (λ j. drop j (over t a v)) b ∙ (drop-over t a v fits ∙ ap (λ j. drop j t) q) in
          let h : take (1 + (i + 1) * s) (over t a v) ≡ take a t ++ v = ap (λ j. take j (over t a v)) b ∙ take-over t a v fits in
          let u : rest i (word 0 t₀ - i) (drop a t) ≡ v ++ rest (i + 1) (word 0 t₀ - (i + 1)) (drop (a + s) t) =
          ap (λ j. rest i j (drop a t)) k
          ∙ (more (word 0 t₀ - (i + 1)) (drop a t)
          ∙ (ap (λ x. x ++ rest (suc i) (word 0 t₀ - (i + 1)) (drop s (drop a t))) (sym (e ∙ ap (g i) (row-there s t i)))
          ∙ (ap (λ x. v ++ rest (suc i) (word 0 t₀ - (i + 1)) x) (drop-drop s a t) ∙ ap (λ j. v ++ rest j (word 0 t₀ - (i + 1)) (drop (a + s) t)) o))) in
          record {
            upto = omega arith;
            long = ap length p ∙ (length_over t a v fits ∙ m.long);
            behind =
                ap (drop (1 + (i + 1) * s)) p
                ∙ (d ∙ (sym (drop-drop s a t) ∙ (ap (drop s) m.behind ∙ (drop-drop s a t₀ ∙ ap (λ j. drop j t₀) (sym c)))));
            whole =
                m.whole
                ∙ (ap (λ x. take a t ++ x) u
                ∙ (sym (append_assoc (take a t) v (rest (i + 1) (word 0 t₀ - (i + 1)) (drop (a + s) t)))
                ∙ (ap (λ x. x ++ rest (i + 1) (word 0 t₀ - (i + 1)) (drop (a + s) t)) (sym h)
                ∙ (ap (λ x. take (1 + (i + 1) * s) (over t a v) ++ rest (i + 1) (word 0 t₀ - (i + 1)) x) (sym d)
                ∙ ap (λ x. take (1 + (i + 1) * s) x ++ rest (i + 1) (word 0 t₀ - (i + 1)) (drop (1 + (i + 1) * s) x)) (sym p)))));
          }

    pub turned-all : ((w : List ℕ) → rest i 0 w ≡ w) → word 0 t₀ ≤ i → t ≡ word 0 t₀ ∷ rest 0 (word 0 t₀) (drop 1 t₀)
    turned-all none l =
        let z : word 0 t₀ - i ≡ 0 = omega arith in
        sym
        (m.whole
        ∙ (ap (λ j. take (1 + i * s) t ++ rest i j (drop (1 + i * s) t)) z
        ∙ (ap (λ x. take (1 + i * s) t ++ x) (none (drop (1 + i * s) t)) ∙ take-append-drop (1 + i * s) t)))
