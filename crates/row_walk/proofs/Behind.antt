-- A table in which one row is changed: the rows behind it stay, and so does the table's length. Assumes nothing.
use mathlib.Core.Path.{◌≡◌, sym, ap, ◌∙◌}
use Prim.Native.Nat.{ℕ, ◌+◌, ◌-◌, ◌*◌, ◌≤◌}
use native.Mathlib.Omega.{arith}
use mathlib.Core.List.{List}
use lib.ListN.{length, drop}
use lib.Seq.{drop-drop}
use borrow.Rule.Slice.PartMut.{put_mid, mid_len}
use Rattle.lists.specs.Rows.{over}
use Rattle.lists.proofs.Rows.{length_over, drop-over}
use Rattle.row_tests.proofs.Tables.{row_of}
use Rattle.store.proofs.Lists.{put-over}

module _ (s : ℕ) (t₀ t : List ℕ) (i : ℕ) (behind : drop (1 + i * s) t ≡ drop (1 + i * s) t₀) (r : 1 + i * s + s ≤ length t) (v : List ℕ) (same : length v ≡ length (row_of s t i)) where
  pub behind_turn : drop (1 + (i + 1) * s) (put_mid (1 + i * s) (1 + i * s + s - (1 + i * s)) t v) ≡ drop (1 + (i + 1) * s) t₀
  behind_turn =
      let a = 1 + i * s in
      let z : a + s - a ≡ s = omega arith in
      let n : length v ≡ s = same ∙ (mid_len a (a + s) t r ∙ z) in
      let q : a + length v ≡ a + s = omega arith in
      let b : 1 + (i + 1) * s ≡ a + length v = omega arith in
      let c : 1 + (i + 1) * s ≡ a + s = omega arith in
      let fits : a + length v ≤ length t = omega arith in
      let p : put_mid a (a + s - a) t v ≡ over t a v = put-over t v a (a + s) q (omega arith) in
      let d : drop (1 + (i + 1) * s) (over t a v) ≡ drop (a + s) t = ap (λ j. drop j (over t a v)) b ∙ (drop-over t a v fits ∙ ap (λ j. drop j t) q) in
      ap (drop (1 + (i + 1) * s)) p ∙ (d ∙ (sym (drop-drop s a t) ∙ (ap (drop s) behind ∙ (drop-drop s a t₀ ∙ ap (λ j. drop j t₀) (sym c)))))

  pub long_turn : length (put_mid (1 + i * s) (1 + i * s + s - (1 + i * s)) t v) ≡ length t
  long_turn =
      let a = 1 + i * s in
      let z : a + s - a ≡ s = omega arith in
      let n : length v ≡ s = same ∙ (mid_len a (a + s) t r ∙ z) in
      let q : a + length v ≡ a + s = omega arith in
      let p : put_mid a (a + s - a) t v ≡ over t a v = put-over t v a (a + s) q (omega arith) in
      ap length p ∙ length_over t a v (omega arith)
