-- Elements moved within a list, one after the other, down from the first and up from the last. Assumes nothing.
use mathlib.Core.Path.{◌≡◌, sym, ap, ◌∙◌}
use mathlib.Core.List.{List, ◌∷◌}
use Prim.Native.Nat.{ℕ, suc, ◌+◌, ◌-◌, ◌≤◌, ◌<◌}
use native.Mathlib.Omega.{arith}
use lib.ListN.{length, get_or, set, take, drop, length-drop}
use lib.Seq.{length-take-le, drop-cons}
use Rattle.lists.specs.Rows.{over}
use Rattle.lists.proofs.Rows.{over-nil, get_d_over-before, get_d_over-behind, store-before}
use Rattle.layout.proofs.Laws.{copy_step}

module _ {A : Type 0} (w v : List A) (a start : ℕ) (d : A) where
  -- the first i are moved down: what lies behind is still there
  pub down_step : (i : ℕ) → v ≡ over w a (take i (drop start w)) → a ≤ start → start + i < length w
      → set v (a + i) (get_or v (start + i) d) ≡ over w a (take (i + 1) (drop start w))
  down_step i e h g =
      let l : length (take i (drop start w)) ≡ i = length-take-le i (drop start w) (rw length-drop (omega arith)) in
      let r : get_or v (start + i) d ≡ get_or w (start + i) d = rw e (get_d_over-behind w a (take i (drop start w)) (start + i) d (omega arith) (omega arith)) in
      ap (set v (a + i)) r ∙ copy_step w v w a start i d e g (omega arith)

  -- those from i on are moved up: what lies before is still there
  pub up_step : (n j i : ℕ) → j + 1 ≡ i → i ≤ n → v ≡ over w (a + i) (take (n - i) (drop (start + i) w)) → start ≤ a → a + n ≤ length w
      → set v (a + j) (get_or v (start + j) d) ≡ over w (a + j) (take (n - j) (drop (start + j) w))
  up_step n j i q p e h g =
      let m = take (n - i) (drop (start + i) w) in
      let l : length m ≡ n - i = length-take-le (n - i) (drop (start + i) w) (rw length-drop (omega arith)) in
      let r : get_or v (start + j) d ≡ get_or w (start + j) d = rw e (get_d_over-before w (a + i) m (start + j) d (omega arith) (omega arith)) in
      let u : a + i ≡ a + j + 1 = omega arith in
      let f : n - j ≡ suc (n - i) = omega arith in
      let s : suc (start + j) ≡ start + i = omega arith in
      let z : take (n - j) (drop (start + j) w) ≡ get_or w (start + j) d ∷ m = rw (f, drop-cons w (start + j) d (omega arith), s) in
      let b : set (over w (a + j + 1) m) (a + j) (get_or w (start + j) d) ≡ over w (a + j) (get_or w (start + j) d ∷ m) = store-before w (a + j) m (get_or w (start + j) d) (omega arith) in
      ap (set v (a + j)) r ∙ rw (e, u, z) b

pub up_start : {A : Type 0} (w : List A) (a start n : ℕ) → w ≡ over w (a + n) (take (n - n) (drop (start + n) w))
up_start w a start n = let e : n - n ≡ 0 = omega arith in rw e (sym (over-nil w (a + n)))

pub up-end : {A : Type 0} (w v : List A) (a start n i : ℕ) → i ≡ 0 → v ≡ over w (a + i) (take (n - i) (drop (start + i) w)) → v ≡ over w a (take n (drop start w))
up-end w v a start n i z e =
    let p : a + i ≡ a = omega arith in
    let q : n - i ≡ n = omega arith in
    let r : start + i ≡ start = omega arith in
    rw (p, q, r) at e
