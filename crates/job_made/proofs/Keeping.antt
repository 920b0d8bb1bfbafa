-- Warnings that were kept in rows of a job's own, written over the front of the lent list, are its warnings. Assumes nothing.
use mathlib.Core.Path.{◌≡◌, refl, sym, ap, ◌∙◌}
use mathlib.Core.Bool.{Bool, true, false, cond}
use mathlib.Core.List.{List, [], ◌∷◌, ◌++◌, append_assoc}
use Prim.Native.Nat.{ℕ, suc, ◌+◌, ◌-◌, ◌*◌, ◌≤◌}
use native.Mathlib.Omega.{arith}
use lib.Dec.{ltb}
use lib.ListN.{length, take, drop, length-take, length-replicate, replicate}
use lib.Seq.{drop-drop, length-take-le, take_all, take-append-le, take_at, take-length, take-take}
use borrow.Author.Tests.{ltb-false, ltb-true}
use Rattle.lists.specs.Every.{all}
use Rattle.lists.specs.Rows.{over}
use Rattle.lists.proofs.Rows.{drop-take, length_over}
use Rattle.entities.specs.Records.{Issue}
use Rattle.store.specs.Store.{writes}
use Rattle.report.specs.Report.{issue_onto, warned}
use Rattle.report.proofs.Warnings.{length-warned, short}
use Rattle.job_run.proofs.Short.{short-by}
use Rattle.job_told.specs.Told.{kept_rows}
use Rattle.job_made.specs.Made.{kept_from, kept_words}

-- ---- the rows that warnings fill

-- they are made of the rows that were there, and what lies behind them stays
warned-split : (w : List ℕ) (is : List Issue) → warned w is ≡ warned (take (length is * 10) w) is ++ drop (length is * 10) w
unfolding warned writes
warned-split w [] = refl
warned-split w (i ∷ is) =
    let n = length is * 10 in
    let m = suc (length is) * 10 in
    let r = issue_onto (take 10 w) i in
    let v = drop 10 w in
    let a : take 10 (take m w) ≡ take 10 w = take-take 10 m w (omega arith) in
    let k : m - 10 ≡ n = omega arith in
    let b : drop 10 (take m w) ≡ take n v = drop-take 10 m w ∙ ap (λ x. take x v) k in
    let e : m ≡ 10 + n = omega arith in
    let d : drop m w ≡ drop n v = ap (λ x. drop x w) e ∙ sym (drop-drop n 10 w) in
    ap (λ z. r ++ z) (warned-split v is)
    ∙ (sym (append_assoc r (warned (take n v) is) (drop n v))
    ∙ (ap (λ z. (issue_onto z i ++ warned (take n v) is) ++ drop n v) (sym a)
    ∙ (ap (λ z. (issue_onto (take 10 (take m w)) i ++ warned z is) ++ drop n v) (sym b)
    ∙ ap (λ z. (issue_onto (take 10 (take m w)) i ++ warned (drop 10 (take m w)) is) ++ z) (sym d))))

module _ (w v : List ℕ) (is : List Issue) where
  abbrev n : ℕ
  n = length is * 10

  -- of two lists with the same rows at the front, one has what is warned in the other
  kept-over : all short is ≡ true → n ≤ length w → take n v ≡ take n w → over w 0 (take n (warned v is)) ≡ warned w is
  unfolding over
  kept-over a l e =
      let x = warned (take n w) is in
      let t = length-take-le n w l in
      let long : length x ≡ n = length-warned (take n w) is a (omega (arith, t)) ∙ t in
      let front : take n (warned v is) ≡ x = ap (take n) (warned-split v is ∙ ap (λ z. warned z is ++ drop n v) e) ∙ take_at x (drop n v) n long in
      let whole : 0 + length x ≡ n = omega (arith, long) in
      ap (λ z. z ++ drop (0 + length z) w) front ∙ (ap (λ m. x ++ drop m w) whole ∙ sym (warned-split w is))

-- ---- the rows as they begin

module _ (z w : List ℕ) (m : ℕ) where
  began-long : m ≤ length z → length (over z 0 (take m w)) ≡ length z
  began-long h = length_over z 0 (take m w) (omega (arith, length-take m w))

  began-front : (n : ℕ) → n ≤ m → n ≤ length w → take n (over z 0 (take m w)) ≡ take n w
  unfolding over
  began-front n h l = take-append-le n (take m w) (drop (0 + length (take m w)) z) (omega (arith, length-take m w)) ∙ take-take n m w h

pub began : (w : List ℕ) → length (kept_from w) ≡ 25600
began w = let e = length-replicate {A = ℕ} 25600 0 in began-long (replicate 25600 0) w 5120 (omega (arith, e)) ∙ e

pub kept-warned : (w kept : List ℕ) (is : List Issue) → length kept ≡ 25600 → kept ≡ warned (kept_from w) is → length is ≤ kept_rows → length is * 10 ≤ length w
    → over w 0 (take (length is * 10) kept) ≡ warned w is
kept-warned w kept is k e few room =
    let v = kept_from w in
    let long = began w in
    let filled = short-by v is (omega (arith, long)) (omega (arith, long, k, ap length e)) in
    ap (λ (x : List ℕ). over w 0 (take (length is * 10) x)) e
    ∙ kept-over w v is filled room (began-front (replicate 25600 0) w 5120 (length is * 10) (omega arith) room)

-- ---- words of the lent list that are copied

pub words-kept : (w : List ℕ) → take (kept_words (length w)) w ≡ take 5120 w
words-kept w = go (ltb (length w) 5120) refl
  where
    go : (b : Bool) → ltb (length w) 5120 ≡ b → take (cond b (length w) 5120) w ≡ take 5120 w
    go true e = take-length w ∙ sym (take_all 5120 w (omega (arith, ltb-true (length w) 5120 e)))
    go false e = refl

pub words-few : (n : ℕ) → (kept_words n ≤ n) × (kept_words n ≤ 5120)
words-few n = go (ltb n 5120) refl
  where
    go : (b : Bool) → ltb n 5120 ≡ b → (cond b n 5120 ≤ n) × (cond b n 5120 ≤ 5120)
    go true e = (omega arith, omega (arith, ltb-true n 5120 e))
    go false e = (omega (arith, ltb-false n 5120 e), omega arith)
