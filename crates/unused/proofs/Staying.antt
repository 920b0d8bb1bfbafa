-- The boundaries that stay, by how many go. Assumes nothing.
use mathlib.Core.Path.{◌≡◌, refl, sym, ap, ◌∙◌}
use Prim.Native.Nat.{ℕ, zero, suc, ◌+◌, ◌*◌, ◌≤◌}
use native.Mathlib.Nat.{mul-le-mul_right}
use native.Mathlib.Omega.{arith}
use mathlib.Core.Bool.{Bool, true, false, not, ◌||◌}
use mathlib.Core.List.{List, [], ◌∷◌}
use lib.Dec.{eqb}
use borrow.Author.Tests.{le-leb}
use lib.ListN.{length, take, drop, length-drop}
use lib.Seq.{take-nil, drop-cons}
use Rattle.lists.specs.Every.{all}
use Rattle.lists.specs.Rows.{reads, over}
use Rattle.lists.specs.Select.{each, has}
use Rattle.lists.proofs.Booleans.{and-fst, and-snd}
use Rattle.lists.proofs.Rows.{length-reads, over-itself}
use Rattle.lists.proofs.Select.{keep_all}
use Rattle.tables.specs.View.{word, rows}
use Rattle.tables.specs.Formed.{counted, lane_formed}
use Rattle.row_tests.specs.Good.{all_rows}
use Rattle.row_tests.proofs.Tables.{table-few, table-room}
use Rattle.lookup.specs.Lookup.{sorted_table}
use Rattle.lookup.proofs.Laws.{sorted-room}
use Rattle.store.specs.Rows.{stays, kept_rows}
use Rattle.store.proofs.Whole.{joined-rows}
use Rattle.store.proofs.Packing.{kept-count, kept-length, kept-passing}
use Rattle.mentions.specs.declared.Rows.TheVariants.{Lanes}
use Rattle.mentions.specs.Naming.{table_formed}
use Rattle.unused.specs.Parts.{tables}
use Rattle.unused.proofs.Tables.{kept-alike}

always : (rs : List (List ℕ)) → all (λ r. true) rs ≡ true
unfolding all
always [] = refl
always (r ∷ rs) = always rs

-- every row stays
kept-every : (s : ℕ) (t : List ℕ) → 1 + word 0 t * s ≤ length t → kept_rows s (λ x. true) t ≡ t
unfolding kept_rows rows
kept-every s t h =
    let n = word 0 t in
    let w = drop 1 t in
    let l : n * s ≤ length w = rw length-drop (omega arith) in
    ap (λ rs. length rs ∷ over w 0 (each (λ r. r) rs)) (keep_all (λ r. true) (reads s (λ r. r) n w) (always (reads s (λ r. r) n w)))
    ∙ (ap (λ k. k ∷ over w 0 (each (λ r. r) (reads s (λ r. r) n w))) (length-reads s (λ (r : List ℕ). r) n w)
    ∙ (ap (λ ws. n ∷ over w 0 ws) (joined-rows s n w) ∙ (ap (λ v. n ∷ v) (over-itself w (n * s) l) ∙ sym (drop-cons t 0 0 (omega arith)))))

module _ (t : List ℕ) (first second : ℕ) where
  pub none-gone : (n : ℕ) → sorted_table 4096 5 t ≡ true → n ≡ 0 → t ≡ kept_rows 5 (λ x. not (has x (take n (first ∷ second ∷ [])))) t
  unfolding has
  none-gone n h e = rw e (sym (kept-every 5 t (sorted-room 4096 5 t h)))

  pub one-gone : (n : ℕ) (v : List ℕ) → n ≡ 1 → v ≡ kept_rows 5 (stays first first) t → v ≡ kept_rows 5 (λ x. not (has x (take n (first ∷ second ∷ [])))) t
  unfolding has
  one-gone n v e f = f ∙ rw e (kept-alike 5 (stays first first) (λ x. not (has x (first ∷ []))) t (λ x k. same (eqb x first)))
    where
      same : (b : Bool) → not (b || b) ≡ not (b || false)
      same true = refl
      same false = refl

  pub two_gone : (n : ℕ) (v : List ℕ) → (n ≡ 0 → ⊥) → (n ≡ 1 → ⊥) → v ≡ kept_rows 5 (stays first second) t → v ≡ kept_rows 5 (λ x. not (has x (take n (first ∷ second ∷ [])))) t
  unfolding has
  two_gone zero v a b f = absurd (a refl)
  two_gone (suc zero) v a b f = absurd (b refl)
  two_gone (suc (suc n)) v a b f = f ∙ kept-alike 5 (stays first second) (λ x. not (has x (first ∷ second ∷ []))) t (λ x k. same (eqb x first) (eqb x second))
      ∙ ap (λ ys. kept_rows 5 (λ x. not (has x (first ∷ second ∷ ys))) t) (sym (take-nil n))
    where
      same : (p q : Bool) → not (p || q) ≡ not (p || (q || false))
      same true q = refl
      same false true = refl
      same false false = refl

-- ---- the lane table, of which a row goes

module _ (t : List ℕ) (h : table_formed Lanes t ≡ true) where
  counts : counted 1024 52 t ≡ true
  unfolding table_formed
  counts = and-fst (counted 1024 52 t) (all_rows 52 lane_formed t) h

  pub lanes-room : 1 + word 0 t * 52 ≤ length t
  lanes-room = table-room 1024 52 t counts

  pub lanes-formed : (q : ℕ → Bool) → table_formed Lanes (kept_rows 52 q t) ≡ true
  unfolding table_formed all_rows
  lanes-formed q =
      let room : word 0 t * 52 ≤ length (drop 1 t) = rw length-drop (omega (arith, lanes-room)) in
      let v = kept_rows 52 q t in
      let l : length v ≡ length t = kept-length 52 q t room (omega (arith, lanes-room)) in
      let n : word 0 v ≤ word 0 t = kept-count 52 q t in
      let m : word 0 v * 52 ≤ word 0 t * 52 = mul-le-mul_right 52 n in
      rw (
        le-leb 1 (length v) (omega (arith, l, lanes-room)),
        le-leb (word 0 v) 1024 (omega (arith, n, table-few 1024 52 t counts)),
        le-leb (1 + word 0 v * 52) (length v) (omega (arith, l, m, lanes-room)),
        kept-passing 52 q t room lane_formed (and-snd (counted 1024 52 t) (all (λ b. b) (rows 52 lane_formed t)) h),
      )

-- the five tables, one by one
pub five-left : {l m b d r s j k u v : List ℕ} → l ≡ m → b ≡ d → r ≡ s → j ≡ k → u ≡ v → tables l b r j u ≡ tables m d s k v
five-left e f g h i = rw (e, f, g, h, i)
