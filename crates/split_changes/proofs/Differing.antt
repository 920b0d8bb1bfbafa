-- What a split lists as modified among rules is the definition's: those that the cut leaves different. Assumes nothing.
use mathlib.Core.Path.{◌≡◌, refl, ap, ◌∙◌, sym}
use Prim.Native.Nat.{ℕ, zero, suc, ◌+◌, ◌*◌, ◌<◌}
use native.Mathlib.Nat.{zero-mul}
use native.Mathlib.Omega.{arith}
use mathlib.Core.Bool.{Bool, false}
use mathlib.Core.List.{List, ◌++◌, map}
use lib.ListN.{get_or, take, drop}
use lib.Seq.{drop-drop}
use Rattle.entities.specs.Records.{Rule}
use Rattle.rules.specs.Names.{RuleKind}
use Rattle.rules.specs.Edit.{refs, rules_where}
use Rattle.rules.specs.Split.{rule_differs}
use Rattle.lists.specs.Rows.{reads}
use Rattle.tables.specs.View.{word, rows, rule_of}
use Rattle.lookup.specs.Lookup.{row_at}
use Rattle.mentions.proofs.Filters.{ids_where_lem}
use Rattle.follows.specs.Following.{marks_of, marks_from, rule_marks, row_differs}
use Rattle.split_lists.specs.Changes.{marked_ids}
use Rattle.split_changes.proofs.Touched.{marked-pass}

module _ (anchored past : List Bool) (cut : List ℕ) (q : List ℕ → Bool) where
  abbrev at : ℕ → List ℕ → Bool
  at i w = row_differs (get_or anchored i false) (marks_of past i) cut w

  -- marks that are right row by row are the test of every row
  marks-from : (s i n : ℕ) (w : List ℕ) → ((j : ℕ) → j < n → at (i + j) (take s (drop (j * s) w)) ≡ q (take s (drop (j * s) w)))
      → marks_from anchored past cut i (reads s (λ x. x) n w) ≡ map q (reads s (λ x. x) n w)
  unfolding marks_from reads
  marks-from s i zero w e = refl
  marks-from s i (suc n) w e =
      let z : i + 0 ≡ i = omega arith in
      let a : at i (take s w) ≡ q (take s w) = rw (zero-mul, z) at (e 0 (omega arith)) in
      let b : marks_from anchored past cut (suc i) (reads s (λ x. x) n (drop s w)) ≡ map q (reads s (λ x. x) n (drop s w)) =
      marks-from s (suc i) n (drop s w) (λ j l.
      let k : suc j < suc n = omega arith in
      let m : suc j * s ≡ s + j * s = omega arith in
      let y : i + suc j ≡ suc i + j = omega arith in
      rw drop-drop (rw (m, y) at (e (suc j) k))) in
      rw (a, b)

  marks-told : (t : List ℕ) → ((i : ℕ) → i < word 0 t → at i (row_at 330 t i) ≡ q (row_at 330 t i)) → rule_marks anchored past cut t ≡ map q (rows 330 (λ w. w) t)
  unfolding rows
  marks-told t e =
      marks-from 330 0 (word 0 t) (drop 1 t) (λ j l.
      let z : 0 + j ≡ j = omega arith in
      let d : drop (j * 330) (drop 1 t) ≡ drop (1 + j * 330) t = drop-drop (j * 330) 1 t in
      rw (z, d) (e j l))

pub rules-touched : (anchored past : List Bool) (cut t : List ℕ) (rest : List Bool) (change : Rule → Rule)
    → ((i : ℕ) → i < word 0 t → rule_differs (rule_of (row_at 330 t i)) (change (rule_of (row_at 330 t i))) ≡ row_differs (get_or anchored i false) (marks_of past i) cut (row_at 330 t i))
    → refs RuleKind (marked_ids 330 (rule_marks anchored past cut t ++ rest) t) ≡ rules_where (λ r. rule_differs r (change r)) (rows 330 rule_of t)
rules-touched anchored past cut t rest change e =
    let q : List ℕ → Bool = λ w. rule_differs (rule_of w) (change (rule_of w)) in
    ap (refs RuleKind)
    (ap (λ marks. marked_ids 330 (marks ++ rest) t) (marks-told anchored past cut q t (λ i l. sym (e i l)))
    ∙ (marked-pass 330 q t rest ∙ sym (ids_where_lem 330 rule_of (λ r. r.id) (λ r. rule_differs r (change r)) q t (λ w. unfold rule_of in refl) (λ w. refl))))
