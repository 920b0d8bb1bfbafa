-- A rule's row and the table of rules: what each call asks, and one turn. Assumes nothing.
use mathlib.Core.Path.{◌≡◌, sym, ap, ◌∙◌}
use Prim.Native.Nat.{ℕ, ◌+◌, ◌-◌, ◌*◌, ◌≤◌, ◌<◌}
use native.Mathlib.Omega.{arith}
use mathlib.Core.Bool.{Bool, true, false, ◌&&◌, cond}
use mathlib.Core.List.{List}
use lib.Dec.{eqb, leb}
use lib.ListN.{length, get_or, take, drop, length-drop}
use lib.Seq.{length-take-le}
use borrow.Author.Tests.{leb-true, eq-eqb}
use Rattle.lists.specs.Select.{insert_after, numbered}
use Rattle.lists.proofs.Booleans.{and-fst, and-snd}
use Rattle.lists.proofs.Rows.{row_within}
use Rattle.tables.specs.View.{word, ids_at}
use Rattle.tables.specs.Formed.{rule_formed}
use Rattle.row_tests.proofs.Formed.{rule-lanes}
use Rattle.row_tests.proofs.Tables.{row_room, row-length, table-few, table-some}
use Rattle.lookup.specs.Lookup.{row_at}
use Rattle.mentions.specs.Naming.{change_at}
use Rattle.mentions.proofs.Turns.{row-there}
use Rattle.mentions.proofs.Going.{RuleFits, change-length, word-behind, ids-behind}
use Rattle.grows.specs.Growing.{Numbered, list_grows}
use Rattle.grows.proofs.Lists.{list-grown}
use Rattle.follows.specs.Following.{followed_all, rule_room, marks_of, Follows}

-- ---- one rule

module _ (anchored : Bool) (past : List Bool) (next : ℕ) (cut w : List ℕ) (room : rule_room anchored past next cut w ≡ true) where
  abbrev follows : List ℕ → List ℕ
  follows = followed_all anchored past next cut

  abbrev gains : List ℕ → List ℕ
  gains = insert_after (numbered next cut)

  abbrev way : Bool
  way = list_grows next cut 200 w && list_grows next cut 265 w

  pub rule-formed : rule_formed w ≡ true
  rule-formed = and-fst (rule_formed w) (leb (length (follows (ids_at 5 w))) 64 && cond (eqb (word 1 w) 3) way true) room

  rest : (leb (length (follows (ids_at 5 w))) 64 && cond (eqb (word 1 w) 3) way true) ≡ true
  rest = and-snd (rule_formed w) (leb (length (follows (ids_at 5 w))) 64 && cond (eqb (word 1 w) 3) way true) room

  pub lanes_fit : length (follows (ids_at 5 w)) ≤ 64
  lanes_fit = leb-true (length (follows (ids_at 5 w))) 64 (and-fst (leb (length (follows (ids_at 5 w))) 64) (cond (eqb (word 1 w) 3) way true) rest)

  ways : word 1 w ≡ 3 → way ≡ true
  ways n = sym (ap (λ b. cond b way true) (eq-eqb (word 1 w) 3 n)) ∙ and-snd (leb (length (follows (ids_at 5 w))) 64) (cond (eqb (word 1 w) 3) way true) rest

  priority-grows : word 1 w ≡ 3 → list_grows next cut 200 w ≡ true
  priority-grows n = and-fst (list_grows next cut 200 w) (list_grows next cut 265 w) (ways n)

  yielding-grows : word 1 w ≡ 3 → list_grows next cut 265 w ≡ true
  yielding-grows n = and-snd (list_grows next cut 200 w) (list_grows next cut 265 w) (ways n)

  pub rule-room : RuleFits follows gains w
  rule-room =
      record {
        lanes = lanes_fit;
        priority = λ n. list-grown next cut 200 w (priority-grows n);
        yielding = λ n. list-grown next cut 265 w (yielding-grows n);
      }

  -- what the calls ask, in their order
  module _ (numbers : Numbered next cut) (l : length w ≡ 330) where
    pub follow-all-may : length past ≡ 64
        → (Numbered next cut) × ((length w ≡ 330) × ((word 5 w ≤ 64) × ((length past ≡ 64) × (length (follows (ids_at 5 w)) ≤ 64))))
    follow-all-may m = (numbers, (l, (rule-lanes w rule-formed, (m, lanes_fit))))

    -- a list behind one that was changed
    kept : (f : List ℕ → List ℕ) (v u : List ℕ) (k j : ℕ) → u ≡ change_at f k v → k + 65 ≤ j → j ≤ 330 → length v ≡ 330 → length (f (ids_at k v)) ≤ 64
        → (list_grows next cut j u ≡ list_grows next cut j v) × (length u ≡ 330)
    kept f v u k j e h i n m =
        let r : k + 1 + length (f (ids_at k v)) ≤ length v = omega arith in
        let a : word j u ≡ word j v = ap (word j) e ∙ word-behind f v k r j (omega arith) in
        let b : ids_at j u ≡ ids_at j v = ap (ids_at j) e ∙ ids-behind f v k r j (omega arith) in (
          ap (λ x. leb x 64 && leb (length (gains (ids_at j u))) 64) a ∙ ap (λ x. leb (word j v) 64 && leb (length (gains x)) 64) b,
          ap length e ∙ (change-length f v k r ∙ n),
        )

    module _ (v : List ℕ) (e : v ≡ change_at follows 5 w) (n : word 1 w ≡ 3) where
      pub priority-may : (Numbered next cut) × ((265 ≤ length v) × (list_grows next cut 200 v ≡ true))
      priority-may =
          let k = kept follows w v 5 200 e (omega arith) (omega arith) l lanes_fit in
          (numbers, (omega (arith, k.1), k.0 ∙ priority-grows n))

      pub yielding-may : (u : List ℕ) → u ≡ change_at gains 200 v → (Numbered next cut) × ((330 ≤ length u) × (list_grows next cut 265 u ≡ true))
      yielding-may u d =
          let k = kept follows w v 5 265 e (omega arith) (omega arith) l lanes_fit in
          let m = kept gains v u 200 265 d (omega arith) (omega arith) k.1 (list-grown next cut 200 v priority-may.1.1) in
          (numbers, (omega (arith, m.1), m.0 ∙ (k.0 ∙ yielding-grows n)))

-- ---- the table

module _ (anchored past : List Bool) (next : ℕ) (cut t : List ℕ) (f : Follows anchored past next cut t) where
  pub rules-some : 1 ≤ length t
  rules-some = table-some 512 330 t f.counts

  module _ (i : ℕ) (l : i < word 0 t) where
    pub rules-room : 1 + i * 330 + 330 ≤ length t
    rules-room = row_room 512 330 t f.counts i l

    pub rules-few : i < 512
    rules-few = omega (arith, table-few 512 330 t f.counts)

    pub marks-room : i * 64 + 64 ≤ length past
    marks-room = omega (arith, f.marks, row_within i (word 0 t) 64 l)

    pub rule-may : (w : List ℕ) → w ≡ row_at 330 t i → (m : List Bool) → m ≡ marks_of past i
        → (Numbered next cut) × ((length w ≡ 330) × ((length m ≡ 64) × (rule_room (get_or anchored i false) m next cut w ≡ true)))
    rule-may w e m d =
        let a : length w ≡ 330 = ap length (e ∙ sym (row-there 330 t i)) ∙ row-length 512 330 t f.counts i l in
        let b : length m ≡ 64 = ap length d ∙ length-take-le 64 (drop (i * 64) past) (rw length-drop (omega (arith, marks-room))) in
        (f.numbers, (a, (b, rw (e, d) (f.rows i l))))

-- the marks of a row, as they are lent
pub marks-lent : (past : List Bool) (i : ℕ) → take (i * 64 + 64 - i * 64) (drop (i * 64) past) ≡ marks_of past i
marks-lent past i = let e : i * 64 + 64 - i * 64 ≡ 64 = omega arith in ap (λ n. take n (drop (i * 64) past)) e
