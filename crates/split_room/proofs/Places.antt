-- Lists that have places for second halves: one list, one row, and one turn over the rules. Assumes nothing.
use mathlib.Core.Path.{◌≡◌, refl, sym, ◌∙◌}
use Prim.Native.Nat.{ℕ, suc, ◌+◌, ◌-◌, ◌*◌, ◌≤◌, ◌<◌}
use native.Mathlib.Numerals.{add-one}
use native.Mathlib.Omega.{arith}
use mathlib.Core.Bool.{Bool, true, false, not, ◌&&◌, true≢false}
use mathlib.Core.List.{List, []}
use lib.Dec.{leb}
use lib.ListN.{length, get_or, take, drop, length-drop, drop_of_length-le}
use lib.Seq.{drop-cons, drop-drop, take_all, take-take, length-take-le}
use borrow.Author.Tests.{eq-eqb, ne_eqb, leb-true}
use Rattle.lists.specs.Select.{ascending, has, keep}
use Rattle.lists.proofs.Select.{length-keep}
use Rattle.lists.proofs.Rows.{length-reads, get_d_reads, drop-take}
use Rattle.tables.specs.View.{word, ids_at, rows}
use Rattle.tables.specs.Formed.{rule_formed}
use Rattle.row_tests.specs.Good.{all_rows}
use Rattle.row_tests.proofs.Formed.{rule-lanes, rule-priority, rule-yielding}
use Rattle.row_tests.proofs.Tables.{row_of, table-some, table-few, row_room, row-length}
use Rattle.lookup.specs.Lookup.{row_at}
use Rattle.lookup.proofs.Laws.{word_in, row-passes}
use Rattle.room.proofs.Sums.{row-lent}
use Rattle.split_room.specs.Fitting.{list_fits, named_of, own_fits, rule_fits, rules_fit, ListsOf, RulesOf}

-- a test that was turned round
pub not-true : (b : Bool) → not b ≡ true → b ≡ false
not-true true n = absurd (true≢false (sym n))
not-true false n = refl

pub not-false : (b : Bool) → not b ≡ false → b ≡ true
not-false true n = refl
not-false false n = absurd (true≢false n)

-- ---- one list

ids-many : (w : List ℕ) (k : ℕ) → k + 1 + word k w ≤ length w → length (ids_at k w) ≡ word k w
ids-many w k room = length-take-le (word k w) (drop (suc k) w) (rw length-drop (omega arith))

module _ (cut w : List ℕ) (k : ℕ) (room : k + 1 + word k w ≤ length w) (r : ℕ) (e : r ≡ length (keep (λ i. has i cut) (take (word k w) (take (length w - (k + 1)) (drop (k + 1) w))))) where
  named-is : r ≡ length (keep (λ i. has i cut) (ids_at k w))
  named-is =
      let s : k + 1 ≡ suc k = omega arith in
      let f : length (drop (suc k) w) ≤ length w - suc k = rw (length-drop (suc k) w) (omega arith) in
      e ∙ rw (s, take_all (length w - suc k) (drop (suc k) w) f)

  pub named-few : r ≤ word k w
  named-few = omega (arith, named-is, length-keep (λ i. has i cut) (ids_at k w), ids-many w k room)

  pub list-fits-is : leb (word k w + r) 64 ≡ list_fits cut k w
  list-fits-is = rw named-is

-- the list at place k of row i, as it stands in the table
module _ (s k : ℕ) (cut t : List ℕ) (h : ListsOf s k cut t) where
  pub lists-some : 1 ≤ length t
  lists-some = table-some 4096 s t h.counts

  module _ (i : ℕ) (l : i < word 0 t) where
    pub lists-few : i < 4096
    lists-few = omega (arith, table-few 4096 s t h.counts)

    pub lists-room : 1 + i * s + s ≤ length t
    lists-room = row_room 4096 s t h.counts i l

    count-is : word (1 + i * s + k) t ≡ word k (row_at s t i)
    count-is = word_in s t i k (omega (arith, h.list))

    short : word k (row_at s t i) ≤ 64
    unfolding all_rows
    short = leb-true (word k (row_at s t i)) 64 (row-passes s (λ w. leb (word k w) 64) t h.rows i l)

    pub list-asks : (ascending cut ≡ true) × ((1 + i * s + k + 1 + word (1 + i * s + k) t ≤ length t) × (word (1 + i * s + k) t ≤ 64))
    list-asks = (h.ascend, (omega (arith, lists-room, count-is, short, h.list), omega (arith, count-is, short)))

    ids-there : ids_at (1 + i * s + k) t ≡ ids_at k (row_at s t i)
    ids-there =
        let n = word k (row_at s t i) in
        let o : suc (1 + i * s + k) ≡ 1 + i * s + suc k = omega arith in
        let m : n ≤ s - suc k = omega (arith, short, h.list) in
        rw (count-is, drop-take (suc k) s (drop (1 + i * s) t), take-take n (s - suc k) (drop (suc k) (drop (1 + i * s) t)) m, drop-drop, o)

    pub list-there : (r : Bool) → r ≡ list_fits cut (1 + i * s + k) t → r ≡ list_fits cut k (row_of s t i)
    list-there r e = e ∙ rw (ids-there, count-is, row-lent s t i)

-- ---- a rule

module _ (cut w : List ℕ) (f : rule_formed w ≡ true) (l : length w ≡ 330) where
  pub own_room : 6 + word 5 w ≤ length w
  own_room = omega (arith, rule-lanes w f)

  pub own-few : word 5 w ≤ 64
  own-few = rule-lanes w f

  module _ (anchored : Bool) where
    pub own-named : anchored ≡ false → (r : ℕ) → r ≡ named_of cut (take (6 + word 5 w - 6) (drop 6 w)) → leb (word 5 w + r) 64 ≡ own_fits anchored cut w
    own-named a r e = let z : 6 + word 5 w - 6 ≡ word 5 w = omega arith in rw (a, e, z)

    module _ (o : Bool) (e : o ≡ own_fits anchored cut w) where
      pub rule-crowded : not o ≡ true → false ≡ rule_fits anchored cut w
      rule-crowded n = rw (← e, not-true o n)

      module _ (n : not o ≡ false) where
        holds : o ≡ true
        holds = not-false o n

        pub rule-other : (word 1 w ≡ 3 → ⊥) → true ≡ rule_fits anchored cut w
        rule-other k = rw (← e, holds, ne_eqb (word 1 w) 3 k)

        pub rule-both : word 1 w ≡ 3 → (a b r : Bool) → a ≡ list_fits cut 200 w → b ≡ list_fits cut 265 w → r ≡ (a && b) → r ≡ rule_fits anchored cut w
        rule-both k a b r p q g = g ∙ rw (← e, holds, eq-eqb (word 1 w) 3 k, ← p, ← q)

  module _ (up : ascending cut ≡ true) (k : word 1 w ≡ 3) where
    pub priority-asks : (ascending cut ≡ true) × ((201 + word 200 w ≤ length w) × (word 200 w ≤ 64))
    priority-asks = (up, (omega (arith, rule-priority w f k), rule-priority w f k))

    pub yielding-asks : (ascending cut ≡ true) × ((266 + word 265 w ≤ length w) × (word 265 w ≤ 64))
    yielding-asks = (up, (omega (arith, rule-yielding w f k), rule-yielding w f k))

-- ---- all rules

module _ (anchored : List Bool) (cut t : List ℕ) (h : RulesOf anchored cut t) where
  abbrev every_row : List (List ℕ)
  every_row = rows 330 (λ (w : List ℕ). w) t

  rows_long : length every_row ≡ word 0 t
  unfolding rows
  rows_long = length-reads 330 (λ (w : List ℕ). w) (word 0 t) (drop 1 t)

  pub rules-some : 1 ≤ length t
  rules-some = table-some 512 330 t h.counts

  module _ (i : ℕ) (v : rules_fit anchored cut 0 every_row ≡ rules_fit anchored cut i (drop i every_row)) where
    pub rules-end : word 0 t ≤ i → true ≡ rules_fit anchored cut 0 every_row
    unfolding rules_fit
    rules-end l = let m : length every_row ≤ i = omega (arith, rows_long) in sym (v ∙ rw (drop_of_length-le every_row m))

    module _ (l : i < word 0 t) where
      pub rules-few : i < 512
      rules-few = omega (arith, table-few 512 330 t h.counts)

      pub rules-room : 1 + i * 330 + 330 ≤ length t
      rules-room = row_room 512 330 t h.counts i l

      pub rule-asks : (ascending cut ≡ true) × ((length (row_of 330 t i) ≡ 330) × ((rule_formed (row_of 330 t i) ≡ true) × (length cut ≤ 1024)))
      unfolding all_rows
      rule-asks = (h.ascend, (row-length 512 330 t h.counts i l, (rw (row-lent 330 t i) (row-passes 330 rule_formed t h.formed i l), h.few)))

      row_is : get_or every_row i [] ≡ row_at 330 t i
      unfolding rows
      row_is = get_d_reads 330 (λ (w : List ℕ). w) (word 0 t) i (drop 1 t) [] l ∙ rw drop-drop

      module _ (r : Bool) (e : r ≡ rule_fits (get_or anchored i false) cut (row_of 330 t i)) where
        step : rules_fit anchored cut i (drop i every_row) ≡ (r && rules_fit anchored cut (i + 1) (drop (i + 1) every_row))
        unfolding rules_fit
        step =
            let m : i < length every_row = omega (arith, rows_long) in
            rw (add-one i, drop-cons every_row i [] m, row_is, e, row-lent 330 t i)

        pub rules-stop : not r ≡ true → false ≡ rules_fit anchored cut 0 every_row
        rules-stop n = sym (v ∙ step ∙ rw (not-true r n))

        pub rules-go-on : not r ≡ false → rules_fit anchored cut 0 every_row ≡ rules_fit anchored cut (i + 1) (drop (i + 1) every_row)
        rules-go-on n = v ∙ step ∙ rw (not-false r n)
