-- A row's list grown in its 64 slots. Assumes nothing.
use mathlib.Core.Path.{◌≡◌, sym, ap, ◌∙◌}
use Prim.Native.Nat.{ℕ, suc, ◌+◌, ◌-◌, ◌*◌, ◌^◌, ◌≤◌, ◌<◌}
use native.Mathlib.Omega.{arith}
use mathlib.Core.Bool.{true}
use mathlib.Core.List.{List, ◌∷◌}
use lib.Dec.{leb}
use lib.ListN.{length, set, take}
use borrow.Author.Tests.{leb-true}
use borrow.Rule.Slice.PartMut.{mid_of, put_mid, mid_len}
use Rattle.lists.specs.Rows.{over}
use Rattle.lists.specs.Select.{ascending, insert_after, numbered}
use Rattle.lists.proofs.Booleans.{and-fst, and-snd}
use Rattle.tables.specs.View.{word, ids_at}
use Rattle.store.specs.Rows.{set_list}
use Rattle.store.proofs.Lists.{list_put, ids-part}
use Rattle.row_tests.specs.Good.{all_rows}
use Rattle.row_tests.proofs.Tables.{row_room, row-length, table-few, table-some}
use Rattle.lookup.specs.Lookup.{row_at}
use Rattle.lookup.proofs.Laws.{row-passes}
use Rattle.mentions.proofs.Turns.{row-there}
use Rattle.grows.specs.Growing.{grows_at, list_grows, Numbered, Grows}

module _ (next : ℕ) (cut : List ℕ) (k : ℕ) (w : List ℕ) (g : list_grows next cut k w ≡ true) where
  pub list-few : word k w ≤ 64
  list-few = leb-true (word k w) 64 (and-fst (leb (word k w) 64) (leb (length (insert_after (numbered next cut) (ids_at k w))) 64) g)

  pub list-grown : length (insert_after (numbered next cut) (ids_at k w)) ≤ 64
  list-grown =
      leb-true (length (insert_after (numbered next cut) (ids_at k w))) 64 (and-snd (leb (word k w) 64) (leb (length (insert_after (numbered next cut) (ids_at k w))) 64) g)

module _ (next : ℕ) (cut : List ℕ) (k : ℕ) (w : List ℕ) (p : (Numbered next cut) × ((suc k + 64 ≤ length w) × (list_grows next cut k w ≡ true))) where
  abbrev slots : List ℕ
  slots = mid_of (k + 1) (length w - (k + 1)) w

  few : word k w ≤ 64
  few = list-few next cut k w p.1.1

  grown : length (insert_after (numbered next cut) (ids_at k w)) ≤ 64
  grown = list-grown next cut k w p.1.1

  -- the slots, counted
  end : k + 1 + (length w - (k + 1)) ≡ length w
  end = omega (arith, p.1.0)

  size : length slots ≡ length w - (k + 1)
  size = mid_len (k + 1) (length w) w (omega arith)

  same : take (word k w) slots ≡ ids_at k w
  same =
      ap (λ e. take (word k w) (mid_of (k + 1) (e - (k + 1)) w)) (sym end)
      ∙ ids-part w k (omega (arith, few, p.1.0)) (length w - (k + 1)) (omega (arith, few, p.1.0))

  pub grow-may : (word k w ≤ length slots) × ((ascending cut ≡ true) × ((next + length cut ≤ 2 ^ 64) × (length (insert_after (numbered next cut) (take (word k w) slots)) ≤ length slots)))
  grow-may = (
    omega (arith, size, few, p.1.0),
    (p.0.ascend, (p.0.ids, rw same (omega (arith, size, grown, p.1.0)))),
  )

  pub list_grew : (v : List ℕ) (n : ℕ) → n ≡ length (insert_after (numbered next cut) (take (word k w) slots)) → v ≡ over slots 0 (insert_after (numbered next cut) (take (word k w) slots))
      → set (put_mid (k + 1) (length w - (k + 1)) w v) k n ≡ grows_at next cut k w
  unfolding set_list
  list_grew v n c e =
      let hs = numbered next cut in
      let m = length w - (k + 1) in
      let f : v ≡ over (mid_of (k + 1) (k + 1 + m - (k + 1)) w) 0 (insert_after hs (ids_at k w)) =
      e ∙ (ap (λ x. over slots 0 (insert_after hs x)) same ∙ ap (λ j. over (mid_of (k + 1) (j - (k + 1)) w) 0 (insert_after hs (ids_at k w))) (sym end)) in
      ap (λ j. set (put_mid (k + 1) (j - (k + 1)) w v) k n) (sym end)
      ∙ (list_put w v (insert_after hs (ids_at k w)) k m (omega (arith, end)) (omega (arith, grown, p.1.0)) f n
      ∙ ap (λ j. over w k (j ∷ insert_after hs (ids_at k w))) (c ∙ ap (λ x. length (insert_after hs x)) same))

-- a table of such lists
module _ (next : ℕ) (cut : List ℕ) (s k : ℕ) (t : List ℕ) (g : Grows next cut s k t) where
  pub grows_some : 1 ≤ length t
  grows_some = table-some 1024 s t g.counts

  module _ (i : ℕ) (l : i < word 0 t) where
    pub grows-room : 1 + i * s + s ≤ length t
    grows-room = row_room 1024 s t g.counts i l

    pub grows-few : i < 1024
    grows-few = omega (arith, table-few 1024 s t g.counts)

    -- the row as it is lent
    pub grows-lent : (w : List ℕ) → w ≡ row_at s t i → (Numbered next cut) × ((suc k + 64 ≤ length w) × (list_grows next cut k w ≡ true))
    unfolding all_rows
    grows-lent w e =
        let n : length w ≡ s = ap length (e ∙ sym (row-there s t i)) ∙ row-length 1024 s t g.counts i l in
        (g.numbers, (omega (arith, g.width), ap (list_grows next cut k) e ∙ row-passes s (list_grows next cut k) t g.rows i l))
