-- Rows of a lane table that can be searched: their words and lists, and the row that a search finds. Assumes nothing.
use Rattle.std.specs.Prelude.{Option, None, Some}
use mathlib.Core.Path.{◌≡◌, refl, sym, ◌∙◌}
use Prim.Native.Nat.{ℕ, suc, ◌+◌, ◌-◌, ◌*◌, ◌≤◌, ◌<◌}
use native.Mathlib.Omega.{arith}
use mathlib.Core.Bool.{Bool, true, false, ◌&&◌, cond}
use mathlib.Core.List.{List, [], ◌∷◌}
use mathlib.Core.Logic.{◌⊎◌, ⊎_elim}
use lib.Dec.{eqb}
use borrow.Author.Tests.{ne_eqb}
use lib.ListN.{length, get_or, take, drop, length-drop}
use lib.Seq.{get_or-take, get_or-drop, drop-drop, take-take, take_all}
use Rattle.lists.specs.Every.{all}
use Rattle.lists.specs.Rows.{keys, row_with, later}
use Rattle.lists.specs.Select.{ascending}
use Rattle.lists.proofs.Every.{all_get_d}
use Rattle.lists.proofs.Rows.{length-reads, get_d_reads, length-keys, drop-take}
use Rattle.lists.proofs.Booleans.{and-fst, and-snd}
use Rattle.tables.specs.View.{word, ids_at, rows}
use Rattle.tables.specs.Formed.{counted, lane_formed}
use Rattle.row_tests.specs.Returned.{searchable, lane_at, row_test, answer_place, slot_answered}
use Rattle.row_tests.proofs.Tables.{row_of, table-some, table-few, table-room, row_room}
use Rattle.row_tests.proofs.Formed.{lane-before, lane-after}

-- ---- a row that is found is one of the rows

pub found_within : (x : ℕ) (ks : List ℕ) (j : ℕ) → row_with x ks ≡ Some j → j < length ks
unfolding row_with
found_within x [] j e = let z : ◌≡◌ {A = ℕ} 0 1 = cc in omega arith
found_within x (k ∷ ks) j e = go (eqb k x) (row_with x ks) (λ i q. found_within x ks i q) e
  where
    go : (b : Bool) (r : Option ℕ) → ((i : ℕ) → r ≡ Some i → i < length ks) → cond b (Some 0) (later r) ≡ Some j → j < suc (length ks)
    go true r q f = let z : j ≡ 0 = cc in omega arith
    go false (Some i) q f = let z : j ≡ suc i = cc in omega (arith, q i refl)
    go false None q f = let z : ◌≡◌ {A = ℕ} 0 1 = cc in omega arith

-- ---- words and lists of row j

pub word_at : (t : List ℕ) (j k : ℕ) → k < 52 → get_or t (1 + j * 52 + k) 0 ≡ word k (lane_at t j)
word_at t j k h = sym (get_or-take 52 (drop (1 + j * 52) t) k 0 h ∙ get_or-drop (1 + j * 52) t k 0)

pub id-at : (t : List ℕ) (j : ℕ) → get_or t (1 + j * 52) 0 ≡ word 0 (lane_at t j)
id-at t j = let e : 1 + j * 52 + 0 ≡ 1 + j * 52 = omega arith in rw e at (word_at t j 0 (omega arith))

next-at : (t : List ℕ) (j k : ℕ) → suc k < 52 → get_or t (1 + j * 52 + k + 1) 0 ≡ word (suc k) (lane_at t j)
next-at t j k h = let e : 1 + j * 52 + k + 1 ≡ 1 + j * 52 + suc k = omega arith in rw e (word_at t j (suc k) h)

-- row i, as a pass reads it
pub lane_row : (t : List ℕ) (i : ℕ) → row_of 52 t i ≡ lane_at t i
lane_row t i = let e : 1 + i * 52 + 52 - (1 + i * 52) ≡ 52 = omega arith in rw e

-- a list that lies in the row, as it is lent
pub ids_at_lem : (t : List ℕ) (j k : ℕ) → k + 1 + get_or t (1 + j * 52 + k) 0 ≤ 52
    → take (1 + j * 52 + k + 1 + get_or t (1 + j * 52 + k) 0 - (1 + j * 52 + k + 1)) (drop (1 + j * 52 + k + 1) t) ≡ ids_at k (lane_at t j)
ids_at_lem t j k h =
    let n = word k (lane_at t j) in
    let l : k < 52 = omega arith in
    let m : k + 1 + n ≤ 52 = omega (arith, word_at t j k l) in
    let e : 1 + j * 52 + k + 1 + n - (1 + j * 52 + k + 1) ≡ n = omega arith in
    let f : 1 + j * 52 + suc k ≡ 1 + j * 52 + k + 1 = omega arith in
    let g : n ≤ 52 - suc k = omega arith in
    rw (word_at t j k l, e, drop-take (suc k) 52 (drop (1 + j * 52) t), take-take n (52 - suc k) (drop (suc k) (drop (1 + j * 52) t)) g, drop-drop (suc k) (1 + j * 52) t, f)

-- the rows as they are lent to a search
pub rows-lent : (t : List ℕ) → 1 ≤ length t → take (length t - 1) (drop 1 t) ≡ drop 1 t
rows-lent t h = take_all (length t - 1) (drop 1 t) (rw length-drop (omega arith))

-- ---- a table that can be searched

module _ (t : List ℕ) (h : searchable t ≡ true) where
  sorted : (counted 1024 52 t && ascending (keys 52 (word 0 t) (drop 1 t))) ≡ true
  unfolding searchable
  sorted = and-fst (counted 1024 52 t && ascending (keys 52 (word 0 t) (drop 1 t))) (all (λ b. b) (rows 52 lane_formed t)) h

  pub lanes-counted : counted 1024 52 t ≡ true
  lanes-counted = and-fst (counted 1024 52 t) (ascending (keys 52 (word 0 t) (drop 1 t))) sorted

  pub lanes-ascend : ascending (keys 52 (word 0 t) (drop 1 t)) ≡ true
  lanes-ascend = and-snd (counted 1024 52 t) (ascending (keys 52 (word 0 t) (drop 1 t))) sorted

  pub lanes-some : 1 ≤ length t
  lanes-some = table-some 1024 52 t lanes-counted

  pub lanes-few : word 0 t ≤ 1024
  lanes-few = table-few 1024 52 t lanes-counted

  pub lanes-room : word 0 t * 52 ≤ length (drop 1 t)
  lanes-room = rw length-drop (omega (arith, table-room 1024 52 t lanes-counted))

  pub lanes-formed : all (λ b. b) (rows 52 lane_formed t) ≡ true
  unfolding searchable
  lanes-formed = and-snd (counted 1024 52 t && ascending (keys 52 (word 0 t) (drop 1 t))) (all (λ b. b) (rows 52 lane_formed t)) h

  module _ (j : ℕ) (l : j < word 0 t) where
    pub lane_room : 1 + j * 52 + 52 ≤ length t
    lane_room = row_room 1024 52 t lanes-counted j l

    pub row-formed : lane_formed (lane_at t j) ≡ true
    unfolding rows
    row-formed =
        let m : j < length (rows 52 lane_formed t) = rw (length-reads 52 lane_formed (word 0 t) (drop 1 t)) l in
        let e : get_or (rows 52 lane_formed t) j true ≡ lane_formed (lane_at t j) = get_d_reads 52 lane_formed (word 0 t) j (drop 1 t) true l ∙ rw drop-drop in
        sym e ∙ all_get_d (λ (b : Bool). b) (rows 52 lane_formed t) j true m lanes-formed

    -- a list of links lies in the row
    pub links-within : (k : ℕ) → (k ≡ 18) ⊎ (k ≡ 35) → k + 1 + get_or t (1 + j * 52 + k) 0 ≤ 52
    links-within k c =
        let a : get_or t (1 + j * 52 + 18) 0 ≡ word 18 (lane_at t j) = word_at t j 18 (omega arith) in
        let b : get_or t (1 + j * 52 + 35) 0 ≡ word 35 (lane_at t j) = word_at t j 35 (omega arith) in
        ⊎_elim (λ e. rw e (omega (arith, a, lane-before (lane_at t j) row-formed))) (λ e. rw e (omega (arith, b, lane-after (lane_at t j) row-formed))) c

  -- a lane that is found is one of the rows
  pub lane-found : (x j : ℕ) → row_with x (keys 52 (word 0 t) (drop 1 t)) ≡ Some j → j < word 0 t
  lane-found x j e = omega (arith, found_within x (keys 52 (word 0 t) (drop 1 t)) j e, length-keys 52 (word 0 t) (drop 1 t))

  -- what a search asks of the rows as they are lent, and what it gives
  pub search-may : (0 < 52) × ((word 0 t * 52 ≤ length (take (length t - 1) (drop 1 t))) × (ascending (keys 52 (word 0 t) (take (length t - 1) (drop 1 t))) ≡ true))
  search-may = rw (rows-lent t lanes-some) (omega arith, (lanes-room, lanes-ascend))

  pub search-gives : (x : ℕ) (r : Option ℕ) → r ≡ row_with x (keys 52 (word 0 t) (take (length t - 1) (drop 1 t))) → row_with x (keys 52 (word 0 t) (drop 1 t)) ≡ r
  search-gives x r e = sym (rw (rows-lent t lanes-some) at e)

-- ---- slots

pub slot-within : (k : ℕ) → (k ≡ 14) ⊎ (k ≡ 16) → k + 2 ≤ 52
slot-within k c = ⊎_elim (λ e. omega arith) (λ e. omega arith) c

pub answer-within : (k mark : ℕ) → (k ≡ 14) ⊎ (k ≡ 16) → answer_place k mark + 2 ≤ 52
answer-within k mark c = go (eqb mark 1) (eqb k 14)
  where
    go : (a b : Bool) → cond a (cond b 16 14) k + 2 ≤ 52
    go true true = omega arith
    go true false = omega arith
    go false b = slot-within k c

-- the slot at k of row i: empty; of a lane that is absent; of the lane in row j, which answers at p
module _ (t : List ℕ) (i k : ℕ) (h : k + 2 ≤ 52) where
  mark-at : get_or t (1 + i * 52 + k) 0 ≡ word k (lane_at t i)
  mark-at = word_at t i k (omega arith)

  pub slot-none : get_or t (1 + i * 52 + k) 0 ≡ 0 → true ≡ slot_answered t k (lane_at t i)
  unfolding slot_answered
  slot-none z = let e : word k (lane_at t i) ≡ 0 = rw mark-at at z in rw e

  module _ (n : get_or t (1 + i * 52 + k) 0 ≡ 0 → ⊥) where
    marked : eqb (word k (lane_at t i)) 0 ≡ false
    marked = ne_eqb (word k (lane_at t i)) 0 (rw mark-at at n)

    lane : get_or t (1 + i * 52 + k + 1) 0 ≡ word (suc k) (lane_at t i)
    lane = next-at t i k (omega arith)

    pub slot-absent : row_with (get_or t (1 + i * 52 + k + 1) 0) (keys 52 (word 0 t) (drop 1 t)) ≡ None → false ≡ slot_answered t k (lane_at t i)
    unfolding slot_answered row_test
    slot-absent q =
        let f : row_with (word (suc k) (lane_at t i)) (keys 52 (word 0 t) (drop 1 t)) ≡ None = rw lane at q in
        rw (marked, f)

    pub slot-there : (j p : ℕ) → p + 2 ≤ 52 → row_with (get_or t (1 + i * 52 + k + 1) 0) (keys 52 (word 0 t) (drop 1 t)) ≡ Some j → p ≡ answer_place k (get_or t (1 + i * 52 + k) 0)
        → (eqb (get_or t (1 + j * 52 + p) 0) (get_or t (1 + i * 52 + k) 0) && eqb (get_or t (1 + j * 52 + p + 1) 0) (get_or t (1 + i * 52) 0)) ≡ slot_answered t k (lane_at t i)
    unfolding slot_answered row_test
    slot-there j p g q e =
        let f : row_with (word (suc k) (lane_at t i)) (keys 52 (word 0 t) (drop 1 t)) ≡ Some j = rw lane at q in
        let r : p ≡ answer_place k (word k (lane_at t i)) = rw mark-at at e in
        let l : p < 52 = omega arith in
        let m : suc p < 52 = omega arith in
        rw (marked, f, ← r, mark-at, word_at t j p l, next-at t j p m, id-at t i)
