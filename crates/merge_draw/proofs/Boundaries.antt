-- Rows of boundaries in a merge: one that points to its line, and one that is new. Assumes nothing.
use mathlib.Core.Path.{◌≡◌, refl, sym, ap, ◌∙◌}
use Prim.Native.Nat.{ℕ, ◌+◌, ◌*◌, ◌≤◌, ◌<◌}
use native.Mathlib.Omega.{arith}
use mathlib.Core.Bool.{Bool, true, false, cond}
use mathlib.Core.List.{List, [], ◌∷◌, ◌++◌}
use lib.Dec.{eqb}
use lib.ListN.{length, set, take, drop, length-set, length-drop}
use lib.Seq.{drop-drop, drop-cons, length-take-le}
use borrow.Author.Tests.{eq-eqb, ne_eqb}
use Rattle.lists.specs.Rows.{over}
use Rattle.lists.proofs.Rows.{length_over, store_at, store-behind, row_within}
use Rattle.tables.specs.View.{word}
use Rattle.lookup.specs.Lookup.{row_at}
use Rattle.store.specs.Store.{writes}
use Rattle.store.specs.Rows.{appended_rows}
use Rattle.store.proofs.Turns.{over-table}
use Rattle.merge_draw.specs.Redrawing.{pointed_row, boundary_row, as_given}
use Rattle.merge_draw.proofs.Turns.{Keeping}

-- ---- a row that points to its line

module _ (w : List ℕ) (id start size : ℕ) (h : length w ≡ 5) where
  pub point-on : word 0 w ≡ id → set (set w 2 start) 3 size ≡ pointed_row id start size w
  point-on e =
      ap (λ v. set v 3 size) (store_at w 2 start (omega arith))
      ∙ (store-behind w 2 3 (start ∷ []) size refl (omega arith) ∙ sym (ap (λ b. cond b (over w 2 (start ∷ size ∷ [])) w) (eq-eqb (word 0 w) id e)))

  pub point-off : (word 0 w ≡ id → ⊥) → w ≡ pointed_row id start size w
  point-off e = sym (ap (λ b. cond b (over w 2 (start ∷ size ∷ [])) w) (ne_eqb (word 0 w) id e))

  pub point-length : length (pointed_row id start size w) ≡ 5
  point-length = go (eqb (word 0 w) id)
    where
      go : (b : Bool) → length (cond b (over w 2 (start ∷ size ∷ [])) w) ≡ 5
      go true = length_over w 2 (start ∷ size ∷ []) (omega arith) ∙ h
      go false = h

-- ---- every row of a table

pub row-long : (s : ℕ) (t : List ℕ) (j : ℕ) → 1 + word 0 t * s ≤ length t → j < word 0 t → length (row_at s t j) ≡ s
row-long s t j r l = length-take-le s (drop (1 + j * s) t) (rw length-drop (omega (arith, row_within j (word 0 t) s l)))

pub point-keeps : (t : List ℕ) (id start size : ℕ) → 1 + word 0 t * 5 ≤ length t → Keeping 5 (pointed_row id start size) t
point-keeps t id start size r j l = point-length (row_at 5 t j) id start size (row-long 5 t j r l)

-- ---- a new row

module _ (t : List ℕ) (room : 1 + (word 0 t + 1) * 5 ≤ length t) (id kind start size attributes : ℕ) where
  abbrev n : ℕ
  n = word 0 t

  abbrev w : List ℕ
  w = drop 1 t

  abbrev row : List ℕ
  row = boundary_row id kind start size attributes

  head : set t 0 (n + 1) ≡ (n + 1) ∷ w
  head = ap (λ v. set v 0 (n + 1)) (drop-cons t 0 0 (omega arith))

  stores : (v : List ℕ) (a : ℕ) → a + 5 ≤ length v → set (set (set (set (set v a id) (a + 1) kind) (a + 2) start) (a + 3) size) (a + 4) attributes ≡ over v a row
  stores v a h =
      ap (λ u. set (set (set (set u (a + 1) kind) (a + 2) start) (a + 3) size) (a + 4) attributes) (store_at v a id (omega arith))
      ∙ (ap (λ u. set (set (set u (a + 2) start) (a + 3) size) (a + 4) attributes) (store-behind v a (a + 1) (id ∷ []) kind refl (omega arith))
      ∙ (ap (λ u. set (set u (a + 3) size) (a + 4) attributes) (store-behind v a (a + 2) (id ∷ kind ∷ []) start refl (omega arith))
      ∙ (ap (λ u. set u (a + 4) attributes) (store-behind v a (a + 3) (id ∷ kind ∷ start ∷ []) size refl (omega arith))
      ∙ store-behind v a (a + 4) (id ∷ kind ∷ start ∷ size ∷ []) attributes refl (omega arith))))

  whole : over ((n + 1) ∷ w) (1 + n * 5) row ≡ appended_rows 5 as_given (row ∷ []) t
  unfolding appended_rows writes over
  whole = over-table (n + 1) w (n * 5) row ∙ ap (λ z. (n + 1) ∷ take (n * 5) w ++ (row ++ z)) (sym (drop-drop 5 (n * 5) w))

  pub added : set (set (set (set (set (set t 0 (n + 1)) (1 + n * 5) id) (1 + n * 5 + 1) kind) (1 + n * 5 + 2) start) (1 + n * 5 + 3) size) (1 + n * 5 + 4) attributes
      ≡ appended_rows 5 as_given (row ∷ []) t
  added = stores (set t 0 (n + 1)) (1 + n * 5) (rw length-set (omega arith)) ∙ (ap (λ v. over v (1 + n * 5) row) head ∙ whole)

  -- the table while it is stored word by word: each store lies within it
  abbrev v1 : List ℕ
  v1 = set t 0 (n + 1)

  abbrev v2 : List ℕ
  v2 = set v1 (1 + n * 5) id

  abbrev v3 : List ℕ
  v3 = set v2 (1 + n * 5 + 1) kind

  abbrev v4 : List ℕ
  v4 = set v3 (1 + n * 5 + 2) start

  abbrev v5 : List ℕ
  v5 = set v4 (1 + n * 5 + 3) size

  long1 : length v1 ≡ length t
  long1 = length-set t 0 (n + 1)

  long2 : length v2 ≡ length t
  long2 = length-set v1 (1 + n * 5) id ∙ long1

  long3 : length v3 ≡ length t
  long3 = length-set v2 (1 + n * 5 + 1) kind ∙ long2

  long4 : length v4 ≡ length t
  long4 = length-set v3 (1 + n * 5 + 2) start ∙ long3

  pub id-room : 1 + n * 5 < length v1
  id-room = omega (arith, long1, room)

  pub kind-room : 1 + n * 5 + 1 < length v2
  kind-room = omega (arith, long2, room)

  pub start-room : 1 + n * 5 + 2 < length v3
  start-room = omega (arith, long3, room)

  pub size_room : 1 + n * 5 + 3 < length v4
  size_room = omega (arith, long4, room)

  pub attributes-room : 1 + n * 5 + 4 < length v5
  attributes-room = omega (arith, length-set v4 (1 + n * 5 + 3) size, long4, room)
