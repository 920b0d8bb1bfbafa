-- Rows behind the last one of a table: the rows before them are as they were. Assumes nothing.
use mathlib.Core.Path.{◌≡◌, refl, sym, ap, ◌∙◌}
use Prim.Native.Nat.{ℕ, zero, suc, ◌+◌, ◌-◌, ◌*◌, ◌≤◌, ◌<◌}
use native.Mathlib.Omega.{arith}
use mathlib.Core.Bool.{Bool, true, false}
use mathlib.Core.List.{List, [], ◌∷◌, ◌++◌, append_assoc}
use lib.ListN.{length, get_or, take, drop, length-drop}
use lib.Seq.{length-take-le, take_at, drop-drop, take-take}
use Rattle.lists.proofs.Rows.{drop-take, row_within, length-reads, get_d_reads, take-front, drop-front}
use Rattle.tables.specs.View.{word, rows}
use Rattle.lookup.specs.Lookup.{row_at}
use Rattle.store.specs.Store.{writes}
use Rattle.store.specs.Rows.{map_rows, appended_rows}
use Rattle.split_plan.specs.Placing.{picked}

-- ---- rows of a table

-- row i, among the words behind the count
pub row-among : (s : ℕ) (t : List ℕ) (i : ℕ) → row_at s t i ≡ take s (drop (i * s) (drop 1 t))
row-among s t i = ap (take s) (sym (drop-drop (i * s) 1 t))

-- tables that agree in their first n rows
module _ (s n : ℕ) (v w : List ℕ) (e : take (n * s) v ≡ take (n * s) w) where
  front-row : (i : ℕ) → i < n → take s (drop (i * s) v) ≡ take s (drop (i * s) w)
  front-row i l =
      let r = row_within i n s l in
      let m : s ≤ n * s - i * s = omega arith in
      let d : take (n * s - i * s) (drop (i * s) v) ≡ take (n * s - i * s) (drop (i * s) w) = sym (drop-take (i * s) (n * s) v) ∙ (ap (drop (i * s)) e ∙ drop-take (i * s) (n * s) w) in
      sym (take-take s (n * s - i * s) (drop (i * s) v) m) ∙ (ap (take s) d ∙ take-take s (n * s - i * s) (drop (i * s) w) m)

module _ (s : ℕ) (t : List ℕ) (room : 1 + word 0 t * s ≤ length t) where
  abbrev n : ℕ
  n = word 0 t

  abbrev w : List ℕ
  w = drop 1 t

  words_long : n * s ≤ length w
  words_long = rw length-drop (omega arith)

  front_long : length (take (n * s) w) ≡ n * s
  front_long = length-take-le (n * s) w words_long

  -- what stands behind them leaves them
  pub front_kept : (c : ℕ) (x : List ℕ) (i : ℕ) → i < n → row_at s (c ∷ take (n * s) w ++ x) i ≡ row_at s t i
  front_kept c x i l =
      let e : take (n * s) (take (n * s) w ++ x) ≡ take (n * s) w = take_at (take (n * s) w) x (n * s) front_long in
      row-among s (c ∷ take (n * s) w ++ x) i ∙ (front-row s n (take (n * s) w ++ x) w e i l ∙ sym (row-among s t i))

  pub appended-row : {R : Type 0} (onto : List ℕ → R → List ℕ) (rs : List R) (i : ℕ) → i < n → row_at s (appended_rows s onto rs t) i ≡ row_at s t i
  unfolding appended_rows
  appended-row onto rs i l = front_kept (n + length rs) (writes s onto (drop (n * s) w) rs) i l

-- ---- rows that are read, and those of them that are marked

pub read-row : (s : ℕ) (t : List ℕ) (i : ℕ) → i < word 0 t → get_or (rows s (λ r. r) t) i [] ≡ row_at s t i
unfolding rows
read-row s t i l = get_d_reads s (λ (r : List ℕ). r) (word 0 t) i (drop 1 t) [] l ∙ sym (row-among s t i)

pub rows-many : (s : ℕ) (t : List ℕ) → length (rows s (λ r. r) t) ≡ word 0 t
unfolding rows
rows-many s t = length-reads s (λ (r : List ℕ). r) (word 0 t) (drop 1 t)

-- how many are marked is told by how many there are
pub picked-many : {A B : Type 0} (marks : List Bool) (xs : List A) (ys : List B) → length xs ≡ length ys → length (picked marks xs) ≡ length (picked marks ys)
unfolding picked
picked-many [] xs ys e = refl
picked-many (b ∷ bs) [] [] e = refl
picked-many (b ∷ bs) [] (y ∷ ys) e = absurd (omega arith)
picked-many (b ∷ bs) (x ∷ xs) [] e = absurd (omega arith)
picked-many (true ∷ bs) (x ∷ xs) (y ∷ ys) e = ap suc (picked-many bs xs ys (omega arith))
picked-many (false ∷ bs) (x ∷ xs) (y ∷ ys) e = picked-many bs xs ys (omega arith)

-- ---- rows changed, and words behind them

pub map-front : (s : ℕ) (g : List ℕ → List ℕ) (n : ℕ) (a x : List ℕ) → length a ≡ n * s → map_rows s g n (a ++ x) ≡ map_rows s g n a ++ x
unfolding map_rows
map-front s g zero a x h = refl
map-front s g (suc n) a x h =
    let r : s ≤ length a = omega arith in
    let k : length (drop s a) ≡ n * s = length-drop s a ∙ omega arith in
    rw (take-front s a x r, drop-front s a x r, append_assoc) (ap (λ z. g (take s a) ++ z) (map-front s g n (drop s a) x k))
