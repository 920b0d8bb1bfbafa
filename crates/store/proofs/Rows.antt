-- Rows of a table changed one by one. Over any records; assumes nothing.
use mathlib.Core.Path.{◌≡◌, refl, sym, ap, ◌∙◌}
use Prim.Native.Nat.{ℕ, zero, suc, ◌+◌, ◌*◌, ◌≤◌, ◌<◌}
use native.Mathlib.Nat.{le_of_suc-le-suc, not-suc-le-zero, zero-mul}
use native.Mathlib.Omega.{arith}
use mathlib.Core.Bool.{Bool, true}
use mathlib.Core.List.{List, ◌∷◌, ◌++◌, map}
use lib.ListN.{length, get_or, take, drop, length-append, length-drop, take-append-drop}
use lib.Seq.{drop-drop, length-take-le, take_at, drop_at}
use borrow.Author.Tests.{eq-eqb, ne_eqb}
use Rattle.lists.specs.Rows.{reads, over}
use Rattle.lists.proofs.Booleans.{and-fst, and-snd}
use Rattle.lists.specs.Every.{all}
use Rattle.lists.proofs.Rows.{over-part}
use Rattle.tables.specs.View.{word}
use Rattle.store.specs.Store.{writes}
use Rattle.store.specs.Rows.{map_rows, on_rows, keyed}

-- ---- rows

-- every one of the first n rows passes
abbrev pub passing : ℕ → (List ℕ → Bool) → ℕ → List ℕ → Type 0
passing s good n w = all (λ b. b) (reads s good n w) ≡ true

module _ (s : ℕ) where
  rest : (n : ℕ) (w : List ℕ) → suc n * s ≤ length w → n * s ≤ length (drop s w)
  rest n w h = rw length-drop (omega arith)

  first : (n : ℕ) (w : List ℕ) → suc n * s ≤ length w → length (take s w) ≡ s
  first n w h = let i : s ≤ length w = omega arith in length-take-le s w i

  module _ (good : List ℕ → Bool) where
    good-first : (n : ℕ) (w : List ℕ) → passing s good (suc n) w → good (take s w) ≡ true
    unfolding reads all
    good-first n w a = and-fst (good (take s w)) (all (λ b. b) (reads s good n (drop s w))) a

    good-rest : (n : ℕ) (w : List ℕ) → passing s good (suc n) w → passing s good n (drop s w)
    unfolding reads all
    good-rest n w a = and-snd (good (take s w)) (all (λ b. b) (reads s good n (drop s w))) a

    -- two changes that agree on rows that pass
    pub rows_agree : (g h : List ℕ → List ℕ) → ((r : List ℕ) → length r ≡ s → good r ≡ true → g r ≡ h r)
        → (n : ℕ) (w : List ℕ) → n * s ≤ length w → passing s good n w → map_rows s g n w ≡ map_rows s h n w
    unfolding map_rows
    rows_agree g h e zero w l a = refl
    rows_agree g h e (suc n) w l a =
        rw (e (take s w) (first n w l) (good-first n w a), rows_agree g h e n (drop s w) (rest n w l) (good-rest n w a))

    pub table-agree : (g h : List ℕ → List ℕ) → ((r : List ℕ) → length r ≡ s → good r ≡ true → g r ≡ h r)
        → (t : List ℕ) → word 0 t * s ≤ length (drop 1 t) → passing s good (word 0 t) (drop 1 t) → on_rows s g t ≡ on_rows s h t
    unfolding on_rows
    table-agree g h e t l a = ap (λ z. word 0 t ∷ z) (rows_agree g h e (word 0 t) (drop 1 t) l a)

    -- rows that a change leaves
    pub rows_stay : (g : List ℕ → List ℕ) → ((r : List ℕ) → length r ≡ s → good r ≡ true → g r ≡ r)
        → (n : ℕ) (w : List ℕ) → n * s ≤ length w → passing s good n w → map_rows s g n w ≡ w
    unfolding map_rows
    rows_stay g e zero w l a = refl
    rows_stay g e (suc n) w l a =
        rw (e (take s w) (first n w l) (good-first n w a), rows_stay g e n (drop s w) (rest n w l) (good-rest n w a), take-append-drop)

    -- what a change makes of rows that pass
    pub rows-read : {B : Type 0} (g : List ℕ → List ℕ) (dec after : List ℕ → B)
        → ((r : List ℕ) → length r ≡ s → good r ≡ true → length (g r) ≡ s)
        → ((r : List ℕ) → length r ≡ s → good r ≡ true → dec (g r) ≡ after r)
        → (n : ℕ) (w : List ℕ) → n * s ≤ length w → passing s good n w → reads s dec n (map_rows s g n w) ≡ reads s after n w
    unfolding map_rows reads
    rows-read g dec after len e zero w l a = refl
    rows-read g dec after len e (suc n) w l a =
        let r = take s w in
        let q = good-first n w a in
        let k = len r (first n w l) q in
        rw (take_at (g r) (map_rows s g n (drop s w)) s k, drop_at (g r) (map_rows s g n (drop s w)) s k, e r (first n w l) q, rows-read g dec after len e n (drop s w) (rest n w l) (good-rest n w a))

    -- one change after another
    pub rows-twice : (g h : List ℕ → List ℕ) → ((r : List ℕ) → length r ≡ s → good r ≡ true → length (g r) ≡ s)
        → (n : ℕ) (w : List ℕ) → n * s ≤ length w → passing s good n w → map_rows s h n (map_rows s g n w) ≡ map_rows s (λ r. h (g r)) n w
    unfolding map_rows
    rows-twice g h len zero w l a = refl
    rows-twice g h len (suc n) w l a =
        let r = take s w in
        let k = len r (first n w l) (good-first n w a) in
        rw (take_at (g r) (map_rows s g n (drop s w)) s k, drop_at (g r) (map_rows s g n (drop s w)) s k, rows-twice g h len n (drop s w) (rest n w l) (good-rest n w a))

    pub rows-length : (g : List ℕ → List ℕ) → ((r : List ℕ) → length r ≡ s → good r ≡ true → length (g r) ≡ s)
        → (n : ℕ) (w : List ℕ) → n * s ≤ length w → passing s good n w → length (map_rows s g n w) ≡ length w
    unfolding map_rows
    rows-length g len zero w l a = refl
    rows-length g len (suc n) w l a =
        let k = len (take s w) (first n w l) (good-first n w a) in
        let i = rows-length g len n (drop s w) (rest n w l) (good-rest n w a) in
        let j = length-drop s w in
        simp (length-append, k, i) (omega arith)

  -- two changes that agree on every row there is
  pub rows-agree-at : (g h : List ℕ → List ℕ) (n : ℕ) (w : List ℕ) → ((j : ℕ) → j < n → g (take s (drop (j * s) w)) ≡ h (take s (drop (j * s) w)))
      → map_rows s g n w ≡ map_rows s h n w
  unfolding map_rows
  rows-agree-at g h zero w e = refl
  rows-agree-at g h (suc n) w e =
      let a : g (take s w) ≡ h (take s w) = let z = e 0 (omega arith) in (rw zero-mul at z) in
      let b : map_rows s g n (drop s w) ≡ map_rows s h n (drop s w) =
      rows-agree-at g h n (drop s w) (λ j l.
      let k : suc j < suc n = omega arith in
      let q : suc j * s ≡ s + j * s = omega arith in
      rw drop-drop (rw q at (e (suc j) k))) in
      rw (a, b)

  -- records changed and written where they were read
  pub rows_written : {R : Type 0} (onto : List ℕ → R → List ℕ) (dec : List ℕ → R) (f : R → R) (n : ℕ) (w : List ℕ)
      → writes s onto w (map f (reads s dec n w)) ≡ map_rows s (λ r. onto r (f (dec r))) n w
  unfolding map_rows writes reads
  rows_written onto dec f zero w = refl
  rows_written onto dec f (suc n) w = ap (λ z. onto (take s w) (f (dec (take s w))) ++ z) (rows_written onto dec f n (drop s w))

-- ---- the row with an id

-- row j of s words
abbrev pub row_at : ℕ → List ℕ → ℕ → List ℕ
row_at s w j = take s (drop (j * s) w)

pub front-over : (s : ℕ) (w x : List ℕ) → length x ≡ s → over w 0 x ≡ x ++ drop s w
unfolding over
front-over s w x q = let z : 0 + s ≡ s = omega arith in rw (q, z)

module _ (s : ℕ) (id : ℕ) (g : List ℕ → List ℕ) where
  next_row : (w : List ℕ) (j : ℕ) → row_at s (drop s w) j ≡ row_at s w (suc j)
  next_row w j = let e : s + j * s ≡ suc j * s = omega arith in rw (drop-drop, e)

  front-row : (w : List ℕ) → row_at s w 0 ≡ take s w
  front-row w = rw zero-mul

  -- no row has the id
  none-keyed : (n : ℕ) (w : List ℕ) → n * s ≤ length w → ((j : ℕ) → j < n → get_or (row_at s w j) 0 0 ≡ id → ⊥) → map_rows s (keyed id g) n w ≡ w
  unfolding map_rows
  none-keyed zero w l never = refl
  none-keyed (suc n) w l never =
      let z : get_or (take s w) 0 0 ≡ id → ⊥ = λ e. never 0 (omega arith) (ap (λ r. get_or r 0 0) (front-row w) ∙ e) in
      let more : (j : ℕ) → j < n → get_or (row_at s (drop s w) j) 0 0 ≡ id → ⊥ =
      λ j h e. let k : suc j < suc n = omega arith in never (suc j) k (ap (λ r. get_or r 0 0) (sym (next_row w j)) ∙ e) in
      rw (ne_eqb (get_or (take s w) 0 0) id z, none-keyed n (drop s w) (rest s n w l) more, take-append-drop)

  -- row i alone has the id
  pub one-keyed : (n i : ℕ) (w : List ℕ) → n * s ≤ length w → i < n → get_or (row_at s w i) 0 0 ≡ id
      → ((j : ℕ) → j < n → get_or (row_at s w j) 0 0 ≡ id → j ≡ i) → length (g (row_at s w i)) ≡ s
      → map_rows s (keyed id g) n w ≡ over w (i * s) (g (row_at s w i))
  unfolding map_rows
  one-keyed zero i w l h e one k = absurd (not-suc-le-zero h)
  one-keyed (suc n) zero w l h e one k =
      let e0 : get_or (take s w) 0 0 ≡ id = ap (λ r. get_or r 0 0) (sym (front-row w)) ∙ e in
      let k0 : length (g (take s w)) ≡ s = ap (λ r. length (g r)) (sym (front-row w)) ∙ k in
      let never : (j : ℕ) → j < n → get_or (row_at s (drop s w) j) 0 0 ≡ id → ⊥ =
      λ j q f. let p : suc j < suc n = omega arith in let z = one (suc j) p (ap (λ r. get_or r 0 0) (sym (next_row w j)) ∙ f) in absurd (apart j z) in
      rw (eq-eqb (get_or (take s w) 0 0) id e0, none-keyed n (drop s w) (rest s n w l) never) (sym (placed k0))
    where
      apart : (j : ℕ) → suc j ≡ 0 → ⊥
      apart j z = omega arith

      placed : length (g (take s w)) ≡ s → over w (0 * s) (g (row_at s w 0)) ≡ g (take s w) ++ drop s w
      placed k0 = rw (front-row w, zero-mul) (front-over s w (g (take s w)) k0)
  one-keyed (suc n) (suc i) w l h e one k =
      let z : get_or (take s w) 0 0 ≡ id → ⊥ = λ f. absurd (apart (one 0 (omega arith) (ap (λ r. get_or r 0 0) (front-row w) ∙ f))) in
      let m : i < n = le_of_suc-le-suc h in
      let inner =
      one-keyed n i (drop s w) (rest s n w l) m (ap (λ r. get_or r 0 0) (next_row w i) ∙ e)
      (λ j q f. let p : suc j < suc n = omega arith in let u = one (suc j) p (ap (λ r. get_or r 0 0) (sym (next_row w j)) ∙ f) in less j u) (ap (λ r. length (g r)) (next_row w i) ∙ k) in
      let t : s + i * s ≡ suc i * s = omega arith in
      let q : s ≤ length w = omega arith in
      rw (ne_eqb (get_or (take s w) 0 0) id z, inner, over-part w s (i * s) (g (row_at s (drop s w) i)) q, t, next_row w i)
    where
      apart : 0 ≡ suc i → ⊥
      apart u = omega arith

      less : (j : ℕ) → suc j ≡ suc i → j ≡ i
      less j u = omega arith
