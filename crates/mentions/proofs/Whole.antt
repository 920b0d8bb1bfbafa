-- A table whose rows are changed one after the other: one turn, and the end. Assumes nothing.
use mathlib.Core.Path.{◌≡◌, refl, sym, ap, ◌∙◌, subst}
use Prim.Native.Nat.{ℕ, zero, suc, ◌+◌, ◌-◌, ◌*◌, ◌≤◌, ◌<◌}
use native.Mathlib.Nat.{zero-mul, mul-le-mul_right}
use native.Mathlib.Omega.{arith}
use mathlib.Core.Bool.{true}
use mathlib.Core.List.{List, ◌∷◌, ◌++◌}
use lib.ListN.{length, take, drop, length-append, length-drop}
use lib.Seq.{drop-drop, drop_at, take_at, drop-cons}
use borrow.Rule.Slice.PartMut.{put_mid}
use Rattle.lists.specs.Rows.{over}
use Rattle.lists.proofs.Rows.{over-part}
use Rattle.store.proofs.Turns.{over-table}
use Rattle.tables.specs.View.{word}
use Rattle.row_tests.proofs.Tables.{row_of}
use Rattle.store.specs.Rows.{map_rows, on_rows}
use Rattle.store.proofs.Rows.{front-over}
use Rattle.store.proofs.Lists.{put-over}
use Rattle.mentions.specs.declared.Rows.{Rows}
use Rattle.mentions.specs.Naming.{row_words, row_formed, table_formed}
use Rattle.mentions.proofs.Turns.{row-there, formed-some, formed-room, lent-room, lent-formed}

-- ---- general

-- a list written behind a part of known length
over-behind : (a v l : List ℕ) (n b : ℕ) → length a ≡ n → over (a ++ v) (n + b) l ≡ a ++ over v b l
over-behind a v l n b e =
    let h : n ≤ length (a ++ v) = rw length-append (omega arith) in
    sym (over-part (a ++ v) n b l h) ∙ rw (take_at a v n e, drop_at a v n e)

-- the first i rows changed by g, where g keeps their length
module _ (s : ℕ) (g : List ℕ → List ℕ) where
  abbrev pub kept : ℕ → List ℕ → Type 0
  kept i w = (j : ℕ) → j < i → length (g (take s (drop (j * s) w))) ≡ s

  kept-first : (i : ℕ) (w : List ℕ) → kept (suc i) w → length (g (take s w)) ≡ s
  kept-first i w k = let z = k 0 (omega arith) in (rw zero-mul at z)

  next : (w : List ℕ) (j : ℕ) → drop (j * s) (drop s w) ≡ drop (suc j * s) w
  next w j = let e : s + j * s ≡ suc j * s = omega arith in drop-drop (j * s) s w ∙ rw e

  kept-rest : (i : ℕ) (w : List ℕ) → kept (suc i) w → kept i (drop s w)
  kept-rest i w k j l = let m : suc j < suc i = omega arith in rw (next w j) (k (suc j) m)

  -- the rows that are not changed yet are where they were
  pub rows_behind : (i : ℕ) (w : List ℕ) → kept i w → drop (i * s) (map_rows s g i w) ≡ drop (i * s) w
  unfolding map_rows
  rows_behind zero w k = refl
  rows_behind (suc i) w k =
      let x = g (take s w) ++ map_rows s g i (drop s w) in
      sym (next x i)
      ∙ (ap (drop (i * s)) (drop_at (g (take s w)) (map_rows s g i (drop s w)) s (kept-first i w k)) ∙ (rows_behind i (drop s w) (kept-rest i w k) ∙ next w i))

  pub rows_long : (i : ℕ) (w : List ℕ) → i * s ≤ length w → kept i w → length (map_rows s g i w) ≡ length w
  unfolding map_rows
  rows_long zero w h k = refl
  rows_long (suc i) w h k =
      let a = kept-first i w k in
      let d = length-drop s w in
      let b = rows_long i (drop s w) (rw length-drop (omega arith)) (kept-rest i w k) in
      rw length-append (omega arith)

  -- one more row put
  pub rows-put : (i : ℕ) (w : List ℕ) → kept (i + 1) w → over (map_rows s g i w) (i * s) (g (take s (drop (i * s) w))) ≡ map_rows s g (i + 1) w
  unfolding map_rows
  rows-put zero w k = let h = kept-first 0 w k in rw zero-mul (front-over s w (g (take s w)) h)
  rows-put (suc i) w k =
      let z : suc i + 1 ≡ suc (i + 1) = omega arith in
      let e : suc i * s ≡ s + i * s = omega arith in
      let n : kept (suc (i + 1)) w = subst (λ m. kept m w) z k in
      let l = g (take s (drop (suc i * s) w)) in
      let first = g (take s w) in
      let q : g (take s (drop (i * s) (drop s w))) ≡ l = ap (λ x. g (take s x)) (next w i) in
      ap (λ m. over (first ++ map_rows s g i (drop s w)) m l) e
      ∙ (over-behind first (map_rows s g i (drop s w)) l s (i * s) (kept-first (i + 1) w n)
      ∙ (ap (λ x. first ++ over (map_rows s g i (drop s w)) (i * s) x) (sym q)
      ∙ (ap (λ x. first ++ x) (rows-put i (drop s w) (kept-rest (i + 1) w n)) ∙ ap (λ m. map_rows s g m w) (sym z))))

-- ---- the loop

-- the first i rows of the table t are changed by g
pub record Changed (k : Rows) (g : List ℕ → List ℕ) (t₀ t : List ℕ) (i : ℕ) : Type 0 where
  pub upto : i ≤ word 0 t₀
  pub words : t ≡ word 0 t₀ ∷ map_rows (row_words k) g i (drop 1 t₀)

-- a change that keeps the length of a row
abbrev pub Keeps : Rows → (List ℕ → List ℕ) → Type 0
Keeps k g = (w : List ℕ) → (length w ≡ row_words k) × (row_formed k w ≡ true) → length (g w) ≡ row_words k

module _ (k : Rows) (g : List ℕ → List ℕ) (same : Keeps k g) (t₀ : List ℕ) (h : table_formed k t₀ ≡ true) where
  pub changed-none : Changed k g t₀ t₀ 0
  unfolding map_rows
  changed-none = record { upto = omega arith; words = drop-cons t₀ 0 0 (formed-some k t₀ h) }

  -- row j, among the rows
  row-among : (j : ℕ) → row_of (row_words k) t₀ j ≡ take (row_words k) (drop (j * row_words k) (drop 1 t₀))
  row-among j = row-there (row_words k) t₀ j ∙ ap (take (row_words k)) (sym (drop-drop (j * row_words k) 1 t₀))

  all-kept : (i : ℕ) → i ≤ word 0 t₀ → kept (row_words k) g i (drop 1 t₀)
  all-kept i u j l =
      let m : j < word 0 t₀ = omega arith in
      ap (λ x. length (g x)) (sym (row-among j)) ∙ same (row_of (row_words k) t₀ j) (lent-formed k t₀ h (row_words k) refl j m)

  module _ (t : List ℕ) (i : ℕ) (m : Changed k g t₀ t i) where
    pub changed-length : length t ≡ length t₀
    changed-length =
        let r : i * row_words k ≤ length (drop 1 t₀) = rw length-drop (omega (arith, mul-le-mul_right (row_words k) m.upto, formed-room k t₀ h (row_words k) refl)) in
        ap length m.words
        ∙ (ap suc (rows_long (row_words k) g i (drop 1 t₀) r (all-kept i m.upto)) ∙ sym (ap length (drop-cons t₀ 0 0 (formed-some k t₀ h))))

    pub changed_row : (s : ℕ) → s ≡ row_words k → row_of s t i ≡ row_of s t₀ i
    changed_row s e =
        rw e (row-there (row_words k) t i ∙ (ap (take (row_words k)) (behind ∙ drop-drop (i * row_words k) 1 t₀) ∙ sym (row-there (row_words k) t₀ i)))
      where
        behind : drop (1 + i * row_words k) t ≡ drop (i * row_words k) (drop 1 t₀)
        behind =
            sym (drop-drop (i * row_words k) 1 t)
            ∙ (ap (λ x. drop (i * row_words k) (drop 1 x)) m.words ∙ rows_behind (row_words k) g i (drop 1 t₀) (all-kept i m.upto))

    module _ (s : ℕ) (e : s ≡ row_words k) (l : i < word 0 t₀) where
      pub changed-room : 1 + i * s + s ≤ length t
      changed-room = omega (arith, changed-length, lent-room k t₀ h s e i l)

      pub changed-formed : (length (row_of s t i) ≡ row_words k) × (row_formed k (row_of s t i) ≡ true)
      changed-formed = let f = lent-formed k t₀ h s e i l in let r = changed_row s e in (ap length r ∙ f.0, ap (row_formed k) r ∙ f.1)

    -- one turn
    turn : i < word 0 t₀ → (v : List ℕ) → v ≡ g (row_of (row_words k) t i)
        → Changed k g t₀ (put_mid (1 + i * row_words k) (1 + i * row_words k + row_words k - (1 + i * row_words k)) t v) (i + 1)
    turn l v ve =
        let s = row_words k in
        let w = drop 1 t₀ in
        let n : length v ≡ s = ap length ve ∙ same (row_of s t i) (changed-formed s refl l) in
        let q : 1 + i * s + length v ≡ 1 + i * s + s = omega arith in
        let p : put_mid (1 + i * s) (1 + i * s + s - (1 + i * s)) t v ≡ over t (1 + i * s) v = put-over t v (1 + i * s) (1 + i * s + s) q (omega arith) in
        let r : v ≡ g (take s (drop (i * s) w)) = ve ∙ ap g (changed_row s refl ∙ row-among i) in
        record {
          upto = omega arith;
          words =
              p
              ∙ (ap (λ x. over x (1 + i * s) v) m.words
              ∙ (over-table (word 0 t₀) (map_rows s g i w) (i * s) v
              ∙ ap (λ x. word 0 t₀ ∷ x) (ap (over (map_rows s g i w) (i * s)) r ∙ rows-put s g i w (all-kept (i + 1) (omega arith)))));
        }

    pub changed-turn : (s : ℕ) → s ≡ row_words k → i < word 0 t₀ → (v : List ℕ) → v ≡ g (row_of s t i)
        → Changed k g t₀ (put_mid (1 + i * s) (1 + i * s + s - (1 + i * s)) t v) (i + 1)
    changed-turn s e l = subst (λ n. (v : List ℕ) → v ≡ g (row_of n t i) → Changed k g t₀ (put_mid (1 + i * n) (1 + i * n + n - (1 + i * n)) t v) (i + 1)) (sym e) (turn l)

    pub changed-all : word 0 t₀ ≤ i → t ≡ on_rows (row_words k) g t₀
    unfolding on_rows
    changed-all l =
        let e : i ≡ word 0 t₀ = omega (arith, m.upto) in
        m.words ∙ ap (λ n. word 0 t₀ ∷ map_rows (row_words k) g n (drop 1 t₀)) e
