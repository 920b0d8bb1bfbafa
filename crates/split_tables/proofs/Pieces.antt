-- The rows of boundaries after a split: those that point to a first piece, and the new ones. Assumes nothing.
use Rattle.std.specs.Prelude.{Option, None, Some}
use mathlib.Core.Path.{◌≡◌, refl, sym, ap, ◌∙◌}
use Prim.Native.Nat.{ℕ, ◌+◌, ◌*◌, ◌≤◌, ◌<◌}
use native.Mathlib.Omega.{arith}
use mathlib.Core.Bool.{Bool, true, false, cond}
use mathlib.Core.List.{List, [], ◌∷◌, ◌++◌}
use lib.Dec.{eqb, leb}
use lib.ListN.{length, set, drop, length-append, length-drop}
use lib.Seq.{get_or-take, get_or-drop}
use borrow.Author.Tests.{eq-eqb, ne_eqb, leb-true}
use Rattle.lists.specs.Every.{all}
use Rattle.lists.specs.Rows.{over, keys, row_with}
use Rattle.lists.proofs.Every.{all_get_d}
use Rattle.lists.proofs.Rows.{length-keys, found_within, length_over, store_at, store-behind}
use Rattle.tables.specs.View.{word}
use Rattle.lookup.specs.Lookup.{row_at}
use Rattle.store.specs.Rows.{appended_rows}
use Rattle.store.proofs.Back.{RowsFit}
use Rattle.store.proofs.Growing.{appended-count, appended-none, appended-length, appended_then}
use Rattle.merge_draw.specs.Redrawing.{boundary_row, as_given}
use Rattle.merge_draw.proofs.Turns.{Keeping}
use Rattle.merge_draw.proofs.Boundaries.{row-long}
use Rattle.split_tables.specs.Cut.{pointed_at, pointed_piece, first_piece_row, second_piece_row, new_row}

-- ---- a row that points to its first piece

module _ (w pieces : List ℕ) (m : ℕ) (lines : List ℕ) (h : length w ≡ 5) where
  module _ (f : Option ℕ) (e : f ≡ row_with (word 0 w) (keys 3 m pieces)) where
    pub piece-within : (j : ℕ) → f ≡ Some j → j < m
    piece-within j t = omega (arith, found_within (word 0 w) (keys 3 m pieces) j (sym e ∙ t), length-keys 3 m pieces)

    pub point-on : (j : ℕ) → f ≡ Some j → word (j * 3 + 1) pieces ≡ word 0 w → set (set w 2 (word (j * 3) lines)) 3 (word (j * 3 + 1) lines) ≡ pointed_piece pieces m lines w
    point-on j t q =
        let start = word (j * 3) lines in
        let size = word (j * 3 + 1) lines in
        ap (λ v. set v 3 size) (store_at w 2 start (omega arith))
        ∙ (store-behind w 2 3 (start ∷ []) size refl (omega arith)
        ∙ sym
        (ap (pointed_at pieces lines w) (sym e ∙ t) ∙ ap (λ b. cond b (over w 2 (start ∷ size ∷ [])) w) (eq-eqb (word (j * 3 + 1) pieces) (word 0 w) q)))

    pub point-off : (j : ℕ) → f ≡ Some j → (word (j * 3 + 1) pieces ≡ word 0 w → ⊥) → w ≡ pointed_piece pieces m lines w
    point-off j t q =
        sym
        (ap (pointed_at pieces lines w) (sym e ∙ t) ∙ ap (λ b. cond b (over w 2 (word (j * 3) lines ∷ word (j * 3 + 1) lines ∷ [])) w) (ne_eqb (word (j * 3 + 1) pieces) (word 0 w) q))

    pub point-none : f ≡ None → w ≡ pointed_piece pieces m lines w
    point-none t = sym (ap (pointed_at pieces lines w) (sym e ∙ t))

  pub point-long : length (pointed_piece pieces m lines w) ≡ 5
  point-long = go (row_with (word 0 w) (keys 3 m pieces))
    where
      on : (j : ℕ) (b : Bool) → length (cond b (over w 2 (word (j * 3) lines ∷ word (j * 3 + 1) lines ∷ [])) w) ≡ 5
      on j true = length_over w 2 (word (j * 3) lines ∷ word (j * 3 + 1) lines ∷ []) (omega arith) ∙ h
      on j false = h

      go : (r : Option ℕ) → length (pointed_at pieces lines w r) ≡ 5
      go (Some j) = on j (eqb (word (j * 3 + 1) pieces) (word 0 w))
      go None = h

pub point-keeps : (t pieces : List ℕ) (m : ℕ) (lines : List ℕ) → 1 + word 0 t * 5 ≤ length t → Keeping 5 (pointed_piece pieces m lines) t
point-keeps t pieces m lines r j l = point-long (row_at 5 t j) pieces m lines (row-long 5 t j r l)

-- ---- new rows

-- each of them has five words
unfoldable pub Fives : List (List ℕ) → Type 0
Fives [] = Unit
Fives (r ∷ rs) = (length r ≡ 5) × Fives rs

abbrev Five : List ℕ → List ℕ → Type 0
Five w r = length r ≡ 5

five-rows : (rs : List (List ℕ)) → Fives rs → (w : List ℕ) → RowsFit 5 Five w rs
unfolding Fives RowsFit
five-rows [] f w = refl
five-rows (r ∷ rs) f w = (f.0, five-rows rs f.1 (drop 5 w))

pub fives_append : (rs qs : List (List ℕ)) → Fives rs → Fives qs → Fives (rs ++ qs)
unfolding Fives
fives_append [] qs f g = g
fives_append (r ∷ rs) qs f g = (f.0, fives_append rs qs f.1 g)

module _ (t : List ℕ) (rs : List (List ℕ)) (f : Fives rs) (room : 1 + (word 0 t + length rs) * 5 ≤ length t) where
  behind-room : (word 0 t + length rs) * 5 ≤ length (drop 1 t)
  behind-room = rw length-drop (omega arith)

  pub given-length : length (appended_rows 5 as_given rs t) ≡ length t
  given-length = appended-length 5 as_given Five (λ w l r k. k) t rs behind-room (five-rows rs f (drop (word 0 t * 5) (drop 1 t))) (omega arith)

  pub given-then : (qs : List (List ℕ)) → appended_rows 5 as_given (rs ++ qs) t ≡ appended_rows 5 as_given qs (appended_rows 5 as_given rs t)
  given-then qs = appended_then 5 as_given Five (λ w l r k. k) t rs behind-room (five-rows rs f (drop (word 0 t * 5) (drop 1 t))) qs

-- a new first piece, if there is one
abbrev pub firsts : List ℕ → List ℕ → ℕ → List ℕ → List (List ℕ)
firsts pieces lines j w = cond (eqb (word (j * 3 + 1) pieces) (word (j * 3) pieces)) [] (first_piece_row pieces lines j w ∷ [])

module _ (pieces lines : List ℕ) (j : ℕ) (w : List ℕ) where
  firsts-five : Fives (firsts pieces lines j w)
  firsts-five = go (eqb (word (j * 3 + 1) pieces) (word (j * 3) pieces))
    where
      go : (b : Bool) → Fives (cond b [] (first_piece_row pieces lines j w ∷ []))
      go true = unfold Fives in tt
      go false = unfold Fives in (refl, tt)

  pub new-five : Fives (new_row pieces lines j w)
  new-five = fives_append (firsts pieces lines j w) (second_piece_row pieces lines j w ∷ []) firsts-five (unfold Fives in (refl, tt))

  pub new-length : length (new_row pieces lines j w) ≡ length (firsts pieces lines j w) + 1
  new-length = length-append (firsts pieces lines j w) (second_piece_row pieces lines j w ∷ [])

-- one boundary's
module _ (pieces lines : List ℕ) (j : ℕ) (t : List ℕ) (x : ℕ) (room : 1 + (word 0 t + length (new_row pieces lines j (row_at 5 t x))) * 5 ≤ length t) where
  abbrev row : List ℕ
  row = row_at 5 t x

  abbrev kind : ℕ
  kind = word (1 + x * 5 + 1) t

  abbrev attributes : ℕ
  attributes = word (1 + x * 5 + 4) t

  field : (k : ℕ) → k < 5 → word (1 + x * 5 + k) t ≡ word k row
  field k l = sym (get_or-take 5 (drop (1 + x * 5) t) k 0 l ∙ get_or-drop (1 + x * 5) t k 0)

  first_read : boundary_row (word (j * 3 + 1) pieces) kind (word (j * 3) lines) (word (j * 3 + 1) lines) attributes ≡ first_piece_row pieces lines j row
  first_read = rw (field 1 (omega arith), field 4 (omega arith))

  second-read : boundary_row (word (j * 3 + 2) pieces) kind (word (j * 3) lines + word (j * 3 + 1) lines) (word (j * 3 + 2) lines) attributes ≡ second_piece_row pieces lines j row
  second-read = rw (field 1 (omega arith), field 4 (omega arith))

  first-room : 1 + (word 0 t + length (firsts pieces lines j row)) * 5 ≤ length t
  first-room = omega (arith, new-length pieces lines j row)

  pub first-new : (word (j * 3 + 1) pieces ≡ word (j * 3) pieces → ⊥) → 1 + (word 0 t + 1) * 5 ≤ length t
  first-new n =
      let e : length (firsts pieces lines j row) ≡ 1 = ap (λ b. length (cond b [] (first_piece_row pieces lines j row ∷ []))) (ne_eqb (word (j * 3 + 1) pieces) (word (j * 3) pieces) n) in
      omega (arith, first-room)

  module _ (u : List ℕ) where
    pub begun-on : (word (j * 3 + 1) pieces ≡ word (j * 3) pieces → ⊥)
        → u ≡ appended_rows 5 as_given (boundary_row (word (j * 3 + 1) pieces) kind (word (j * 3) lines) (word (j * 3 + 1) lines) attributes ∷ []) t
        → u ≡ appended_rows 5 as_given (firsts pieces lines j row) t
    begun-on n e =
        e
        ∙ (ap (λ r. appended_rows 5 as_given (r ∷ []) t) first_read
        ∙ sym (ap (λ b. appended_rows 5 as_given (cond b [] (first_piece_row pieces lines j row ∷ [])) t) (ne_eqb (word (j * 3 + 1) pieces) (word (j * 3) pieces) n)))

    pub begun-off : word (j * 3 + 1) pieces ≡ word (j * 3) pieces → u ≡ t → u ≡ appended_rows 5 as_given (firsts pieces lines j row) t
    begun-off n e =
        e
        ∙ sym
        (ap (λ b. appended_rows 5 as_given (cond b [] (first_piece_row pieces lines j row ∷ [])) t) (eq-eqb (word (j * 3 + 1) pieces) (word (j * 3) pieces) n)
        ∙ appended-none 5 as_given t (omega arith))

    module _ (e : u ≡ appended_rows 5 as_given (firsts pieces lines j row) t) where
      pub begun-long : length u ≡ length t
      begun-long = ap length e ∙ given-length t (firsts pieces lines j row) (firsts-five pieces lines j row) first-room

      pub second-room : 1 + (word 0 u + 1) * 5 ≤ length u
      second-room =
          let c : word 0 u ≡ word 0 t + length (firsts pieces lines j row) = ap (word 0) e ∙ appended-count 5 as_given (firsts pieces lines j row) t in
          omega (arith, begun-long, new-length pieces lines j row)

      pub row-added : (z : List ℕ)
          → z ≡ appended_rows 5 as_given (boundary_row (word (j * 3 + 2) pieces) kind (word (j * 3) lines + word (j * 3 + 1) lines) (word (j * 3 + 2) lines) attributes ∷ []) u
          → z ≡ appended_rows 5 as_given (new_row pieces lines j row) t
      row-added z q =
          q
          ∙ (ap (λ r. appended_rows 5 as_given (r ∷ []) u) second-read
          ∙ (ap (appended_rows 5 as_given (second_piece_row pieces lines j row ∷ [])) e
          ∙ sym (given-then t (firsts pieces lines j row) (firsts-five pieces lines j row) first-room (second_piece_row pieces lines j row ∷ []))))

pub line-near : (lines : List ℕ) → all (λ i. leb i 4194304) lines ≡ true → (i : ℕ) → i < length lines → word i lines ≤ 4194304
line-near lines a i l = leb-true (word i lines) 4194304 (all_get_d (λ n. leb n 4194304) lines i 0 l a)
