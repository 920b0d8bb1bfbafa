-- Points after a split: pieces that are short enough, and sums over rows of which the marked ones are numbered. Assumes nothing.
use mathlib.Core.Path.{◌≡◌, refl, sym, ap, ◌∙◌}
use Prim.Native.Nat.{ℕ, zero, suc, ◌+◌, ◌*◌, ◌/◌, ◌≤◌, ◌<◌}
use native.Mathlib.Numerals.{add-one}
use native.Mathlib.Omega.{arith}
use mathlib.Core.Bool.{Bool, true, false, not, ◌&&◌, cond}
use mathlib.Core.List.{List, [], ◌∷◌, ◌++◌}
use lib.Dec.{eqb, leb}
use lib.ListN.{length, get_or, take, drop, length-append, drop_of_length-le}
use lib.Seq.{drop-cons, drop-drop, get_or-take, length-take-le}
use borrow.Author.Tests.{eq-eqb, ne_eqb, leb-true, le-leb}
use Rattle.lists.specs.Every.{all}
use Rattle.lists.proofs.Every.{all_head, all_tail}
use Rattle.lists.proofs.Rows.{length-reads, get_d_reads}
use Rattle.tables.specs.View.{word, rows}
use Rattle.tables.specs.Formed.{counted}
use Rattle.row_tests.specs.Good.{all_rows}
use Rattle.row_tests.proofs.Tables.{table-some, table-few, table-room, row_room}
use Rattle.lookup.specs.Lookup.{row_at, all_short}
use Rattle.lookup.proofs.Laws.{word_in, row-passes}
use Rattle.split_plan.specs.Placing.{picked}
use Rattle.split_plan.proofs.Marked.{picked_none, pick-one, pick-none, pick-rest}
use Rattle.split_room.proofs.Places.{not-true, not-false}
use Rattle.split_room.specs.Fitting.{pieces_fit, both_points, kept_points, boundary_points, center_points, lane_points, PointsOf, CentersOf}

-- ---- pieces

both-then : (x y z b : Bool) → b ≡ (x && y) → (x && (y && z)) ≡ (b && z)
both-then true y z b e = rw e
both-then false y z b e = rw e

-- one line before those that are left
fit-behind : (x y z : ℕ) (w : List ℕ) (j n : ℕ) → pieces_fit (x ∷ y ∷ z ∷ w) (suc j) n ≡ pieces_fit w j n
unfolding pieces_fit
fit-behind x y z w j zero = refl
fit-behind x y z w j (suc n) =
    let d : suc j * 3 + 1 ≡ suc (suc (suc (j * 3 + 1))) = omega arith in
    let e : suc j * 3 + 2 ≡ suc (suc (suc (j * 3 + 2))) = omega arith in
    rw (d, e, fit-behind x y z w (suc j) n)

fit-first : (line rest : List ℕ) → length line ≡ 3 → (b : Bool) → b ≡ (leb (get_or line 1 0) 256 && leb (get_or line 2 0) 256) → pieces_fit (line ++ rest) 0 (length (line ++ rest) / 3) ≡ (b && pieces_fit rest 0 (length rest / 3))
unfolding pieces_fit
fit-first (x ∷ y ∷ z ∷ []) rest h b e =
    let n : length (x ∷ y ∷ z ∷ rest) / 3 ≡ suc (length rest / 3) = omega arith in
    rw (n, fit-behind x y z rest 0 (length rest / 3)) (both-then (leb y 256) (leb z 256) (pieces_fit rest 0 (length rest / 3)) b e)
fit-first [] rest h b e = absurd (omega arith)
fit-first (x ∷ []) rest h b e = absurd (omega arith)
fit-first (x ∷ y ∷ []) rest h b e = absurd (omega arith)
fit-first (x ∷ y ∷ z ∷ u ∷ us) rest h b e = absurd (omega arith)

module _ (w : List ℕ) where
  pub fit-ends : length w < 3 → pieces_fit w 0 (length w / 3) ≡ true
  unfolding pieces_fit
  fit-ends h = let e : length w / 3 ≡ 0 = omega arith in rw e

  module _ (line rest : List ℕ) (f : w ≡ line ++ rest) (h : length line ≡ 3) (b : Bool) (e : b ≡ (leb (get_or line 1 0) 256 && leb (get_or line 2 0) 256)) where
    pub fit-stops : not b ≡ true → pieces_fit w 0 (length w / 3) ≡ false
    fit-stops q = rw f (fit-first line rest h b e ∙ rw (not-true b q))

    pub fit-goes-on : not b ≡ false → pieces_fit w 0 (length w / 3) ≡ pieces_fit rest 0 (length rest / 3)
    fit-goes-on q = rw f (fit-first line rest h b e ∙ rw (not-false b q))

-- the first n lines, lent as their part
fit-front : (lines : List ℕ) (m j n : ℕ) → (j + n) * 3 ≤ m → pieces_fit (take m lines) j n ≡ pieces_fit lines j n
unfolding pieces_fit
fit-front lines m j zero h = refl
fit-front lines m j (suc n) h =
    let d : j * 3 + 1 < m = omega arith in
    let e : j * 3 + 2 < m = omega arith in
    rw (get_or-take m lines (j * 3 + 1) 0 d, get_or-take m lines (j * 3 + 2) 0 e, fit-front lines m (suc j) n (omega arith))

pub fit-part : (lines : List ℕ) (n : ℕ) → n * 3 ≤ length lines → pieces_fit (take (n * 3) lines) 0 (length (take (n * 3) lines) / 3) ≡ pieces_fit lines 0 n
fit-part lines n h =
    let e : length (take (n * 3) lines) / 3 ≡ n = omega (arith, length-take-le (n * 3) lines h) in
    rw e (fit-front lines (n * 3) 0 n (omega arith))

-- ---- a sum over rows: a marked one counts by its number among the marked, another by itself

unfoldable pub summed : (ℕ → List ℕ → ℕ) → (List ℕ → ℕ) → ℕ → List Bool → List (List ℕ) → ℕ
summed f g j [] ws = 0
summed f g j (b ∷ bs) [] = 0
summed f g j (b ∷ bs) (w ∷ ws) = cond b (f j w + summed f g (suc j) bs ws) (g w + summed f g j bs ws)

pub boundary-sum : (pieces lines : List ℕ) (j : ℕ) (bs : List Bool) (ws : List (List ℕ)) → boundary_points pieces lines j bs ws ≡ summed (λ k w. kept_points pieces k w + both_points lines k) (word 3) j bs ws
unfolding boundary_points summed
boundary-sum pieces lines j [] ws = refl
boundary-sum pieces lines j (b ∷ bs) [] = refl
boundary-sum pieces lines j (b ∷ bs) (w ∷ ws) = rw (boundary-sum pieces lines (suc j) bs ws, boundary-sum pieces lines j bs ws)

pub lane-sum : (centers : List ℕ) (j : ℕ) (bs : List Bool) (ws : List (List ℕ)) → lane_points centers j bs ws ≡ summed (λ k w. both_points centers k) center_points j bs ws
unfolding lane_points summed
lane-sum centers j [] ws = refl
lane-sum centers j (b ∷ bs) [] = refl
lane-sum centers j (b ∷ bs) (w ∷ ws) = rw (lane-sum centers (suc j) bs ws, lane-sum centers j bs ws)

module _ (s : ℕ) (f : ℕ → List ℕ → ℕ) (g : List ℕ → ℕ) (marks : List Bool) (t : List ℕ) (most : ℕ) where
  abbrev every_row : List (List ℕ)
  every_row = rows s (λ (w : List ℕ). w) t

  -- of the rows before number i, j are marked and all count `points`
  pub record Summed (i j points : ℕ) : Type 0 where
    pub inside : i ≤ word 0 t
    pub below : j ≤ i
    pub number : j ≡ length (picked marks (take i every_row))
    pub whole : summed f g 0 marks every_row ≡ points + summed f g j (drop i marks) (drop i every_row)
    pub few : points ≤ i * most

  rows_long : length every_row ≡ word 0 t
  unfolding rows
  rows_long = length-reads s (λ (w : List ℕ). w) (word 0 t) (drop 1 t)

  pub sum-begins : Summed 0 0 0
  sum-begins = record { inside = omega arith; below = omega arith; number = rw (picked_none marks); whole = omega arith; few = omega arith }

  module _ (i j points : ℕ) (h : Summed i j points) where
    pub sum-ends : word 0 t ≤ i → points ≡ summed f g 0 marks every_row
    unfolding summed
    sum-ends l =
        let m : length every_row ≤ i = omega (arith, rows_long) in
        let n : summed f g j (drop i marks) (drop i every_row) ≡ 0 = rw (drop_of_length-le every_row m) (go (drop i marks)) in
        omega (arith, h.whole)
      where
        go : (bs : List Bool) → summed f g j bs [] ≡ 0
        go [] = refl
        go (b ∷ bs) = refl

    module _ (l : i < word 0 t) (c : word 0 t ≤ length marks) where
      within : i < length every_row
      within = omega (arith, rows_long)

      row_is : get_or every_row i [] ≡ row_at s t i
      unfolding rows
      row_is = get_d_reads s (λ (w : List ℕ). w) (word 0 t) i (drop 1 t) [] l ∙ rw drop-drop

      step : summed f g j (drop i marks) (drop i every_row)
          ≡ cond (get_or marks i false) (f j (row_at s t i) + summed f g (suc j) (drop (suc i) marks) (drop (suc i) every_row)) (g (row_at s t i) + summed f g j (drop (suc i) marks) (drop (suc i) every_row))
      unfolding summed
      step = rw (drop-cons marks i false (omega arith), drop-cons every_row i [] within, row_is)

      module _ (m : get_or marks i false ≡ true) where
        pub number-room : j + 1 ≤ length (picked marks every_row)
        number-room =
            let rest = picked (drop (i + 1) marks) (drop (i + 1) every_row) in
            omega (arith, h.number, ap length (pick-rest marks every_row i [] within (omega arith) m), length-append (picked marks (take i every_row)) (get_or every_row i [] ∷ rest))

        pub sum_one : (y z : ℕ) → y ≡ j + 1 → z ≡ points + f j (row_at s t i) → f j (row_at s t i) ≤ most → Summed (i + 1) y z
        sum_one y z a b d =
            let o : y ≡ suc j = omega arith in
            let e : summed f g j (drop i marks) (drop i every_row) ≡ f j (row_at s t i) + summed f g y (drop (i + 1) marks) (drop (i + 1) every_row) = rw (add-one i, o) (step ∙ rw m) in
            let n : length (picked marks (take (i + 1) every_row)) ≡ length (picked marks (take i every_row)) + 1 =
            ap length (pick-one marks every_row i [] within (omega arith) m) ∙ length-append (picked marks (take i every_row)) (get_or every_row i [] ∷ []) in
            record { inside = omega arith; below = omega (arith, h.below); number = omega (arith, h.number); whole = omega (arith, h.whole); few = omega (arith, h.few) }

      pub sum-none : get_or marks i false ≡ false → (y z : ℕ) → y ≡ j → z ≡ points + g (row_at s t i) → g (row_at s t i) ≤ most → Summed (i + 1) y z
      sum-none m y z a b d =
          let e : summed f g j (drop i marks) (drop i every_row) ≡ g (row_at s t i) + summed f g y (drop (i + 1) marks) (drop (i + 1) every_row) = rw (add-one i, a) (step ∙ rw m) in
          let n = ap length (pick-none marks every_row i [] within (omega arith) m) in
          record { inside = omega arith; below = omega (arith, h.below); number = omega (arith, h.number); whole = omega (arith, h.whole); few = omega (arith, h.few) }

near-at : (l : List ℕ) (k : ℕ) → all (λ i. leb i 4194304) l ≡ true → get_or l k 0 ≤ 4194304
near-at [] k h = omega arith
near-at (x ∷ l) zero h = leb-true x 4194304 (all_head (λ i. leb i 4194304) x l h)
near-at (x ∷ l) (suc k) h = near-at l k (all_tail (λ i. leb i 4194304) x l h)

-- ---- boundaries

module _ (pieces lines : List ℕ) (marks : List Bool) (t : List ℕ) where
  abbrev pub Bounds : ℕ → ℕ → ℕ → Type 0
  Bounds = Summed 5 (λ k w. kept_points pieces k w + both_points lines k) (word 3) marks t 8388864

  pub bounds-begin : Bounds 0 0 0
  bounds-begin = sum-begins 5 (λ k w. kept_points pieces k w + both_points lines k) (word 3) marks t 8388864

  module _ (h : PointsOf pieces lines marks t) where
    pub bounds-some : 1 ≤ length t
    bounds-some = table-some 4096 5 t h.counts

    module _ (i j points : ℕ) (s : Bounds i j points) where
      pub bounds-end : word 0 t ≤ i → (points ≡ boundary_points pieces lines 0 marks (rows 5 (λ w. w) t)) × (points ≤ 68719476736)
      bounds-end l = (
        sum-ends 5 (λ k w. kept_points pieces k w + both_points lines k) (word 3) marks t 8388864 i j points s l ∙ sym (boundary-sum pieces lines 0 marks (rows 5 (λ w. w) t)),
        omega (arith, s.few, s.inside, table-few 4096 5 t h.counts),
      )

      module _ (l : i < word 0 t) where
        pub bounds-few : (i < 4096) × ((points ≤ 34352398080) × (j < 4096))
        bounds-few = let n = table-few 4096 5 t h.counts in (omega arith, (omega (arith, s.few), omega (arith, s.below)))

        pub bounds-row : 1 + i * 5 + 5 ≤ length t
        bounds-row = row_room 4096 5 t h.counts i l

        size_is : get_or t (1 + i * 5 + 3) 0 ≡ word 3 (row_at 5 t i)
        size_is = word_in 5 t i 3 (omega arith)

        pub size_few : get_or t (1 + i * 5 + 3) 0 ≤ 256
        unfolding all_short
        size_few = omega (arith, size_is, leb-true (word 3 (row_at 5 t i)) 256 (row-passes 5 (λ w. leb (word 3 w) 256) t h.short i l))

        pub line-few : (k : ℕ) → get_or lines k 0 ≤ 4194304
        line-few k = near-at lines k h.near

        -- a cut one keeps its points where its first piece has a new id
        module _ (q : ℕ) where
          pub kept-own : (get_or pieces (j * 3 + 1) 0 ≡ get_or pieces (j * 3) 0 → ⊥) → q ≡ points + get_or t (1 + i * 5 + 3) 0 → q ≡ points + kept_points pieces j (row_at 5 t i)
          kept-own n e = rw (ne_eqb (get_or pieces (j * 3 + 1) 0) (get_or pieces (j * 3) 0) n) (omega (arith, size_is))

          pub kept-none : get_or pieces (j * 3 + 1) 0 ≡ get_or pieces (j * 3) 0 → q ≡ points → q ≡ points + kept_points pieces j (row_at 5 t i)
          kept-none n e = rw (eq-eqb (get_or pieces (j * 3 + 1) 0) (get_or pieces (j * 3) 0) n) (omega arith)

        kept-few : kept_points pieces j (row_at 5 t i) ≤ 256
        kept-few = go (eqb (get_or pieces (j * 3 + 1) 0) (get_or pieces (j * 3) 0))
          where
            go : (b : Bool) → cond b 0 (word 3 (row_at 5 t i)) ≤ 256
            go true = omega arith
            go false = omega (arith, size_is, size_few)

        module _ (m : get_or marks i false ≡ true) where
          pub number-rooms : (j * 3 + 3 ≤ length pieces) × (j * 3 + 3 ≤ length lines)
          number-rooms =
              let n = number-room 5 (λ k w. kept_points pieces k w + both_points lines k) (word 3) marks t 8388864 i j points s l h.marks_there m in
              (omega (arith, h.pieces_room), omega (arith, h.lines_room))

          pub bounds-one : (q y z : ℕ) → q ≡ points + kept_points pieces j (row_at 5 t i) → y ≡ j + 1 → z ≡ q + (get_or lines (j * 3 + 1) 0 + get_or lines (j * 3 + 2) 0) → Bounds (i + 1) y z
          bounds-one q y z e a b =
              sum_one 5 (λ k w. kept_points pieces k w + both_points lines k) (word 3) marks t 8388864 i j points s l h.marks_there m y z a (omega arith)
              (omega (arith, kept-few, line-few (j * 3 + 1), line-few (j * 3 + 2)))

        pub bounds-none : get_or marks i false ≡ false → (y z : ℕ) → y ≡ j → z ≡ points + get_or t (1 + i * 5 + 3) 0 → Bounds (i + 1) y z
        bounds-none m y z a b =
            sum-none 5 (λ k w. kept_points pieces k w + both_points lines k) (word 3) marks t 8388864 i j points s l h.marks_there m y z a (omega (arith, size_is)) (omega (arith, size_is, size_few))

-- ---- explicit centrelines

module _ (t : List ℕ) (i : ℕ) where
  pub center_none : get_or t (1 + i * 52 + 6) 0 ≡ 0 → 0 ≡ center_points (row_at 52 t i)
  center_none e = rw (eq-eqb (word 6 (row_at 52 t i)) 0 (sym (word_in 52 t i 6 (omega arith)) ∙ e))

  pub center_some : (get_or t (1 + i * 52 + 6) 0 ≡ 0 → ⊥) → get_or t (1 + i * 52 + 8) 0 ≡ center_points (row_at 52 t i)
  center_some e = rw (ne_eqb (word 6 (row_at 52 t i)) 0 (λ q. e (word_in 52 t i 6 (omega arith) ∙ q))) (word_in 52 t i 8 (omega arith))

module _ (centers : List ℕ) (seen : List Bool) (t : List ℕ) where
  abbrev pub Between : ℕ → ℕ → ℕ → Type 0
  Between = Summed 52 (λ k w. both_points centers k) center_points seen t 8388608

  pub between-begin : Between 0 0 0
  between-begin = sum-begins 52 (λ k w. both_points centers k) center_points seen t 8388608

  module _ (h : CentersOf centers seen t) where
    pub between-some : 1 ≤ length t
    between-some = table-some 1024 52 t h.counts

    module _ (i j points : ℕ) (s : Between i j points) where
      pub between-end : word 0 t ≤ i → (points ≡ lane_points centers 0 seen (rows 52 (λ w. w) t)) × (points ≤ 68719476736)
      between-end l = (
        sum-ends 52 (λ k w. both_points centers k) center_points seen t 8388608 i j points s l ∙ sym (lane-sum centers 0 seen (rows 52 (λ w. w) t)),
        omega (arith, s.few, s.inside, table-few 1024 52 t h.counts),
      )

      module _ (l : i < word 0 t) where
        pub between-few : (i < 1024) × ((points ≤ 8581545984) × (j < 1024))
        between-few = let n = table-few 1024 52 t h.counts in (omega arith, (omega (arith, s.few), omega (arith, s.below)))

        pub between-row : 1 + i * 52 + 52 ≤ length t
        between-row = row_room 1024 52 t h.counts i l

        pub center_few : center_points (row_at 52 t i) ≤ 256
        unfolding all_rows
        center_few = leb-true (center_points (row_at 52 t i)) 256 (row-passes 52 (λ w. leb (center_points w) 256) t h.short i l)

        pub measure-few : (k : ℕ) → get_or centers k 0 ≤ 4194304
        measure-few k = near-at centers k h.near

        module _ (m : get_or seen i false ≡ true) where
          pub centers-at : j * 3 + 3 ≤ length centers
          centers-at = omega (arith, h.centers_room, number-room 52 (λ k w. both_points centers k) center_points seen t 8388608 i j points s l h.marks_there m)

          pub between-one : (y z : ℕ) → y ≡ j + 1 → z ≡ points + (get_or centers (j * 3 + 1) 0 + get_or centers (j * 3 + 2) 0) → Between (i + 1) y z
          between-one y z a b =
              sum_one 52 (λ k w. both_points centers k) center_points seen t 8388608 i j points s l h.marks_there m y z a b (omega (arith, measure-few (j * 3 + 1), measure-few (j * 3 + 2)))

        pub between_none : get_or seen i false ≡ false → (r y z : ℕ) → r ≡ center_points (row_at 52 t i) → y ≡ j → z ≡ points + r → Between (i + 1) y z
        between_none m r y z e a b =
            sum-none 52 (λ k w. both_points centers k) center_points seen t 8388608 i j points s l h.marks_there m y z a (omega arith) (omega (arith, center_few))

-- ---- other lines

pub column-asks : (limit s k : ℕ) (t : List ℕ) → limit ≤ 4096 → k + 2 ≤ s → s ≤ 512 → counted limit s t ≡ true → all_short s k t ≡ true
    → (k + 2 ≤ s) × ((s ≤ 512) × ((counted 4096 s t ≡ true) × (all_short s k t ≡ true)))
column-asks limit s k t l a b h short =
    let some = table-some limit s t h in
    let few : word 0 t ≤ 4096 = omega (arith, table-few limit s t h) in
    let room = table-room limit s t h in
    (a, (b, (rw (le-leb 1 (length t) some, le-leb (word 0 t) 4096 few, le-leb (1 + word 0 t * s) (length t) room), short)))
