-- New rows of boundaries behind the last one, one marked boundary after the other. Assumes nothing.
use mathlib.Core.Path.{◌≡◌, refl, sym, ap, ◌∙◌}
use Prim.Native.Nat.{ℕ, suc, ◌+◌, ◌*◌, ◌≤◌, ◌<◌}
use native.Mathlib.Omega.{arith}
use mathlib.Core.Bool.{Bool, true, false, cond}
use mathlib.Core.List.{List, [], ◌∷◌, ◌++◌, append_assoc, append-nil}
use lib.Dec.{eqb, leb}
use lib.ListN.{length, get_or, take, drop, length-append}
use lib.Seq.{take_all}
use Rattle.lists.specs.Every.{all}
use Rattle.tables.specs.View.{word, rows}
use Rattle.row_tests.proofs.Tables.{table-room}
use Rattle.lookup.specs.Lookup.{row_at}
use Rattle.store.specs.Rows.{on_rows, appended_rows}
use Rattle.store.proofs.Growing.{appended-count, appended-none}
use Rattle.merge_draw.specs.Redrawing.{as_given}
use Rattle.split_plan.specs.Placing.{picked}
use Rattle.split_plan.proofs.Marked.{picked_none, pick-one, pick-none, pick-rest}
use Rattle.split_tables.specs.Cut.{pointed_piece, first_piece_row, second_piece_row, new_row, new_rows, pieces_added, boundaries_cut, BoundariesCut}
use Rattle.split_tables.proofs.Behind.{appended-row, read-row, rows-many, picked-many}
use Rattle.split_tables.proofs.Pieces.{Fives, fives_append, new-five, given-then}

module _ (pieces lines : List ℕ) where
  -- the rows of two lists of boundaries
  new-append : (j : ℕ) (ws vs : List (List ℕ)) → new_rows pieces lines j (ws ++ vs) ≡ new_rows pieces lines j ws ++ new_rows pieces lines (j + length ws) vs
  unfolding new_rows
  new-append j [] vs = let e : j + 0 ≡ j = omega arith in rw e
  new-append j (w ∷ ws) vs =
      let e : suc j + length ws ≡ j + suc (length ws) = omega arith in
      ap (λ z. new_row pieces lines j w ++ z) (new-append (suc j) ws vs ∙ ap (λ k. new_rows pieces lines (suc j) ws ++ new_rows pieces lines k vs) e)
      ∙ sym (append_assoc (new_row pieces lines j w) (new_rows pieces lines (suc j) ws) (new_rows pieces lines (j + suc (length ws)) vs))

  new-one : (j : ℕ) (w : List ℕ) → new_rows pieces lines j (w ∷ []) ≡ new_row pieces lines j w
  unfolding new_rows
  new-one j w = append-nil (new_row pieces lines j w)

  new_fives : (j : ℕ) (ws : List (List ℕ)) → Fives (new_rows pieces lines j ws)
  unfolding new_rows Fives
  new_fives j [] = tt
  new_fives j (w ∷ ws) = fives_append (new_row pieces lines j w) (new_rows pieces lines (suc j) ws) (new-five pieces lines j w) (new_fives (suc j) ws)

  -- how many there are is told by how many boundaries there are
  row-many : (j : ℕ) (v w : List ℕ) → length (new_row pieces lines j v) ≡ length (new_row pieces lines j w)
  row-many j v w = go (eqb (word (j * 3 + 1) pieces) (word (j * 3) pieces))
    where
      go : (b : Bool) → length (cond b [] (first_piece_row pieces lines j v ∷ []) ++ (second_piece_row pieces lines j v ∷ [])) ≡ length (cond b [] (first_piece_row pieces lines j w ∷ []) ++ (second_piece_row pieces lines j w ∷ []))
      go true = refl
      go false = refl

  new-many : (j : ℕ) (vs ws : List (List ℕ)) → length vs ≡ length ws → length (new_rows pieces lines j vs) ≡ length (new_rows pieces lines j ws)
  unfolding new_rows
  new-many j [] [] e = refl
  new-many j [] (w ∷ ws) e = absurd (omega arith)
  new-many j (v ∷ vs) [] e = absurd (omega arith)
  new-many j (v ∷ vs) (w ∷ ws) e =
      let a = new-many (suc j) vs ws (omega arith) in
      omega (arith, a, row-many j v w, length-append (new_row pieces lines j v) (new_rows pieces lines (suc j) vs), length-append (new_row pieces lines j w) (new_rows pieces lines (suc j) ws))

-- ---- the loop

-- the marked boundaries before row x
abbrev marked : List Bool → List ℕ → ℕ → List (List ℕ)
marked marks t₀ x = picked marks (take x (rows 5 (λ w. w) t₀))

-- their new rows are there
pub record Added (pieces lines : List ℕ) (marks : List Bool) (t₀ t : List ℕ) (j x : ℕ) : Type 0 where
  pub upto : x ≤ word 0 t₀
  pub many : j ≡ length (marked marks t₀ x)
  pub long : length t ≡ length t₀
  pub words : t ≡ appended_rows 5 as_given (new_rows pieces lines 0 (marked marks t₀ x)) t₀

module _ (pieces : List ℕ) (m : ℕ) (lines : List ℕ) (marks : List Bool) (t₀ : List ℕ) (f : BoundariesCut pieces m lines marks t₀) where
  abbrev every : List (List ℕ)
  every = rows 5 (λ w. w) t₀

  abbrev before : ℕ → List (List ℕ)
  before x = marked marks t₀ x

  room₀ : 1 + word 0 t₀ * 5 ≤ length t₀
  room₀ = table-room 4096 5 t₀ f.counts

  pub added_none : Added pieces lines marks t₀ t₀ 0 0
  added_none =
      let e : before 0 ≡ [] = picked_none marks in
      record {
        upto = omega arith;
        many = rw e;
        long = refl;
        words = rw e (unfold new_rows in sym (appended-none 5 as_given t₀ (omega (arith, room₀))));
      }

  module _ (t : List ℕ) (j x : ℕ) (a : Added pieces lines marks t₀ t j x) where
    module _ (l : x < word 0 t₀) where
      short : x < length every
      short = omega (arith, rows-many 5 t₀)

      pub mark-there : x < length marks
      mark-there = omega (arith, f.marked)

      pub added-skip : get_or marks x false ≡ false → (v : List ℕ) (k : ℕ) → v ≡ t → k ≡ j → Added pieces lines marks t₀ v k (x + 1)
      added-skip q v k p o =
          let e : before (x + 1) ≡ before x = pick-none marks every x [] short mark-there q in
          record { upto = omega arith; many = rw e (o ∙ a.many); long = ap length p ∙ a.long; words = rw e (p ∙ a.words) }

      module _ (q : get_or marks x false ≡ true) where
        -- those behind it
        abbrev after : List (List ℕ)
        after = picked (drop (x + 1) marks) (drop (x + 1) every)

        abbrev row₀ : List ℕ
        row₀ = row_at 5 t₀ x

        read : get_or every x [] ≡ row₀
        read = read-row 5 t₀ x l

        split : picked marks every ≡ before x ++ (row₀ ∷ after)
        split = pick-rest marks every x [] short mark-there q ∙ rw read

        step : before (x + 1) ≡ before x ++ (row₀ ∷ [])
        step = pick-one marks every x [] short mark-there q ∙ rw read

        pub added-few : j < m
        added-few = omega (arith, f.many, ap length split, length-append (before x) (row₀ ∷ after), a.many)

        new-step : new_rows pieces lines 0 (before (x + 1)) ≡ new_rows pieces lines 0 (before x) ++ new_row pieces lines j row₀
        new-step =
            let e : 0 + length (before x) ≡ j = omega (arith, a.many) in
            ap (new_rows pieces lines 0) step
            ∙ (new-append pieces lines 0 (before x) (row₀ ∷ [])
            ∙ (ap (λ k. new_rows pieces lines 0 (before x) ++ new_rows pieces lines k (row₀ ∷ [])) e ∙ ap (λ z. new_rows pieces lines 0 (before x) ++ z) (new-one pieces lines j row₀)))

        rest-rows : length (new_rows pieces lines j (row₀ ∷ after)) ≡ length (new_row pieces lines j row₀) + length (new_rows pieces lines (suc j) after)
        unfolding new_rows
        rest-rows = length-append (new_row pieces lines j row₀) (new_rows pieces lines (suc j) after)

        both : length (new_rows pieces lines 0 (before x)) + length (new_row pieces lines j row₀) ≤ length (new_rows pieces lines 0 (picked marks every))
        both =
            let e : 0 + length (before x) ≡ j = omega (arith, a.many) in
            let s : new_rows pieces lines 0 (picked marks every) ≡ new_rows pieces lines 0 (before x) ++ new_rows pieces lines j (row₀ ∷ after) =
            ap (new_rows pieces lines 0) split ∙ (new-append pieces lines 0 (before x) (row₀ ∷ after) ∙ ap (λ k. new_rows pieces lines 0 (before x) ++ new_rows pieces lines k (row₀ ∷ after)) e) in
            omega (arith, ap length s, length-append (new_rows pieces lines 0 (before x)) (new_rows pieces lines j (row₀ ∷ after)), rest-rows)

        so_far : 1 + (word 0 t₀ + length (new_rows pieces lines 0 (before x))) * 5 ≤ length t₀
        so_far = omega (arith, both, f.room)

        count : word 0 t ≡ word 0 t₀ + length (new_rows pieces lines 0 (before x))
        count = ap (word 0) a.words ∙ appended-count 5 as_given (new_rows pieces lines 0 (before x)) t₀

        same_row : row_at 5 t x ≡ row₀
        same_row = ap (λ z. row_at 5 z x) a.words ∙ appended-row 5 t₀ room₀ as_given (new_rows pieces lines 0 (before x)) x l

        pub added-asks : (x < word 0 t) × ((j * 3 + 3 ≤ length pieces) × ((j * 3 + 3 ≤ length lines) × ((all (λ i. leb i 4194304) lines ≡ true) × (1 + (word 0 t + length (new_row pieces lines j (row_at 5 t x))) * 5 ≤ length t))))
        added-asks =
            let e : length (new_row pieces lines j (row_at 5 t x)) ≡ length (new_row pieces lines j row₀) = ap (λ z. length (new_row pieces lines j z)) same_row in (
              omega (arith, count),
              (omega (arith, added-few, f.pieces_room), (omega (arith, added-few, f.lines_room), (f.lines_near, omega (arith, e, count, a.long, both, f.room)))),
            )

        pub added-turn : (v : List ℕ) (k : ℕ) → length v ≡ length t → k ≡ j + 1 → v ≡ appended_rows 5 as_given (new_row pieces lines j (row_at 5 t x)) t → Added pieces lines marks t₀ v k (x + 1)
        added-turn v k n o e =
            record {
              upto = omega arith;
              many = rw (step, length-append) (omega (arith, o, a.many));
              long = n ∙ a.long;
              words =
                  e
                  ∙ (ap (λ z. appended_rows 5 as_given (new_row pieces lines j z) t) same_row
                  ∙ (ap (appended_rows 5 as_given (new_row pieces lines j row₀)) a.words
                  ∙ (sym (given-then t₀ (new_rows pieces lines 0 (before x)) (new_fives pieces lines 0 (before x)) so_far (new_row pieces lines j row₀))
                  ∙ ap (λ z. appended_rows 5 as_given z t₀) (sym new-step))));
            }

    pub added-all : word 0 t₀ ≤ x → t ≡ pieces_added pieces lines marks t₀
    added-all l =
        let e : take x every ≡ every = take_all x every (omega (arith, rows-many 5 t₀)) in
        a.words ∙ ap (λ z. appended_rows 5 as_given (new_rows pieces lines 0 (picked marks z)) t₀) e

-- ---- rows that point to their pieces first

module _ (pieces : List ℕ) (m : ℕ) (lines : List ℕ) (marks : List Bool) (t : List ℕ) (f : BoundariesCut pieces m lines marks t) (u : List ℕ) (e : u ≡ on_rows 5 (pointed_piece pieces m lines) t) (long : length u ≡ length t) where
  pointed-count : word 0 u ≡ word 0 t
  pointed-count = ap (word 0) e ∙ (unfold on_rows in refl)

  marked-many : length (picked marks (rows 5 (λ w. w) u)) ≡ length (picked marks (rows 5 (λ w. w) t))
  marked-many = picked-many marks (rows 5 (λ w. w) u) (rows 5 (λ w. w) t) (rows-many 5 u ∙ (pointed-count ∙ sym (rows-many 5 t)))

  pub pointed-asks : BoundariesCut pieces m lines marks u
  pointed-asks =
      record {
        counts = rw (long, pointed-count) f.counts;
        marked = omega (arith, pointed-count, f.marked);
        many = marked-many ∙ f.many;
        pieces_room = f.pieces_room;
        pieces_ascend = f.pieces_ascend;
        lines_room = f.lines_room;
        lines_near = f.lines_near;
        room = omega (arith, long, pointed-count, f.room, new-many pieces lines 0 (picked marks (rows 5 (λ w. w) u)) (picked marks (rows 5 (λ w. w) t)) marked-many);
      }

  pub both-cut : (v : List ℕ) → v ≡ pieces_added pieces lines marks u → v ≡ boundaries_cut pieces m lines marks t
  unfolding boundaries_cut
  both-cut v q = q ∙ ap (pieces_added pieces lines marks) e
