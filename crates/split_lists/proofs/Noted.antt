-- Warnings of pieces, one row behind the other. Assumes nothing.
use Rattle.std.specs.Prelude.{Option, None, Some}
use mathlib.Core.Path.{◌≡◌, sym, ap, ◌∙◌}
use Prim.Native.Nat.{ℕ, zero, suc, ◌+◌, ◌-◌, ◌*◌, ◌≤◌, ◌<◌}
use native.Mathlib.Omega.{arith}
use mathlib.Core.Bool.{Bool, true, false, cond}
use mathlib.Core.List.{List, [], ◌++◌, append-nil, append_assoc}
use lib.Dec.{eqb}
use lib.ListN.{length, get_or, length-append}
use borrow.Author.Tests.{eq-eqb, ne_eqb}
use Rattle.lists.specs.Every.{all}
use Rattle.lists.proofs.Every.{all_append, all_nil}
use Rattle.entities.specs.Records.{Issue}
use Rattle.report.specs.Report.{issues, warned, warned_at}
use Rattle.report.specs.declared.Notice.{Notice}
use Rattle.report.specs.declared.Notice.TheVariants.{Pieces}
use Rattle.report.proofs.Warnings.{few, short, issues-short, none-put, warned-more, warned-whole, length-warned-at}
use Rattle.split_lists.specs.Changes.{piece_issues, pieces_issues}

-- ---- warnings from row `from` on

-- v is w with the warnings `is` from row `from` on, and `at` is the row behind them
pub record Stand (w : List ℕ) (from : ℕ) (is : List Issue) (v : List ℕ) (at : ℕ) : Type 0 where
  pub behind : at ≡ from + length is
  pub words : v ≡ warned_at from w is
  pub shorts : all short is ≡ true

pub none-noted : (w : List ℕ) (from : ℕ) → Stand w from [] w from
none-noted w from = record { behind = omega arith; words = none-put from w; shorts = all_nil short }

module _ (w : List ℕ) (from : ℕ) (is : List Issue) (v : List ℕ) (at : ℕ) (s : Stand w from is v at) where
  pub stand-long : (from + length is) * 10 ≤ length w → length v ≡ length w
  stand-long h = ap length s.words ∙ length-warned-at from w is s.shorts h

  module _ (js : List Issue) (room : (from + (length is + length js)) * 10 ≤ length w) where
    pub note-room : (at + length js) * 10 ≤ length v
    note-room = omega (arith, s.behind, stand-long (omega arith))

    pub note-more : all short js ≡ true → (m : ℕ) (u : List ℕ) → m ≡ at + length js → u ≡ warned_at at v js → Stand w from (is ++ js) u m
    note-more a m u e f =
        record {
          behind = omega (arith, s.behind, length-append is js);
          words = f ∙ ap (λ k. warned_at k v js) s.behind ∙ ap (λ z. warned_at (from + length is) z js) s.words ∙ warned-more from w is s.shorts (omega arith) js;
          shorts = all_append short is js s.shorts a;
        }

-- ---- one piece

module _ (pieces : List ℕ) (j : ℕ) where
  pub piece-kept : get_or pieces (j * 3 + 1) 0 ≡ get_or pieces (j * 3) 0 → issues None ≡ piece_issues pieces j
  piece-kept e = rw (eq-eqb (get_or pieces (j * 3 + 1) 0) (get_or pieces (j * 3) 0) e)

  pub piece-new : (get_or pieces (j * 3 + 1) 0 ≡ get_or pieces (j * 3) 0 → ⊥)
      → issues (Some (Pieces (get_or pieces (j * 3) 0) (get_or pieces (j * 3 + 1) 0) (get_or pieces (j * 3 + 2) 0))) ≡ piece_issues pieces j
  piece-new e = rw (ne_eqb (get_or pieces (j * 3 + 1) 0) (get_or pieces (j * 3) 0) e)

-- its words
pub piece-at : (m j : ℕ) → j < m → {n : ℕ} → m * 3 ≤ n → j * 3 + 3 ≤ n
piece-at m j l h = omega arith

-- ---- all of them

module _ (pieces : List ℕ) where
  pieces-add : (k n : ℕ) → pieces_issues pieces k (suc n) ≡ pieces_issues pieces k n ++ piece_issues pieces (k + n)
  unfolding pieces_issues
  pieces-add k zero = let e : k + 0 ≡ k = omega arith in rw e (append-nil (piece_issues pieces k))
  pieces-add k (suc n) =
      let e : suc k + n ≡ k + suc n = omega arith in
      ap (λ (is : List Issue). piece_issues pieces k ++ is) (pieces-add (suc k) n ∙ rw e) ∙ sym (append_assoc (piece_issues pieces k) (pieces_issues pieces (suc k) n) (piece_issues pieces (k + suc n)))

  pub pieces_more : (j : ℕ) → pieces_issues pieces 0 (j + 1) ≡ pieces_issues pieces 0 j ++ piece_issues pieces j
  pieces_more j =
      let e : j + 1 ≡ suc j = omega arith in
      let z : 0 + j ≡ j = omega arith in
      rw e (pieces-add 0 j ∙ rw z)

  pieces-grow : (j d : ℕ) → length (pieces_issues pieces 0 j) ≤ length (pieces_issues pieces 0 (j + d))
  pieces-grow j zero = let e : j + 0 ≡ j = omega arith in rw e (omega arith)
  pieces-grow j (suc d) =
      let e : j + suc d ≡ j + d + 1 = omega arith in
      rw e (omega (arith, pieces-grow j d, ap length (pieces_more (j + d)), length-append (pieces_issues pieces 0 (j + d)) (piece_issues pieces (j + d))))

  -- those of the first pieces, and the next one's, are no more than all
  pub pieces_room : (j m : ℕ) → j < m → length (pieces_issues pieces 0 j) + length (piece_issues pieces j) ≤ length (pieces_issues pieces 0 m)
  pieces_room j m l =
      let e : j + 1 + (m - (j + 1)) ≡ m = omega arith in
      let g : length (pieces_issues pieces 0 (j + 1)) ≤ length (pieces_issues pieces 0 m) = rw e at (pieces-grow (j + 1) (m - (j + 1))) in
      omega (arith, ap length (pieces_more j), length-append (pieces_issues pieces 0 j) (piece_issues pieces j))

  piece-short : (j : ℕ) → all short (piece_issues pieces j) ≡ true
  piece-short j = go (eqb (get_or pieces (j * 3 + 1) 0) (get_or pieces (j * 3) 0))
    where
      go : (b : Bool) → all short (cond b [] (issues (Some (Pieces (get_or pieces (j * 3) 0) (get_or pieces (j * 3 + 1) 0) (get_or pieces (j * 3 + 2) 0))))) ≡ true
      go true = all_nil short
      go false = issues-short (Some (Pieces (get_or pieces (j * 3) 0) (get_or pieces (j * 3 + 1) 0) (get_or pieces (j * 3 + 2) 0)))

  -- counted
  pub count-piece : (j count : ℕ) → count ≡ length (pieces_issues pieces 0 j) → count ≤ j → (n : Option Notice) → issues n ≡ piece_issues pieces j → (r : ℕ) → r ≡ length (issues n)
      → (count + r ≤ j + 1) × (count + r ≡ length (pieces_issues pieces 0 (j + 1)))
  count-piece j count h f n e r g =
      (omega (arith, few n), omega (arith, ap length e, ap length (pieces_more j), length-append (pieces_issues pieces 0 j) (piece_issues pieces j)))

  -- written
  module _ (w : List ℕ) (m : ℕ) (room : length (pieces_issues pieces 0 m) * 10 ≤ length w) (j : ℕ) (v : List ℕ) (at : ℕ) (s : Stand w 0 (pieces_issues pieces 0 j) v at) (l : j < m) (n : Option Notice) (e : issues n ≡ piece_issues pieces j) where
    pub piece-room : (at + length (issues n)) * 10 ≤ length v
    piece-room = note-room w 0 (pieces_issues pieces 0 j) v at s (issues n) (omega (arith, ap length e, pieces_room j m l))

    pub piece-noted : (z : ℕ) (u : List ℕ) → z ≡ at + length (issues n) → u ≡ warned_at at v (issues n) → Stand w 0 (pieces_issues pieces 0 (j + 1)) u z
    piece-noted z u a b =
        rw (pieces_more j, ← e) (note-more w 0 (pieces_issues pieces 0 j) v at s (issues n) (omega (arith, ap length e, pieces_room j m l)) (issues-short n) z u a b)

  pub pieces-done : (w : List ℕ) (m : ℕ) → length (pieces_issues pieces 0 m) * 10 ≤ length w → (j : ℕ) (v : List ℕ) (at : ℕ) → Stand w 0 (pieces_issues pieces 0 j) v at → j ≤ m → m ≤ j
      → ((at ≡ length (pieces_issues pieces 0 m)) × (v ≡ warned_at 0 w (pieces_issues pieces 0 m))) × (length v ≡ length w)
  pieces-done w m room j v at s a b =
      let e : j ≡ m = omega arith in
      let is = ap (pieces_issues pieces 0) e in
      let n : at ≡ length (pieces_issues pieces 0 m) = omega (arith, s.behind, ap length is) in
      ((n, s.words ∙ ap (warned_at 0 w) is), stand-long w 0 (pieces_issues pieces 0 j) v at s (omega (arith, ap length is)))

  pieces-short : (k n : ℕ) → all short (pieces_issues pieces k n) ≡ true
  unfolding pieces_issues
  pieces-short k zero = all_nil short
  pieces-short k (suc n) = all_append short (piece_issues pieces k) (pieces_issues pieces (suc k) n) (piece-short k) (pieces-short (suc k) n)

  -- those of the pieces, and others behind them
  module _ (m : ℕ) (js : List Issue) (w : List ℕ) (room : length (pieces_issues pieces 0 m ++ js) * 10 ≤ length w) where
    both-count : length (pieces_issues pieces 0 m ++ js) ≡ length (pieces_issues pieces 0 m) + length js
    both-count = length-append (pieces_issues pieces 0 m) js

    pub pieces-fit : length (pieces_issues pieces 0 m) * 10 ≤ length w
    pieces-fit = omega (arith, both-count)

    module _ (at : ℕ) (v : List ℕ) (e : at ≡ length (pieces_issues pieces 0 m)) (p : v ≡ warned_at 0 w (pieces_issues pieces 0 m)) where
      stands : Stand w 0 (pieces_issues pieces 0 m) v at
      stands = record { behind = omega arith; words = p; shorts = pieces-short 0 m }

      pub others-fit : (at + length js) * 10 ≤ length v
      others-fit = note-room w 0 (pieces_issues pieces 0 m) v at stands js (omega (arith, both-count))

      pub all-warned : (u : List ℕ) → u ≡ warned_at at v js → u ≡ warned w (pieces_issues pieces 0 m ++ js)
      all-warned u q =
          q ∙ ap (λ k. warned_at k v js) stands.behind ∙ ap (λ z. warned_at (0 + length (pieces_issues pieces 0 m)) z js) p
          ∙ warned-more 0 w (pieces_issues pieces 0 m) (pieces-short 0 m) (omega (arith, both-count)) js ∙ warned-whole w (pieces_issues pieces 0 m ++ js)
