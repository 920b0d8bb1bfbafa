-- The table of lanes in a merge: the second lane's row goes, and the first takes over its successors. Assumes nothing.
use mathlib.Core.Path.{◌≡◌, ap, ◌∙◌}
use mathlib.Core.Bool.{Bool, true, not, ◌&&◌}
use mathlib.Core.List.{List, [], ◌∷◌}
use Prim.Native.Nat.{ℕ, ◌+◌, ◌*◌, ◌≤◌, ◌<◌}
use native.Mathlib.Nat.{add-zero}
use native.Mathlib.Omega.{arith}
use lib.ListN.{length, get_or, take, drop, length-drop}
use lib.Seq.{drop-drop}
use Rattle.lists.specs.Every.{all}
use Rattle.lists.specs.Rows.{over}
use Rattle.lists.specs.Select.{has, ascending}
use Rattle.lists.proofs.Booleans.{and_both, and-fst, and-snd}
use Rattle.lists.proofs.Every.{all-places}
use Rattle.lists.proofs.Rows.{length-reads, get_d_reads, take-over}
use Rattle.tables.specs.View.{word, ids_at, rows}
use Rattle.tables.specs.Formed.{counted, lane_formed}
use Rattle.row_tests.proofs.Tables.{table-some, table-room}
use Rattle.row_tests.proofs.Formed.{lane-after}
use Rattle.lookup.specs.Lookup.{row_at}
use Rattle.lookup.proofs.Laws.{row-passes, word_in}
use Rattle.store.specs.Rows.{kept_rows, on_rows}
use Rattle.store.proofs.Packing.{kept-count, kept-passing, kept-length}
use Rattle.store.proofs.Lists.{ids-many}
use Rattle.merge_draw.specs.declared.Taken.{Taken}
use Rattle.merge_draw.specs.Redrawing.{LanesLinked, row_merged}
use Rattle.merge_draw.proofs.Boundaries.{row-long}
use Rattle.merge_redraw.specs.Relaying.{lanes_redrawn}
use Rattle.merge_redraw.proofs.BoundaryRows.{counts-kept}

-- a test that every row of a table passes
pub rows_pass : (s : ℕ) (good : List ℕ → Bool) (t : List ℕ) → ((j : ℕ) → j < word 0 t → good (row_at s t j) ≡ true) → all (λ b. b) (rows s good t) ≡ true
unfolding rows
rows_pass s good t h =
    all-places (λ b. b) (rows s good t) true (λ k l.
    let m : k < word 0 t = omega (arith, length-reads s good (word 0 t) (drop 1 t)) in
    get_d_reads s good (word 0 t) k (drop 1 t) true m ∙ (ap (λ w. good (take s w)) (drop-drop (k * s) 1 t) ∙ h k m))

-- ---- rows that are linked

abbrev linked : List ℕ → Bool
linked w = lane_formed w && ascending (ids_at 18 w)

module _ (t : List ℕ) (h : LanesLinked t) where
  pub lanes-room : 1 + word 0 t * 52 ≤ length t
  lanes-room = table-room 1024 52 t h.counts

  behind : word 0 t * 52 ≤ length (drop 1 t)
  behind = rw length-drop (omega (arith, lanes-room))

  -- those that stay
  linked-kept : (q : ℕ → Bool) → LanesLinked (kept_rows 52 q t)
  linked-kept q =
      let v = kept_rows 52 q t in
      let counts : counted 1024 52 v ≡ true = counts-kept 1024 52 t v h.counts (kept-count 52 q t) (kept-length 52 q t behind (table-some 1024 52 t h.counts)) in
      let all-linked = kept-passing 52 q t behind linked (rows_pass 52 linked t (λ j l. let f = h.rows j l in and_both (lane_formed (row_at 52 t j)) (ascending (ids_at 18 (row_at 52 t j))) f.1.0 f.1.1)) in
      record {
        counts = counts;
        rows =
            λ j l.
            let w = row_at 52 v j in
            let p : (lane_formed w && ascending (ids_at 18 w)) ≡ true = row-passes 52 linked v all-linked j l in
            (row-long 52 v j (table-room 1024 52 v counts) l, (and-fst (lane_formed w) (ascending (ids_at 18 w)) p, and-snd (lane_formed w) (ascending (ids_at 18 w)) p));
      }

  module _ (second : ℕ) (v : List ℕ) (e : v ≡ kept_rows 52 (λ i. not (has i (second ∷ []))) t) where
    pub linked-left : LanesLinked v
    linked-left = rw e (linked-kept (λ i. not (has i (second ∷ []))))

    pub lanes_all : (first : ℕ) (taken : Taken) (ids u : List ℕ) → u ≡ on_rows 52 (row_merged first second taken ids) v → u ≡ lanes_redrawn first second taken ids t
    unfolding lanes_redrawn
    lanes_all first taken ids u z = z ∙ ap (on_rows 52 (row_merged first second taken ids)) e

  -- the list of successors in row j
  module _ (j : ℕ) (l : j < word 0 t) where
    pub after-few : word 35 (row_at 52 t j) ≤ 16
    after-few = lane-after (row_at 52 t j) (h.rows j l).1.0

    pub after-short : length (ids_at 35 (row_at 52 t j)) ≤ 16
    after-short = omega (arith, ids-many (row_at 52 t j) 35 (omega (arith, after-few, (h.rows j l).0)), after-few)

-- ---- a list held in an array, and read back

module _ (w f held : List ℕ) (e : held ≡ over w 0 f) (room : length f ≤ length w) where
  pub held_back : take (length f) held ≡ f
  held_back =
      let z : 0 + length f ≡ length f = omega arith in
      ap (take (length f)) e ∙ rw z at (take-over w 0 f (omega arith))

  pub followed : (t : List ℕ) (i j : ℕ) (taken : Taken) → f ≡ ids_at 35 (row_at 52 t j) → (v : List ℕ)
      → v ≡ lanes_redrawn (get_or t (1 + i * 52) 0) (get_or t (1 + j * 52) 0) taken (take (length f) held) t
      → v ≡ lanes_redrawn (word 0 (row_at 52 t i)) (word 0 (row_at 52 t j)) taken (ids_at 35 (row_at 52 t j)) t
  followed t i j taken fe v ve =
      let a : get_or t (1 + i * 52) 0 ≡ word 0 (row_at 52 t i) = rw (add-zero (1 + i * 52)) at (word_in 52 t i 0 (omega arith)) in
      let b : get_or t (1 + j * 52) 0 ≡ word 0 (row_at 52 t j) = rw (add-zero (1 + j * 52)) at (word_in 52 t j 0 (omega arith)) in
      ve ∙ (ap (λ z. lanes_redrawn (get_or t (1 + i * 52) 0) (get_or t (1 + j * 52) 0) taken z t) (held_back ∙ fe)
      ∙ (ap (λ z. lanes_redrawn z (get_or t (1 + j * 52) 0) taken (ids_at 35 (row_at 52 t j)) t) a
      ∙ ap (λ z. lanes_redrawn (word 0 (row_at 52 t i)) z taken (ids_at 35 (row_at 52 t j)) t) b))
