-- The table of boundaries in a merge: the rows that go, those that point to their lines, and the new ones. Assumes nothing.
use mathlib.Core.Path.{◌≡◌, refl, sym, ap, ◌∙◌}
use mathlib.Core.Bool.{true}
use mathlib.Core.List.{List}
use Prim.Native.Nat.{ℕ, ◌+◌, ◌*◌, ◌≤◌}
use native.Mathlib.Nat.{add-zero, mul-le-mul_right}
use native.Mathlib.Omega.{arith}
use lib.ListN.{length}
use borrow.Author.Tests.{le-leb}
use Rattle.tables.specs.View.{word}
use Rattle.tables.specs.Formed.{counted}
use Rattle.row_tests.proofs.Tables.{table-some, table-few, table-room}
use Rattle.store.specs.Rows.{on_rows}
use Rattle.store.proofs.Packing.{kept-count}
use Rattle.store.proofs.Growing.{appended-count}
use Rattle.merge_plan.specs.declared.Joined.{Joined}
use Rattle.merge_plan.specs.declared.Joined.TheVariants.{Kept, InPlace, Fresh}
use Rattle.merge_redraw.specs.Relaying.{side_ids, pointed_by, side_pointed, added_by, side_added, boundaries_left, boundaries_redrawn, Redrawable}
use Rattle.merge_redraw.specs.declared.Redrawn.{Redrawn}

-- a table keeps its count
pub counts-kept : (limit s : ℕ) (t v : List ℕ) → counted limit s t ≡ true → word 0 v ≤ word 0 t → length v ≡ length t → counted limit s v ≡ true
counts-kept limit s t v h n e =
    let i : 1 ≤ length v = omega (arith, table-some limit s t h) in
    let j : word 0 v ≤ limit = omega (arith, table-few limit s t h) in
    let k : 1 + word 0 v * s ≤ length v = omega (arith, mul-le-mul_right s n, table-room limit s t h) in
    rw (le-leb 1 (length v) i, le-leb (word 0 v) limit j, le-leb (1 + word 0 v * s) (length v) k)

-- how many rows there are
pub pointed-count : (p : Joined) (b start : ℕ) (t : List ℕ) → word 0 (pointed_by p b start t) ≡ word 0 t
unfolding on_rows
pointed-count Kept b start t = refl
pointed-count (InPlace n) b start t = refl
pointed-count (Fresh n) b start t = refl

pub added-count : (p : Joined) (r : Redrawn) (t : List ℕ) → word 0 (added_by p r t) ≡ word 0 t + side_ids p
added-count Kept r t = sym (add-zero (word 0 t))
added-count (InPlace n) r t = sym (add-zero (word 0 t))
added-count (Fresh n) r t = appended-count 5 _ _ t

-- ---- one step after another, each as long as the table was

module _ (gone : List ℕ) (l r : Redrawn) (t : List ℕ) (h : Redrawable gone l r t) (t1 : List ℕ) (e1 : t1 ≡ boundaries_left gone t) (k1 : length t1 ≡ length t) where
  pub left-counts : counted 4096 5 t1 ≡ true
  left-counts =
      let n : word 0 t1 ≤ word 0 t = rw e1 (kept-count 5 _ t) in
      counts-kept 4096 5 t t1 h.counts n k1

  module _ (t2 : List ℕ) (e2 : t2 ≡ side_pointed l t1) (k2 : length t2 ≡ length t1) where
    same2 : word 0 t2 ≡ word 0 t1
    same2 = ap (word 0) e2 ∙ pointed-count l.plan l.boundary l.start t1

    pub pointed-counts : counted 4096 5 t2 ≡ true
    pointed-counts = counts-kept 4096 5 t1 t2 left-counts (omega (arith, same2)) k2

    module _ (t3 : List ℕ) (e3 : t3 ≡ side_pointed r t2) (k3 : length t3 ≡ length t2) where
      same3 : word 0 t3 ≡ word 0 (boundaries_left gone t)
      same3 = ap (word 0) e3 ∙ (pointed-count r.plan r.boundary r.start t2 ∙ (same2 ∙ ap (word 0) e1))

      pub first-room : 1 + (word 0 t3 + side_ids l.plan) * 5 ≤ length t3
      first-room = omega (arith, same3, h.room)

      module _ (t4 : List ℕ) (e4 : t4 ≡ side_added l t3) (k4 : length t4 ≡ length t3) where
        pub second-room : 1 + (word 0 t4 + side_ids r.plan) * 5 ≤ length t4
        second-room = omega (arith, same3, ap (word 0) e4 ∙ added-count l.plan l t3, h.room)

        pub all-redrawn : (t5 : List ℕ) → t5 ≡ side_added r t4 → t5 ≡ boundaries_redrawn gone l r t
        unfolding boundaries_redrawn
        all-redrawn t5 e5 = rw (e5, e4, e3, e2, e1)
