-- Lines joined in a merge: what is read back from where it was written. Assumes nothing.
use Rattle.std.specs.Prelude.{Option, None, Some}
use mathlib.Core.Path.{◌≡◌, refl, sym, ap, ◌∙◌}
use mathlib.Core.Bool.{Bool, true, false, not, cond}
use mathlib.Core.List.{List, [], reverse}
use Prim.Native.Nat.{ℕ, ◌+◌, ◌*◌, ◌≤◌, ◌<◌}
use native.Mathlib.Omega.{arith}
use lib.Ieee.{Float}
use lib.Dec.{eqb}
use lib.ListN.{length, get_or, take}
use borrow.Author.Tests.{eqb-false}
use Rattle.lists.specs.Rows.{over}
use Rattle.lists.proofs.Rows.{length_over}
use Rattle.polyline.specs.Polyline.{points, flat, concat}
use Rattle.polyline.proofs.Points.{length-flat, points-over}
use Rattle.polyline.proofs.Counts.{length-concat-le}
use Rattle.entities.specs.Records.{Line}
use Rattle.tables.specs.View.{word, mark, part, line_at}
use Rattle.tables.specs.Formed.{stored}
use Rattle.lookup.specs.Lookup.{row_at, count_of, points_or, centers_stored}
use Rattle.lookup.proofs.Laws.{word_in, next_in}
use Rattle.lookup.proofs.Center.{center_stored, center_short}
use Rattle.merge_draw.specs.Redrawing.{count_in, stored_line}

count-points : (o : Option Line) → count_in (count_of o) ≡ length (points_or o)
count-points None = refl
count-points (Some l) = refl

-- ---- a line that was written to the front of an array

module _ (w v : List Float) (ps : Line) (n : ℕ) (e : v ≡ over w 0 (flat ps)) (k : n ≡ length ps) (room : length ps * 3 ≤ length w) where
  pub written-length : length v ≡ length w
  written-length = ap length e ∙ length_over w 0 (flat ps) (omega (arith, length-flat ps))

  pub written-room : n * 3 ≤ length v
  written-room = omega (arith, written-length)

  pub written_back : points (take (n * 3) v) ≡ ps
  written_back = rw (k, e) (points-over w ps room)

-- ---- a side's line

module _ (o : Option Line) (w v : List Float) (few : length (points_or o) ≤ 256) (room : 768 ≤ length w) (e : v ≡ over w 0 (flat (points_or o)))
    (r : Option ℕ) (c : r ≡ count_of o) (n : ℕ) (k : n ≡ count_in r) where
  pub side-count : n ≡ length (points_or o)
  side-count = k ∙ (ap count_in c ∙ count-points o)

  pub side-small : n * 3 ≤ 768
  side-small = omega (arith, side-count)

  pub side-room : n * 3 ≤ length v
  side-room = written-room w v (points_or o) n e side-count (omega arith)

  pub side-back : points (take (n * 3) v) ≡ points_or o
  side-back = written_back w v (points_or o) n e side-count (omega arith)

-- ---- two sides joined

module _ (join : Float) (a b ps qs : Line) (p : ps ≡ a) (q : qs ≡ b) (few : length a ≤ 256) (few2 : length b ≤ 256) (w : List Float) (room : 1536 ≤ length w) where
  pub joined-room : length (concat join ps qs) * 3 ≤ length w
  joined-room = omega (arith, length-concat-le join ps qs, ap length p, ap length q)

  module _ (v : List Float) (n : ℕ) (s : n ≡ length (concat join ps qs)) (e : v ≡ over w 0 (flat (concat join ps qs))) where
    pub joined_small : n * 3 ≤ 1536
    joined_small = omega (arith, length-concat-le join ps qs, ap length p, ap length q)

    pub joined-reach : n * 3 ≤ length v
    joined-reach = written-room w v (concat join ps qs) n e s joined-room

    pub joined_back : points (take (n * 3) v) ≡ concat join a b
    joined_back = written_back w v (concat join ps qs) n e s joined-room ∙ rw (p, q)

    pub joined-fits : (out : List Float) → 1536 ≤ length out → length (points (take (n * 3) v)) * 3 ≤ length out
    joined-fits out h = omega (arith, ap length (written_back w v (concat join ps qs) n e s joined-room), length-concat-le join ps qs, ap length p, ap length q)

pub line-drawn : (l ps : Line) → ps ≡ l → (back : Bool) (r : ℕ) (out v : List Float) → r ≡ length ps → v ≡ over out 0 (flat (cond back (reverse ps) ps))
    → (r ≡ length l) × (v ≡ over out 0 (flat (stored_line back l)))
line-drawn l ps h back r out v n e = (n ∙ ap length h, e ∙ rw h)

-- ---- explicit centrelines

not-true : (b : Bool) → not b ≡ true → b ≡ false
not-true true m = sym m
not-true false m = refl

module _ (c : List Float) (t : List ℕ) (i : ℕ) (m : mark 6 (row_at 52 t i) ≡ true) (h : centers_stored c t ≡ true) (l : i < word 0 t) where
  there : get_or t (1 + i * 52 + 6) 0 ≡ 0 → ⊥
  there e = eqb-false (word 6 (row_at 52 t i)) 0 (not-true (eqb (word 6 (row_at 52 t i)) 0) m) (sym (word_in 52 t i 6 (omega arith)) ∙ e)

  pub center_lent : stored c (record { start = get_or t (1 + i * 52 + 6 + 1) 0; size = get_or t (1 + i * 52 + 6 + 1 + 1) 0 }) ≡ true
  center_lent = center_stored c [] t i there h l

  module _ (line : List Float) (e : line ≡ part c (get_or t (1 + i * 52 + 6 + 1) 0) (get_or t (1 + i * 52 + 6 + 1 + 1) 0)) where
    pub center_few : length (points line) ≤ 256
    center_few = omega (arith, center_short c [] t i there h l line e 768 (omega arith))

    pub center_is : points line ≡ line_at c 7 (row_at 52 t i)
    center_is =
        let z : 1 + i * 52 + 6 + 1 + 1 ≡ 1 + i * 52 + 8 = omega arith in
        ap points (e ∙ rw (next_in 52 t i 6 (omega arith), z, word_in 52 t i 8 (omega arith)))

pub centers-drawn : (join : Float) (a b ps qs : Line) → ps ≡ a → qs ≡ b → (r : ℕ) (out v : List Float) → r ≡ length (concat join ps qs) → v ≡ over out 0 (flat (concat join ps qs))
    → (r ≡ length (concat join a b)) × (v ≡ over out 0 (flat (concat join a b)))
centers-drawn join a b ps qs p q r out v n e = (n ∙ rw (p, q), e ∙ rw (p, q))
