-- How much a row or a side counts at most: a joined line has at most 512 points, any other at most 256. Assumes nothing.
use Rattle.std.specs.Prelude.{Option}
use mathlib.Core.Path.{◌≡◌}
use mathlib.Core.Bool.{Bool, true, false, not, cond, ◌||◌}
use mathlib.Core.List.{List}
use Prim.Native.Nat.{ℕ, ◌≤◌, ◌<◌}
use native.Mathlib.Omega.{arith}
use lib.Dec.{eqb, leb}
use borrow.Author.Tests.{leb-true}
use Rattle.lists.specs.Select.{has}
use Rattle.tables.specs.View.{word, mark}
use Rattle.lookup.specs.Lookup.{row_at, all_short}
use Rattle.lookup.proofs.Laws.{row-passes}
use Rattle.merge_plan.specs.declared.Joined.{Joined}
use Rattle.merge_plan.specs.declared.Joined.TheVariants.{Kept, InPlace, Fresh}
use Rattle.merge_plan.specs.Sides.{side_points, side_ids, center_points}
use Rattle.merge_gone.specs.declared.Sides.{Sides}
use Rattle.merge_gone.specs.Leaving.{joins, row_points, new_points, center_after, centers_short}

pub boundary-few : (gone : List ℕ) (s : Sides) (t : List ℕ) → all_short 5 2 t ≡ true → side_points s.left ≤ 512 → side_points s.right ≤ 512 → (i : ℕ) → i < word 0 t
    → row_points gone s (row_at 5 t i) ≤ 512
unfolding all_short
boundary-few gone s t h l r i k =
    let w = row_at 5 t i in
    let g = leb-true (word 3 w) 256 (row-passes 5 (λ w. leb (word 3 w) 256) t h i k) in
    go (word 3 w) g (has (word 0 w) gone) (joins s.right s.right_id (word 0 w)) (joins s.left s.left_id (word 0 w))
  where
    go : (n : ℕ) → n ≤ 256 → (a b c : Bool) → cond a 0 (cond b (side_points s.right) (cond c (side_points s.left) n)) ≤ 512
    go n g true b c = omega arith
    go n g false true c = r
    go n g false false true = l
    go n g false false false = omega arith

pub center_few : (first second : ℕ) (center : Option ℕ) (t : List ℕ) → centers_short t ≡ true → center_points center ≤ 512 → (i : ℕ) → i < word 0 t
    → center_after first second center (row_at 52 t i) ≤ 512
unfolding centers_short
center_few first second center t h m i k =
    let w = row_at 52 t i in
    go (word 8 w) (eqb (word 0 w) second) (eqb (word 0 w) first) (mark 6 w) (row-passes 52 (λ w. not (mark 6 w) || leb (word 8 w) 256) t h i k)
  where
    go : (n : ℕ) (a b c : Bool) → (not c || leb n 256) ≡ true → cond a 0 (cond b (center_points center) (cond c n 0)) ≤ 512
    go n true b c g = omega arith
    go n false true c g = m
    go n false false true g = omega (arith, leb-true n 256 g)
    go n false false false g = omega arith

-- what a side adds
pub new-few : (p : Joined) → new_points p ≤ side_points p
new-few Kept = omega arith
new-few (InPlace n) = omega arith
new-few (Fresh n) = omega arith

pub ids_few : (p : Joined) → side_ids p ≤ 1
ids_few Kept = omega arith
ids_few (InPlace n) = omega arith
ids_few (Fresh n) = omega arith
