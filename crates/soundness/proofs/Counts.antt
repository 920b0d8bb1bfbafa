-- Tables that hold their counts of rows, one by one, and the rows as they are lent. Assumes nothing.
use mathlib.Core.Path.{◌≡◌}
use mathlib.Core.Bool.{Bool, true}
use mathlib.Core.List.{List}
use Prim.Native.Nat.{ℕ, ◌-◌, ◌*◌, ◌≤◌, ◌<◌}
use native.Mathlib.Omega.{arith}
use lib.ListN.{length, take, drop, length-drop}
use Rattle.lists.specs.Rows.{keys}
use Rattle.lists.specs.Select.{ascending}
use Rattle.tables.specs.View.{Tables, word}
use Rattle.tables.specs.Formed.{counted}
use Rattle.row_tests.proofs.Lanes.{rows-lent}
use Rattle.apart.proofs.Marks.{counted-facts}
use Rattle.soundness.specs.Parts.{all_counted}
use Rattle.soundness.proofs.Back.{and7}

pub record Counts (t : Tables) : Type 0 where
  pub lanes : counted 1024 52 t.lanes ≡ true
  pub boundaries : counted 4096 5 t.boundaries ≡ true
  pub roads : counted 256 68 t.roads ≡ true
  pub junctions : counted 256 69 t.junctions ≡ true
  pub rules : counted 512 330 t.rules ≡ true
  pub stop_lines : counted 512 4 t.stop_lines ≡ true
  pub crosswalks : counted 128 7 t.crosswalks ≡ true

pub counts : (t : Tables) → all_counted t ≡ true → Counts t
unfolding all_counted
counts t h =
    let (a, b, c, d, e, f, g) = and7 (counted 1024 52 t.lanes) (counted 4096 5 t.boundaries) (counted 256 68 t.roads) (counted 256 69 t.junctions)
    (counted 512 330 t.rules) (counted 512 4 t.stop_lines) (counted 128 7 t.crosswalks) h in
    record { lanes = a; boundaries = b; roads = c; junctions = d; rules = e; stop_lines = f; crosswalks = g }

-- the rows of a table as they are lent: room for them, and their keys
module _ (limit s : ℕ) (t : List ℕ) (h : counted limit s t ≡ true) where
  pub some : 1 ≤ length t
  some = (counted-facts limit s t h).0

  room : word 0 t * s ≤ length (drop 1 t)
  room = rw length-drop (omega (arith, (counted-facts limit s t h).1.1))

  pub lent-may : 0 < s → (0 < s) × (word 0 t * s ≤ length (take (length t - 1) (drop 1 t)))
  lent-may p = rw (rows-lent t some) (p, room)

  pub lent_gives : (r : Bool) → r ≡ ascending (keys s (word 0 t) (take (length t - 1) (drop 1 t))) → r ≡ ascending (keys s (word 0 t) (drop 1 t))
  lent_gives r e = rw (rows-lent t some) at e
