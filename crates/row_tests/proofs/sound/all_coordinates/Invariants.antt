-- `row_tests::sound::all_coordinates` meets its contract. The invariant: all are within reach where those so far and those from here on are. Assumes
-- nothing.
use mathlib.Core.Path.{◌≡◌}
use mathlib.Core.Bool.{◌&&◌}
use lib.ListN.{drop}
use Rattle.lists.specs.Every.{all}
use Rattle.geometry.specs.Float.{coordinate}
use Rattle.row_tests.proofs.sound.all_coordinates.Given as goal

abbrev pub invariant-loop-x : goal.invariant-loop-x
invariant-loop-x l = all coordinate l.line ≡ (l.good && all coordinate (drop l.x-index l.line))
