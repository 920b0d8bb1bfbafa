-- `split_room::rules_fit` meets its contract. The invariant: the rules before number i fit, so all do where those from there on do. Assumes nothing.
use mathlib.Core.Path.{◌≡◌}
use Prim.Native.Nat.{◌≤◌}
use lib.ListN.{drop}
use Rattle.tables.specs.View.{word, rows}
use Rattle.split_room.specs.Fitting.{rules_fit}
use Rattle.split_room.proofs.rules_fit.Given as goal

abbrev pub invariant-loop-i : goal.invariant-loop-i
invariant-loop-i l = (l.i ≤ word 0 l.rules) × (rules_fit l.anchored l.cut 0 (rows 330 (λ w. w) l.rules) ≡ rules_fit l.anchored l.cut l.i (drop l.i (rows 330 (λ w. w) l.rules)))
