-- `follows::follow_rules` meets its contract. The invariant: the first i rules have followed, and the others are as they were. Assumes nothing.
use mathlib.Core.Path.{refl, ap, ◌∙◌}
use Prim.Native.Nat.{◌+◌, ◌*◌, ◌-◌}
use native.Mathlib.Omega.{arith}
use mathlib.Core.Bool.{false}
use lib.ListN.{get_or, take, drop}
use Rattle.row_tests.proofs.Tables.{row_of}
use Rattle.row_walk.proofs.Turning.{Turned, turned_none, turned-row, turned_turn, turned-all}
use Rattle.follows.specs.Following.{rule_follows, marks_of, map_numbered, on_numbered}
use Rattle.follows.proofs.Rules.{rules-some, rules-room, rules-few, marks-room, rule-may, marks-lent}
use Rattle.follows.proofs.follow_rules.Given as goal

abbrev pub invariant-loop-i : goal.invariant-loop-i
invariant-loop-i l = Turned 330 (map_numbered 330 (λ j w. rule_follows (get_or l.anchored j false) (marks_of l.past j) l.next l.cut w)) l.initial.t l.t l.i
