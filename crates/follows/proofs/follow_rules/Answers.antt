-- `follows::follow_rules` meets its contract. The invariant: the first i rules have followed, and the others are as they were. Assumes nothing.
use mathlib.Core.Path.{refl, ap, ◌∙◌}
use Prim.Native.Nat.{◌+◌, ◌*◌, ◌-◌}
use native.Mathlib.Omega.{arith}
use mathlib.Core.Bool.{false}
use lib.ListN.{get_or, take, drop}
use Rattle.row_tests.proofs.Tables.{row_of}
use Rattle.row_walk.proofs.Turning.{Turned, turned_none, turned-row, turned_turn, turned-all}
use Rattle.follows.specs.Following.{rule_follows, marks_of, map_numbered, on_numbered}
use Rattle.follows.proofs.Rules.{rules-some, rules-room, rules-few, marks-room, rule-may, marks-lent}
use Rattle.follows.proofs.follow_rules.Goals as goal

pub bounds-t-0 : goal.bounds-t-0
bounds-t-0 c = omega (arith, rules-some c.args.anchored.now c.args.past.now c.args.next c.args.cut.now c.args.t.now c.requires)

pub loop-i-init : goal.loop-i-init
loop-i-init c = turned_none 330 (map_numbered 330 (λ j w. rule_follows (get_or c.args.anchored.now j false) (marks_of c.args.past.now j) c.args.next c.args.cut.now w)) c.args.t.now (rules-some c.args.anchored.now c.args.past.now c.args.next c.args.cut.now c.args.t.now c.requires)

pub overflow_mul-at : goal.overflow_mul-at
overflow_mul-at c = omega (arith, rules-few c.args.anchored.now c.args.past.now c.args.next c.args.cut.now c.args.t.now c.requires c.loop-i.i c.loop-i-test.true)

pub overflow_add-at : goal.overflow_add-at
overflow_add-at c = omega (arith, rules-few c.args.anchored.now c.args.past.now c.args.next c.args.cut.now c.args.t.now c.requires c.loop-i.i c.loop-i-test.true)

pub overflow_add-end : goal.overflow_add-end
overflow_add-end c = omega (arith, rules-few c.args.anchored.now c.args.past.now c.args.next c.args.cut.now c.args.t.now c.requires c.loop-i.i c.loop-i-test.true)

pub overflow_mul-first : goal.overflow_mul-first
overflow_mul-first c = omega (arith, rules-few c.args.anchored.now c.args.past.now c.args.next c.args.cut.now c.args.t.now c.requires c.loop-i.i c.loop-i-test.true)

pub overflow_add-last : goal.overflow_add-last
overflow_add-last c = omega (arith, rules-few c.args.anchored.now c.args.past.now c.args.next c.args.cut.now c.args.t.now c.requires c.loop-i.i c.loop-i-test.true)

pub offset_bounds-t-at : goal.offset_bounds-t-at
offset_bounds-t-at c = omega (arith, rules-few c.args.anchored.now c.args.past.now c.args.next c.args.cut.now c.args.t.now c.requires c.loop-i.i c.loop-i-test.true)

pub slice_bounds-follow_rule-count : goal.slice_bounds-follow_rule-count
slice_bounds-follow_rule-count c = omega arith

pub slice_bounds-follow_rule-start : goal.slice_bounds-follow_rule-start
slice_bounds-follow_rule-start c = omega arith

pub slice_bounds-follow_rule-end : goal.slice_bounds-follow_rule-end
slice_bounds-follow_rule-end c = omega (arith, rules-room c.args.anchored.now c.args.past.now c.args.next c.args.cut.now c.args.t.now c.requires c.loop-i.i c.loop-i-test.true, c.loop-i.invariant.long)

pub bounds-anchored-i : goal.bounds-anchored-i
bounds-anchored-i c = omega (arith, c.loop-i-test.true, c.requires.anchors)

pub slice_bounds-follow_rule-count-in-loop-i : goal.slice_bounds-follow_rule-count-in-loop-i
slice_bounds-follow_rule-count-in-loop-i c = omega arith

pub slice_bounds-follow_rule-start-in-loop-i : goal.slice_bounds-follow_rule-start-in-loop-i
slice_bounds-follow_rule-start-in-loop-i c = omega arith

pub slice_bounds-follow_rule-end-in-loop-i : goal.slice_bounds-follow_rule-end-in-loop-i
slice_bounds-follow_rule-end-in-loop-i c = omega (arith, marks-room c.args.anchored.now c.args.past.now c.args.next c.args.cut.now c.args.t.now c.requires c.loop-i.i c.loop-i-test.true)

pub follow_rule-requires : goal.follow_rule-requires
follow_rule-requires c = rule-may c.args.anchored.now c.args.past.now c.args.next c.args.cut.now c.args.t.now c.requires c.loop-i.i c.loop-i-test.true (row_of 330 c.loop-i.t c.loop-i.i) (turned-row 330 (map_numbered 330 (λ j w. rule_follows (get_or c.args.anchored.now j false) (marks_of c.args.past.now j) c.args.next c.args.cut.now w)) c.args.t.now c.loop-i.t c.loop-i.i c.loop-i.invariant) (take (c.loop-i.i * 64 + 64 - c.loop-i.i * 64) (drop (c.loop-i.i * 64) c.args.past.now)) (marks-lent c.args.past.now c.loop-i.i)

pub loop-i-preserved : goal.loop-i-preserved
unfolding map_numbered
loop-i-preserved c =
    let l = c.loop-i in
    let f = c.follow_rule in
    let r = rules-room c.args.anchored.now c.args.past.now c.args.next c.args.cut.now c.args.t.now c.requires c.loop-i.i c.loop-i-test.true in
    turned_turn 330 (map_numbered 330 (λ j w. rule_follows (get_or c.args.anchored.now j false) (marks_of c.args.past.now j) c.args.next c.args.cut.now w)) c.args.t.now c.loop-i.t c.loop-i.i c.loop-i.invariant (λ j w. rule_follows (get_or c.args.anchored.now j false) (marks_of c.args.past.now j) c.args.next c.args.cut.now w) (λ n w. refl) c.loop-i-test.true (omega (arith, l.invariant.long)) f.new.row f.auto.row (f.ensures ∙ ap (λ m. rule_follows (get_or c.args.anchored.now l.i false) m c.args.next c.args.cut.now (row_of 330 l.t l.i)) (marks-lent c.args.past.now l.i))

pub shape_of-t : goal.shape_of-t
shape_of-t c = c.loop-i.invariant.long

pub returns : goal.returns
unfolding on_numbered map_numbered
returns c = turned-all 330 (map_numbered 330 (λ j w. rule_follows (get_or c.args.anchored.now j false) (marks_of c.args.past.now j) c.args.next c.args.cut.now w)) c.args.t.now c.loop-i.t c.loop-i.i c.loop-i.invariant (λ w. refl) c.loop-i-test.false
