-- `link_tests::all_met` meets its contract. The invariant: the lanes before i are met, and the cursors count their links. Assumes nothing.
use borrow.Author.Tests.{not-true, not-false}
use mathlib.Core.Path.{◌≡◌, refl, sym, ap, ◌∙◌}
use mathlib.Core.Bool.{not}
use mathlib.Core.Logic.{⊎_elim}
use Prim.Native.Nat.{ℕ}
use native.Mathlib.Nat.{eq-or-lt_of_le, le_of_suc-le-suc}
use native.Mathlib.Numerals.{add-one}
use native.Mathlib.Omega.{arith}
use lib.ListN.{length}
use Rattle.lists.specs.Select.{same_numbers}
use Rattle.tables.specs.View.{word, rows}
use Rattle.row_tests.proofs.Lanes.{lanes-some}
use Rattle.link_tests.specs.Met.{cursors}
use Rattle.link_tests.proofs.Steps.{cursors-many, lane-stops, met-ends}
use Rattle.link_tests.proofs.all_met.Goals as goal

pub bounds-t-0 : goal.bounds-t-0
bounds-t-0 c = omega (arith, lanes-some c.args.t.now c.requires.0.0.sorted)

pub loop-i-init : goal.loop-i-init
loop-i-init c = (omega arith, (refl, (c.requires.1, λ j h. absurd (omega arith))))

pub lane_met-requires : goal.lane_met-requires
lane_met-requires c = (c.requires.0, (c.loop-i-test.true, c.loop-i.invariant.1.1.0))

pub loop-i-preserved : goal.loop-i-preserved
loop-i-preserved c =
    let l = c.lane_met in
    let v = c.loop-i.invariant in
    (omega (arith, c.loop-i-test.true), (l.auto.met ∙ v.1.0, (l.ensures.1 (not-false c.lane_met.result (ap not c.if-not-lane_met.false)), λ j h. ⊎_elim (λ e. rw e (sym l.ensures.0 ∙ (not-false c.lane_met.result (ap not c.if-not-lane_met.false)))) (λ g. v.1.1.1 j g) (eq-or-lt_of_le (le_of_suc-le-suc (rw add-one at h))))))

pub shape_of-met-then-not-lane_met : goal.shape_of-met-then-not-lane_met
shape_of-met-then-not-lane_met c = c.lane_met.auto.met ∙ c.loop-i.invariant.1.0

pub returns-then-not-lane_met : goal.returns-then-not-lane_met
returns-then-not-lane_met c =
    let b = c in
    lane-stops b.args.t.now b.requires.0.0.sorted b.requires.0.1 c.loop-i.i c.loop-i-test.true (sym c.lane_met.ensures.0 ∙ (not-true c.lane_met.result (ap not c.if-not-lane_met.true)))

pub ends_met-requires : goal.ends_met-requires
ends_met-requires c = let b = c.before.before.before.before.before.before.before in (b.requires.0.0.sorted, ap length c.loop-i.invariant.1.1.0 ∙ cursors-many b.args.t.now c.loop-i.i 0)

pub returns : goal.returns
returns c =
    let b = c in
    let t = b.args.t.now in
    let l = c.loop-i in
    let z : l.i ≡ word 0 t = omega (arith, c.loop-i-test.false, l.invariant.0) in
    let v : l.met ≡ cursors t (word 0 t) 0 = l.invariant.1.1.0 ∙ ap (λ (i : ℕ). cursors t i 0) z in
    c.ends_met.ensures ∙ (ap (λ (m : _). same_numbers m (rows 52 (word 18) t)) v ∙ met-ends t b.requires.0.0.sorted b.requires.0.1 (λ j h. l.invariant.1.1.1 j (rw z h)))
