-- `split_room::count_named` meets its contract. The invariant: the count is that of the first r cut lanes. Assumes nothing.
use mathlib.Core.Path.{refl, sym, ◌∙◌}
use mathlib.Core.Logic.{⊎_elim}
use native.Mathlib.Omega.{arith}
use lib.Seq.{take_all}
use Rattle.lists.specs.Select.{keep, has}
use Rattle.lists.proofs.Turns.{count-one, count_none}
use Rattle.split_room.proofs.count_named.Goals as goal

pub loop-r-init : goal.loop-r-init
unfolding keep
loop-r-init c = (omega arith, (omega arith, refl))

pub offset_bounds-cut-r : goal.offset_bounds-cut-r
offset_bounds-cut-r c = omega arith

pub bounds-cut-r : goal.bounds-cut-r
bounds-cut-r c = omega arith

pub contains-requires : goal.contains-requires
contains-requires c = omega arith

pub overflow_add-count : goal.overflow_add-count
overflow_add-count c = omega arith

pub loop-r-preserved : goal.loop-r-preserved
loop-r-preserved c =
    let f = c.contains in
    ⊎_elim
    (λ s. (omega (arith, c.loop-r-test.true), (omega (arith, s.count-is), s.count-is ∙ count-one (λ i. has i c.args.ids.now) c.args.cut.now c.loop-r.r c.loop-r.count 0 c.loop-r-test.true c.loop-r.invariant.1.1 (sym f.ensures ∙ s.if-contains.true))))
    (λ s. (omega (arith, c.loop-r-test.true), (omega (arith, s.count-is), s.count-is ∙ count_none (λ i. has i c.args.ids.now) c.args.cut.now c.loop-r.r c.loop-r.count 0 c.loop-r-test.true c.loop-r.invariant.1.1 (sym f.ensures ∙ s.if-contains.false))))
    c.if-contains.branch-raw

pub returns : goal.returns
returns c =
    let e = take_all c.loop-r.r c.args.cut.now c.loop-r-test.false in
    (rw e at c.loop-r.invariant.1.1, omega (arith, c.loop-r.invariant.0, c.loop-r.invariant.1.0, c.requires))
