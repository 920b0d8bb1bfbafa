use mathlib.Core.Bool.{not}
use Rattle.step.specs.Step.{given}
use borrow.Author.Rules.{rules}
use native.Mathlib.Omega.{arith}
use Rattle.lent.specs.Lent.{map_tables}
use mathlib.Core.Path.{refl, sym, ◌∙◌, ap}
use Rattle.sound_facts.proofs.Found.{lanes_are_sorted, found, missing, sound-formed}
use Rattle.sound_facts.proofs.Facts.{facts}
use Rattle.soundness.proofs.Back.{formed-parts}
use Rattle.lookup.proofs.Laws.{place-within}
use Rattle.merge_made.proofs.Parts.{off, on}
use Rattle.edit_merge.proofs.Ends.{first_absent, second-absent, unfit, side-refused, may-merge, merge-ends}
use Rattle.edit_merge.proofs.merge_lanes.Goals as goal

-- src/lib.rt:308:9
pub lane-found-requires : goal.lane-found-requires
lane-found-requires c = let s = c in lanes_are_sorted s.args.counter (map_tables s.args.map.now) s.requires

-- src/lib.rt:310:9
pub returns-in_default-clause-made : goal.returns-in_default-clause-made
returns-in_default-clause-made c = let s = c in first_absent s.args.tolerance (given s.args.counter s.args.map.now s.args.lists.now) s.requires s.args.first s.args.second (missing s.args.map.now.lanes.now s.args.first c.lane-found.result c.lane-found.ensures c.in_default.is)

-- src/lib.rt:312:9
pub lane-other-requires : goal.lane-other-requires
lane-other-requires c = let s = c in lanes_are_sorted s.args.counter (map_tables s.args.map.now) s.requires

-- src/lib.rt:314:9
pub returns-in_default-other-clause-made : goal.returns-in_default-other-clause-made
returns-in_default-other-clause-made c = let s = c in second-absent s.args.tolerance (given s.args.counter s.args.map.now s.args.lists.now) s.requires s.args.first s.args.second c.in-Some.i (found s.args.map.now.lanes.now s.args.first c.in-Some.i c.lane-found.result c.lane-found.ensures c.in-Some.is) (missing s.args.map.now.lanes.now s.args.second c.lane-other.result c.lane-other.ensures c.in_default-other.is)

-- src/lib.rt:316:9
pub mergeable-requires : goal.mergeable-requires
mergeable-requires c = let s = c in (lanes_are_sorted s.args.counter (map_tables s.args.map.now) s.requires, ((formed-parts (map_tables s.args.map.now) (sound-formed s.args.counter (map_tables s.args.map.now) s.requires)).lanes, ((place-within 52 s.args.map.now.lanes.now s.args.first c.in-Some.i (found s.args.map.now.lanes.now s.args.first c.in-Some.i c.lane-found.result c.lane-found.ensures c.in-Some.is)), (place-within 52 s.args.map.now.lanes.now s.args.second c.in-Some-other.j (found s.args.map.now.lanes.now s.args.second c.in-Some-other.j c.lane-other.result c.lane-other.ensures c.in-Some-other.is)))))

-- src/lib.rt:317:9
pub returns-then-not-mergeable-clause-made : goal.returns-then-not-mergeable-clause-made
returns-then-not-mergeable-clause-made c = let s = c in unfit s.args.tolerance (given s.args.counter s.args.map.now s.args.lists.now) s.requires s.args.first s.args.second c.in-Some.i (found s.args.map.now.lanes.now s.args.first c.in-Some.i c.lane-found.result c.lane-found.ensures c.in-Some.is) c.in-Some-other.j (found s.args.map.now.lanes.now s.args.second c.in-Some-other.j c.lane-other.result c.lane-other.ensures c.in-Some-other.is) (sym c.mergeable.ensures ∙ off c.mergeable.result (ap not c.if-not-mergeable.true))

pub invariant_of-drawable : goal.invariant_of-drawable
invariant_of-drawable c = let s = c in record { drawable = (facts s.args.counter (map_tables s.args.map.now) s.requires).drawable }

-- src/lib.rt:320:9
pub decide-requires : goal.decide-requires
decide-requires c = let s = c in ((place-within 52 s.args.map.now.lanes.now s.args.first c.in-Some.i (found s.args.map.now.lanes.now s.args.first c.in-Some.i c.lane-found.result c.lane-found.ensures c.in-Some.is)), (place-within 52 s.args.map.now.lanes.now s.args.second c.in-Some-other.j (found s.args.map.now.lanes.now s.args.second c.in-Some-other.j c.lane-other.result c.lane-other.ensures c.in-Some-other.is)))

-- src/lib.rt:323:34
pub merge_found-requires : goal.merge_found-requires
merge_found-requires c = let s = c in may-merge s.args.tolerance (given s.args.counter s.args.map.now s.args.lists.now) s.requires (omega (arith, s.well_formed.0.1)) s.args.first s.args.second c.in-Some.i c.in-Some-other.j (found s.args.map.now.lanes.now s.args.first c.in-Some.i c.lane-found.result c.lane-found.ensures c.in-Some.is) (found s.args.map.now.lanes.now s.args.second c.in-Some-other.j c.lane-other.result c.lane-other.ensures c.in-Some-other.is) (sym c.mergeable.ensures ∙ on c.mergeable.result (ap not c.if-not-mergeable.false)) _ (sym c.decide.ensures ∙ c.in_ok-plan.was)

-- src/lib.rt:287:1
pub returns-in_err-plan-clause-made : goal.returns-in_err-plan-clause-made
returns-in_err-plan-clause-made c =
    let s = c in
    let refused = side-refused s.args.tolerance (given s.args.counter s.args.map.now s.args.lists.now) s.requires s.args.first s.args.second c.in-Some.i (found s.args.map.now.lanes.now s.args.first c.in-Some.i c.lane-found.result c.lane-found.ensures c.in-Some.is) c.in-Some-other.j (found s.args.map.now.lanes.now s.args.second c.in-Some-other.j c.lane-other.result c.lane-other.ensures c.in-Some-other.is) (sym c.mergeable.ensures ∙ on c.mergeable.result (ap not c.if-not-mergeable.false)) _ (sym c.decide.ensures ∙ c.in_err-plan.was) in
    search rules

-- src/lib.rt:287:1
pub returns-clause-made : goal.returns-clause-made
returns-clause-made c = let s = c in c.merge_found.ensures.made ∙ merge-ends s.args.tolerance (given s.args.counter s.args.map.now s.args.lists.now) s.requires (omega (arith, s.well_formed.0.1)) s.args.first s.args.second c.in-Some.i c.in-Some-other.j (found s.args.map.now.lanes.now s.args.first c.in-Some.i c.lane-found.result c.lane-found.ensures c.in-Some.is) (found s.args.map.now.lanes.now s.args.second c.in-Some-other.j c.lane-other.result c.lane-other.ensures c.in-Some-other.is) (sym c.mergeable.ensures ∙ on c.mergeable.result (ap not c.if-not-mergeable.false)) _ (sym c.decide.ensures ∙ c.in_ok-plan.was)
