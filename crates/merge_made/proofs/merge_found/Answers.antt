use Rattle.step.specs.Step.{given}
use native.Mathlib.Omega.{arith}
use Rattle.lent.specs.Lent.{map_tables}
use mathlib.Core.Path.{sym}
use Prim.Native.Nat.{ℕ}
use lib.ListN.{replicate, length-replicate}
use lib.Seq.{length-take-le}
use Rattle.merge_made.specs.Parts.{gone_in, joined_in}
use Rattle.merge_made.proofs.Parts.{ids_few, front, no-ids, ids-there, decided-asks, found-made, both-refs}
use Rattle.merge_made.proofs.merge_found.Goals as goal

-- src/lib.rt:254:33
pub overflow_add-side_ids : goal.overflow_add-side_ids
overflow_add-side_ids c = let s = c in omega (arith, ids_few s.args.plan.left, ids_few s.args.plan.right, c.side_ids.ensures, c.side_ids-2.ensures)

-- src/lib.rt:255:9
pub returns-then-not-ids_left-clause-made : goal.returns-then-not-ids_left-clause-made
returns-then-not-ids_left-clause-made c = let s = c in no-ids s.args.join s.args.i s.args.j s.args.plan (given s.args.counter s.args.map.now s.args.lists.now) c.side_ids.result c.side_ids-2.result c.side_ids.ensures c.side_ids-2.ensures c.ids_left.result c.ids_left.ensures c.if-not-ids_left.true

-- src/lib.rt:277:9
pub slice_bounds-gone-end-2 : goal.slice_bounds-gone-end-2
slice_bounds-gone-end-2 c = let s = c in (front (replicate 4 0) (gone_in (map_tables s.args.map.now) s.args.i s.args.j s.args.plan) c.gone-n.new.out c.gone-n.result (omega (arith, length-replicate {A = ℕ} 4 0, (s.requires.decided (ids-there s.args.join s.args.i s.args.j s.args.plan (given s.args.counter s.args.map.now s.args.lists.now) c.side_ids.result c.side_ids-2.result c.side_ids.ensures c.side_ids-2.ensures c.ids_left.result c.ids_left.ensures c.if-not-ids_left.false)).gone_few)) c.gone-n.ensures.0 c.gone-n.ensures.1).0

-- src/lib.rt:277:9
pub slice_bounds-merge_with-end : goal.slice_bounds-merge_with-end
slice_bounds-merge_with-end c = let s = c in sym (length-take-le c.gone-n.result c.gone-n.new.out (front (replicate 4 0) (gone_in (map_tables s.args.map.now) s.args.i s.args.j s.args.plan) c.gone-n.new.out c.gone-n.result (omega (arith, length-replicate {A = ℕ} 4 0, (s.requires.decided (ids-there s.args.join s.args.i s.args.j s.args.plan (given s.args.counter s.args.map.now s.args.lists.now) c.side_ids.result c.side_ids-2.result c.side_ids.ensures c.side_ids-2.ensures c.ids_left.result c.ids_left.ensures c.if-not-ids_left.false)).gone_few)) c.gone-n.ensures.0 c.gone-n.ensures.1).0)

-- src/lib.rt:278:9
pub slice_bounds-joined-end : goal.slice_bounds-joined-end
slice_bounds-joined-end c = let s = c in (front (replicate 2 0) (joined_in (map_tables s.args.map.now) s.args.i s.args.plan) c.joined_ids-m.new.out c.joined_ids-m.result (omega (arith, length-replicate {A = ℕ} 2 0, (s.requires.decided (ids-there s.args.join s.args.i s.args.j s.args.plan (given s.args.counter s.args.map.now s.args.lists.now) c.side_ids.result c.side_ids-2.result c.side_ids.ensures c.side_ids-2.ensures c.ids_left.result c.ids_left.ensures c.if-not-ids_left.false)).joined_few)) (both-refs s.args.plan.left s.args.plan.right c.boundary_ref-one.result c.boundary_ref-two.result _ _ c.boundary_ref-one.ensures c.boundary_ref-two.ensures (replicate 2 0) c.joined_ids-m.new.out c.joined_ids-m.result c.joined_ids-m.ensures).0 (both-refs s.args.plan.left s.args.plan.right c.boundary_ref-one.result c.boundary_ref-two.result _ _ c.boundary_ref-one.ensures c.boundary_ref-two.ensures (replicate 2 0) c.joined_ids-m.new.out c.joined_ids-m.result c.joined_ids-m.ensures).1).0

-- src/lib.rt:278:9
pub slice_bounds-merge_with-end-2 : goal.slice_bounds-merge_with-end-2
slice_bounds-merge_with-end-2 c = let s = c in sym (length-take-le c.joined_ids-m.result c.joined_ids-m.new.out (front (replicate 2 0) (joined_in (map_tables s.args.map.now) s.args.i s.args.plan) c.joined_ids-m.new.out c.joined_ids-m.result (omega (arith, length-replicate {A = ℕ} 2 0, (s.requires.decided (ids-there s.args.join s.args.i s.args.j s.args.plan (given s.args.counter s.args.map.now s.args.lists.now) c.side_ids.result c.side_ids-2.result c.side_ids.ensures c.side_ids-2.ensures c.ids_left.result c.ids_left.ensures c.if-not-ids_left.false)).joined_few)) (both-refs s.args.plan.left s.args.plan.right c.boundary_ref-one.result c.boundary_ref-two.result _ _ c.boundary_ref-one.ensures c.boundary_ref-two.ensures (replicate 2 0) c.joined_ids-m.new.out c.joined_ids-m.result c.joined_ids-m.ensures).0 (both-refs s.args.plan.left s.args.plan.right c.boundary_ref-one.result c.boundary_ref-two.result _ _ c.boundary_ref-one.ensures c.boundary_ref-two.ensures (replicate 2 0) c.joined_ids-m.new.out c.joined_ids-m.result c.joined_ids-m.ensures).1).0)

-- src/lib.rt:263:5
pub merge_with-requires : goal.merge_with-requires
merge_with-requires c = let s = c in decided-asks s.args.counter s.args.join s.args.i s.args.j s.args.plan _ _ (gone_in (map_tables s.args.map.now) s.args.i s.args.j s.args.plan) (joined_in (map_tables s.args.map.now) s.args.i s.args.plan) (map_tables s.args.map.now) (front (replicate 4 0) (gone_in (map_tables s.args.map.now) s.args.i s.args.j s.args.plan) c.gone-n.new.out c.gone-n.result (omega (arith, length-replicate {A = ℕ} 4 0, (s.requires.decided (ids-there s.args.join s.args.i s.args.j s.args.plan (given s.args.counter s.args.map.now s.args.lists.now) c.side_ids.result c.side_ids-2.result c.side_ids.ensures c.side_ids-2.ensures c.ids_left.result c.ids_left.ensures c.if-not-ids_left.false)).gone_few)) c.gone-n.ensures.0 c.gone-n.ensures.1).1 (front (replicate 2 0) (joined_in (map_tables s.args.map.now) s.args.i s.args.plan) c.joined_ids-m.new.out c.joined_ids-m.result (omega (arith, length-replicate {A = ℕ} 2 0, (s.requires.decided (ids-there s.args.join s.args.i s.args.j s.args.plan (given s.args.counter s.args.map.now s.args.lists.now) c.side_ids.result c.side_ids-2.result c.side_ids.ensures c.side_ids-2.ensures c.ids_left.result c.ids_left.ensures c.if-not-ids_left.false)).joined_few)) (both-refs s.args.plan.left s.args.plan.right c.boundary_ref-one.result c.boundary_ref-two.result _ _ c.boundary_ref-one.ensures c.boundary_ref-two.ensures (replicate 2 0) c.joined_ids-m.new.out c.joined_ids-m.result c.joined_ids-m.ensures).0 (both-refs s.args.plan.left s.args.plan.right c.boundary_ref-one.result c.boundary_ref-two.result _ _ c.boundary_ref-one.ensures c.boundary_ref-two.ensures (replicate 2 0) c.joined_ids-m.new.out c.joined_ids-m.result c.joined_ids-m.ensures).1).1 (s.requires.decided (ids-there s.args.join s.args.i s.args.j s.args.plan (given s.args.counter s.args.map.now s.args.lists.now) c.side_ids.result c.side_ids-2.result c.side_ids.ensures c.side_ids-2.ensures c.ids_left.result c.ids_left.ensures c.if-not-ids_left.false))

-- src/lib.rt:230:1
pub returns-clause-made : goal.returns-clause-made
returns-clause-made c = let s = c in found-made s.args.join s.args.i s.args.j s.args.plan (given s.args.counter s.args.map.now s.args.lists.now) c.side_ids.result c.side_ids-2.result c.side_ids.ensures c.side_ids-2.ensures c.ids_left.result c.ids_left.ensures c.if-not-ids_left.false _ _ (front (replicate 4 0) (gone_in (map_tables s.args.map.now) s.args.i s.args.j s.args.plan) c.gone-n.new.out c.gone-n.result (omega (arith, length-replicate {A = ℕ} 4 0, (s.requires.decided (ids-there s.args.join s.args.i s.args.j s.args.plan (given s.args.counter s.args.map.now s.args.lists.now) c.side_ids.result c.side_ids-2.result c.side_ids.ensures c.side_ids-2.ensures c.ids_left.result c.ids_left.ensures c.if-not-ids_left.false)).gone_few)) c.gone-n.ensures.0 c.gone-n.ensures.1).1 (front (replicate 2 0) (joined_in (map_tables s.args.map.now) s.args.i s.args.plan) c.joined_ids-m.new.out c.joined_ids-m.result (omega (arith, length-replicate {A = ℕ} 2 0, (s.requires.decided (ids-there s.args.join s.args.i s.args.j s.args.plan (given s.args.counter s.args.map.now s.args.lists.now) c.side_ids.result c.side_ids-2.result c.side_ids.ensures c.side_ids-2.ensures c.ids_left.result c.ids_left.ensures c.if-not-ids_left.false)).joined_few)) (both-refs s.args.plan.left s.args.plan.right c.boundary_ref-one.result c.boundary_ref-two.result _ _ c.boundary_ref-one.ensures c.boundary_ref-two.ensures (replicate 2 0) c.joined_ids-m.new.out c.joined_ids-m.result c.joined_ids-m.ensures).0 (both-refs s.args.plan.left s.args.plan.right c.boundary_ref-one.result c.boundary_ref-two.result _ _ c.boundary_ref-one.ensures c.boundary_ref-two.ensures (replicate 2 0) c.joined_ids-m.new.out c.joined_ids-m.result c.joined_ids-m.ensures).1).1 _ c.merge_with.ensures.made
