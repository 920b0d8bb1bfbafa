-- merge_lanes: the counter after it is above every id. Assumes nothing.
use Rattle.std.specs.Prelude.{Some}
use mathlib.Core.Path.{◌≡◌, refl, sym, ap, ◌∙◌, subst}
use mathlib.Core.Bool.{Bool, true, false, ◌||◌, cond}
use Prim.Native.Nat.{ℕ, ◌+◌, ◌<◌, ◌≤◌, max}
use native.Mathlib.Omega.{arith}
use native.Mathlib.Nat.{le-max_left}
use lib.Dec.{eqb, ltb, leb}
use borrow.Author.Tests.{eqb-true, eqb-false, leb-true, ltb-true, lt-ltb}
use Rattle.lists.specs.Every.{all}
use Rattle.lists.proofs.Every.{all_nil}
use Rattle.lists.proofs.Select.{all-weaken}
use Rattle.entities.specs.declared.Tolerance.{Tolerance}
use Rattle.entities.specs.Records.{Lane, Map}
use Rattle.rules.specs.Map.{lane}
use Rattle.rules.specs.Sound.{ids_named, next_id, last_counter, counter_above}
use Rattle.rules.specs.Ops.{counter_after}
use Rattle.rules.specs.Merge.{SidePlan, plan_ids}
use Rattle.laws.proofs.Merge.{merged_map}
use Rattle.laws.proofs.MergePlans.{Planned, none-new, both-pass}
use Rattle.laws.proofs.MergeNames.{merged-names}

full : (counter ids last : ℕ) → counter ≡ last → max counter 1 + ids ≤ last → (ids ≡ 0 → ⊥) → ⊥
full counter ids last e h z = let u : counter ≤ max counter 1 = le-max_left counter 1 in z (omega arith)

-- Where ids are wanted and the counter has them, it is above every id of the map.
pub counter-free : (counter ids : ℕ) (m : Map) → counter_above counter m ≡ true → leb (counter_after counter ids) last_counter ≡ true → eqb ids 0 ≡ false
    → all (λ i. ltb i (next_id counter)) (ids_named m) ≡ true
unfolding counter_above
counter-free counter ids m above room wanted = go (eqb counter last_counter) refl above
  where
    go : (c : Bool) → eqb counter last_counter ≡ c → (c || all (λ i. ltb i (next_id counter)) (ids_named m)) ≡ true → all (λ i. ltb i (next_id counter)) (ids_named m) ≡ true
    go true e h =
        let u : leb (next_id counter + ids) last_counter ≡ true = ap (λ c. leb (cond c counter (next_id counter + ids)) last_counter) (sym wanted) ∙ room in
        absurd (full counter ids last_counter (eqb-true counter last_counter e) (leb-true (next_id counter + ids) last_counter u) (eqb-false ids 0 wanted))
    go false e h = h

below_more : (i k : ℕ) → i < k → ltb i (next_id k) ≡ true
below_more i k h = let u : k ≤ max k 1 = le-max_left k 1 in lt-ltb i (max k 1) (omega arith)

-- The counter after a merge is above every id.
pub merged-counter : (tol : Tolerance) (counter : ℕ) (m : Map) (a b : Lane) (pl pr : SidePlan) → lane m a.id ≡ Some a → lane m b.id ≡ Some b
    → Planned m a.left.boundary pl → Planned m a.right.boundary pr → counter_above counter m ≡ true
    → leb (counter_after counter (plan_ids pl + plan_ids pr)) last_counter ≡ true
    → counter_above (counter_after counter (plan_ids pl + plan_ids pr)) (merged_map tol (next_id counter) m a b pl pr) ≡ true
unfolding counter_above
merged-counter tol counter m a b pl pr ea eb fl fr above room = go (eqb (plan_ids pl + plan_ids pr) 0) refl
  where
    ids : ℕ
    ids = plan_ids pl + plan_ids pr

    after : Map
    after = merged_map tol (next_id counter) m a b pl pr

    or_right : (p q : Bool) → q ≡ true → (p || q) ≡ true
    or_right true q t = refl
    or_right false q t = t

    none-wanted : (c : Bool) → eqb ids 0 ≡ true → (c || all (λ i. ltb i (next_id counter)) (ids_named m)) ≡ true → (c || all (λ i. ltb i (next_id counter)) (ids_named after)) ≡ true
    none-wanted true e h = refl
    none-wanted false e h =
        merged-names tol (next_id counter) m a b pl pr ea eb fl fr (λ i. ltb i (next_id counter)) h
        (subst (λ xs. all (λ i. ltb i (next_id counter)) xs ≡ true) (sym (none-new pl pr (next_id counter) e)) (all_nil (λ i. ltb i (next_id counter))))

    go : (c : Bool) → eqb ids 0 ≡ c
        → (eqb (cond c counter (next_id counter + ids)) last_counter || all (λ i. ltb i (next_id (cond c counter (next_id counter + ids)))) (ids_named after)) ≡ true
    go true e = none-wanted (eqb counter last_counter) e above
    go false e =
        let last = next_id counter + ids in
        or_right (eqb last last_counter) (all (λ i. ltb i (next_id last)) (ids_named after))
        (merged-names tol (next_id counter) m a b pl pr ea eb fl fr (λ i. ltb i (next_id last))
        (all-weaken (λ i. ltb i (next_id counter)) (λ i. ltb i (next_id last)) (ids_named m)
        (λ i t. let u = ltb-true i (next_id counter) t in below_more i last (omega arith)) (counter-free counter ids m above room e))
        (both-pass (λ i. ltb i (next_id last)) pl pr (next_id counter) (λ i low high. below_more i last high)))
