-- The boundaries that a merge's code lets go are those that the merged map leaves unused; they are four at most. Assumes nothing.
use mathlib.Core.Path.{◌≡◌, refl, sym, ap, ◌∙◌}
use Prim.Native.Nat.{ℕ, ◌+◌, ◌≤◌}
use native.Mathlib.Omega.{arith}
use mathlib.Core.Bool.{Bool, true, false, not, ◌&&◌, ◌||◌, cond}
use mathlib.Core.List.{List, [], ◌∷◌, map}
use lib.Dec.{eqb, leb, ltb}
use lib.Ieee.{Float}
use lib.ListN.{length, drop}
use borrow.Author.Tests.{eqb-true, ltb-true}
use Rattle.lists.specs.Rows.{keys}
use Rattle.lists.specs.Select.{keep, any, has, ascending}
use Rattle.lists.proofs.Booleans.{neither, or-false}
use Rattle.lists.proofs.Rows.{length-keys}
use Rattle.lists.proofs.Select.{all-numbers, any-keep, any-map, any-one, any-or, any_same, has-append, keep-map, keep-none, length-keep, on_found, above-all, all-weaken, ascending-tail}
use Rattle.entities.specs.declared.BoundaryRef.{BoundaryRef}
use Rattle.entities.specs.Records.{Lane, Boundary}
use Rattle.rules.specs.Names.{Tolerance}
use Rattle.rules.specs.Map.{lane, uses}
use Rattle.rules.specs.Sound.{next_id, last_counter}
use Rattle.rules.specs.Lane.{unused}
use Rattle.rules.specs.Merge.{SidePlan, kept, in_place, fresh, plan_ids, plan_ref, links_after, merged_lane, after_merge, merged}
use Rattle.rules.specs.Ops.{counter_after}
use Rattle.tables.specs.View.{Tables, word, rows, view, lane_of}
use Rattle.laws.proofs.KeptRows.{keep-on}
use Rattle.laws.proofs.Links.{eqb_swap}
use Rattle.laws.proofs.Merge.{merged_lanes}
use Rattle.laws.proofs.MergePlans.{plan_new, both_new}
use Rattle.lookup.specs.Lookup.{row_at, row_uses, used_outside, sorted_table}
use Rattle.lookup.proofs.Laws.{outside-lanes, sorted-ascends}
use Rattle.merge_plan.specs.Deciding.{lane_in, counted}
use Rattle.merge_plan.specs.Sides.{is_fresh}
use Rattle.merge_plan.specs.declared.Joined.{Joined}
use Rattle.merge_plan.specs.declared.Plan.{Plan}
use Rattle.merge_laid.proofs.Planning.{Planning}
use Rattle.merge_laid.proofs.Planning as P
use Rattle.merge_gone.specs.Leaving.{held, idle, gone_of}

-- ---- a side's reference after the merge

-- to an old boundary, where it has no new one
ref-old : (q : SidePlan) (m n : ℕ) (r : BoundaryRef) → has n (plan_new q m) ≡ false → eqb (plan_ref q m r).boundary n ≡ (not (is_fresh (counted q)) && eqb r.boundary n)
unfolding has
ref-old kept m n r h = refl
ref-old (in_place l) m n r h = refl
ref-old (fresh l) m n r h = eqb_swap m n ∙ (neither (eqb n m) false h).0

-- ---- which go

module _ {tol : Tolerance} {counter : ℕ} {t : Tables} {one two i j : ℕ} {p : Plan} (k : Planning tol counter t one two i j p) where
  abbrev c : List Float
  c = t.coordinates

  abbrev a : Lane
  a = lane_in t.coordinates t.lanes i

  abbrev b : Lane
  b = lane_in t.coordinates t.lanes j

  abbrev pl : SidePlan
  pl = k.plans.left

  abbrev pr : SidePlan
  pr = k.plans.right

  abbrev next : ℕ
  next = next_id counter

  -- the ids of the table's boundaries
  abbrev ks : List ℕ
  ks = keys 5 (word 0 t.boundaries) (drop 1 t.boundaries)

  -- a lane with the merged lane's references
  abbrev mine : ℕ → Lane → Bool
  mine n l = eqb (plan_ref pl next l.left).boundary n || eqb (plan_ref pr (next + plan_ids pl) l.right).boundary n

  after-uses : (n : ℕ) (l : Lane)
      → (not (eqb l.id b.id) && uses n (after_merge tol next a b pl pr l))
      ≡ ((eqb l.id a.id && (not (eqb l.id b.id) && mine n l)) || (not (eqb l.id a.id) && not (eqb l.id b.id) && uses n l))
  after-uses n l = go (eqb l.id a.id)
    where
      go : (x : Bool)
          → (not (eqb l.id b.id) && uses n (cond x (merged_lane tol.join pl pr next a b (links_after a.id b l)) (links_after a.id b l)))
          ≡ ((x && (not (eqb l.id b.id) && mine n l)) || (not x && not (eqb l.id b.id) && uses n l))
      go true = sym (or-false (not (eqb l.id b.id) && mine n l))
      go false = refl

  -- the merged lane uses it, or a third one
  used-after : (n : ℕ) → any (uses n) (merged_lanes tol next (view t) a b pl pr) ≡ (mine n a || used_outside t.lanes n a.id b.id)
  unfolding view lane
  used-after n =
      let ls : List Lane = rows 52 (lane_of c) t.lanes in
      let x : Lane → Bool = λ l. not (eqb l.id b.id) && mine n l in
      let y : Lane → Bool = λ l. not (eqb l.id a.id) && not (eqb l.id b.id) && uses n l in
      any-map (uses n) (after_merge tol next a b pl pr) (keep (λ l. not (eqb l.id b.id)) ls)
      ∙ (any-keep (λ l. uses n (after_merge tol next a b pl pr l)) (λ l. not (eqb l.id b.id)) ls
      ∙ (any_same (λ l. not (eqb l.id b.id) && uses n (after_merge tol next a b pl pr l)) (λ l. (eqb l.id a.id && x l) || y l) ls (after-uses n)
      ∙ (any-or (λ l. eqb l.id a.id && x l) y ls
      ∙ (ap (λ z. z || any y ls) (any-one (λ l. l.id) a.id x ls (P.lanes-up k) ∙ (ap (on_found x) (P.found k) ∙ ap (λ z. z && mine n a) (P.two_lanes k)))
      ∙ ap (λ z. mine n a || z) (sym (outside-lanes c t.lanes n a.id b.id))))))

  -- by the id alone
  abbrev drops : ℕ → Bool
  drops n = any (uses n) (a ∷ b ∷ []) && not (any (uses n) (merged_lanes tol next (view t) a b pl pr))

  abbrev goes_by : Joined → Joined → ℕ → Bool
  goes_by l r n = (row_uses n (row_at 52 t.lanes i) || row_uses n (row_at 52 t.lanes j)) && idle t.lanes i j l r n

  held-is : (n : ℕ) → has n (both_new pl pr next) ≡ false → mine n a ≡ held t.lanes i (counted pl) (counted pr) n
  unfolding lane_of
  held-is n h =
      let (x, y) = neither (has n (plan_new pl next)) (has n (plan_new pr (next + plan_ids pl))) (sym (has-append n (plan_new pl next) (plan_new pr (next + plan_ids pl))) ∙ h) in
      both (ref-old pl next n a.left x) (ref-old pr (next + plan_ids pl) n a.right y)
    where
      both : {x y u v : Bool} → x ≡ u → y ≡ v → (x || y) ≡ (u || v)
      both e f = rw (e, f)

  drops-is : (n : ℕ) → has n (both_new pl pr next) ≡ false → drops n ≡ goes_by (counted pl) (counted pr) n
  unfolding lane_of any
  drops-is n h =
      ap (λ z. any (uses n) (a ∷ b ∷ []) && not z) (used-after n ∙ ap (λ z. z || used_outside t.lanes n a.id b.id) (held-is n h))
      ∙ ap (λ z. (uses n a || z) && idle t.lanes i j (counted pl) (counted pr) n) (or-false (uses n b))

  -- THE LAW: as document 01 has it
  pub gone-is : leb (counter_after counter (plan_ids k.plans.left + plan_ids k.plans.right)) last_counter ≡ true
      → gone_of t.lanes i j p.left p.right t.boundaries
      ≡ map (λ x. x.id)
      (keep (unused (lane_in t.coordinates t.lanes i ∷ lane_in t.coordinates t.lanes j ∷ [])
      (merged tol (next_id counter) (view t) (lane_in t.coordinates t.lanes i) (lane_in t.coordinates t.lanes j) k.plans.left k.plans.right).result.lanes) (view t).boundaries)
  unfolding gone_of merged
  gone-is ids =
      ap (λ (q : Plan). gone_of t.lanes i j q.left q.right t.boundaries) k.plans.told
      ∙ (keep-on (λ n. has n ks) (goes_by (counted pl) (counted pr)) drops ks (all-numbers (λ n. has n ks) ks (λ n h. h)) (λ n h. sym (drops-is n (P.not_new k ids n h)))
      ∙ (ap (keep drops) (sym (P.boundary-keys k)) ∙ keep-map drops (λ (x : Boundary). x.id) (view t).boundaries))

-- ---- how many go

-- a number stands once in a list that ascends
keep-once : (y : ℕ) (xs : List ℕ) → ascending xs ≡ true → length (keep (eqb y) xs) ≤ 1
unfolding keep ascending
keep-once y [] h = omega arith
keep-once y (x ∷ xs) h = go (eqb y x) refl (keep-once y xs (ascending-tail x xs h))
  where
    go : (e : Bool) → eqb y x ≡ e → length (keep (eqb y) xs) ≤ 1 → length (cond e (x ∷ keep (eqb y) xs) (keep (eqb y) xs)) ≤ 1
    go true e r = rw (keep-none (eqb y) xs (all-weaken (ltb x) (λ z. not (eqb y z)) xs (λ z l. other z l (eqb y z) refl) (above-all x xs h))) (omega arith)
      where
        other : (z : ℕ) → ltb x z ≡ true → (b : Bool) → eqb y z ≡ b → not b ≡ true
        other z l true q = let u = ltb-true x z l in let v = eqb-true y x e in let w = eqb-true y z q in absurd (omega arith)
        other z l false q = refl
    go false e r = r

module _ {A : Type 0} (p q : A → Bool) where
  either-fewer : (xs : List A) → length (keep (λ x. p x || q x) xs) ≤ length (keep p xs) + length (keep q xs)
  unfolding keep
  either-fewer [] = omega arith
  either-fewer (x ∷ xs) = go (p x) (q x) (either-fewer xs)
    where
      go : (a b : Bool) → length (keep (λ x. p x || q x) xs) ≤ length (keep p xs) + length (keep q xs)
          → length (cond (a || b) (x ∷ keep (λ x. p x || q x) xs) (keep (λ x. p x || q x) xs)) ≤ length (cond a (x ∷ keep p xs) (keep p xs)) + length (cond b (x ∷ keep q xs) (keep q xs))
      go true true r = omega arith
      go true false r = omega arith
      go false true r = omega arith
      go false false r = omega arith

  both_fewer : (xs : List A) → length (keep (λ x. p x && q x) xs) ≤ length (keep p xs)
  unfolding keep
  both_fewer [] = omega arith
  both_fewer (x ∷ xs) = go (p x) (q x) (both_fewer xs)
    where
      go : (a b : Bool) → length (keep (λ x. p x && q x) xs) ≤ length (keep p xs)
          → length (cond (a && b) (x ∷ keep (λ x. p x && q x) xs) (keep (λ x. p x && q x) xs)) ≤ length (cond a (x ∷ keep p xs) (keep p xs))
      go true true r = omega arith
      go true false r = omega arith
      go false b r = r

module _ (lanes : List ℕ) (i j : ℕ) (l r : Joined) (boundaries : List ℕ) where
  -- no more than there are
  pub gone-within : length (gone_of lanes i j l r boundaries) ≤ word 0 boundaries
  unfolding gone_of
  gone-within =
      let ids = keys 5 (word 0 boundaries) (drop 1 boundaries) in
      omega (arith, length-keep (λ n. (row_uses n (row_at 52 lanes i) || row_uses n (row_at 52 lanes j)) && idle lanes i j l r n) ids, length-keys 5 (word 0 boundaries) (drop 1 boundaries))

  -- those of the two lanes' four
  pub gone-four : sorted_table 4096 5 boundaries ≡ true → length (gone_of lanes i j l r boundaries) ≤ 4
  unfolding gone_of
  gone-four h =
      let ids = keys 5 (word 0 boundaries) (drop 1 boundaries) in
      let up = sorted-ascends 4096 5 boundaries h in
      let one = row_at 52 lanes i in
      let two = row_at 52 lanes j in
      omega (
        arith,
        both_fewer (λ n. row_uses n one || row_uses n two) (idle lanes i j l r) ids,
        either-fewer (λ n. row_uses n one) (λ n. row_uses n two) ids,
        either-fewer (eqb (word 2 one)) (eqb (word 4 one)) ids,
        either-fewer (eqb (word 2 two)) (eqb (word 4 two)) ids,
        keep-once (word 2 one) ids up,
        keep-once (word 4 one) ids up,
        keep-once (word 2 two) ids up,
        keep-once (word 4 two) ids up,
      )
