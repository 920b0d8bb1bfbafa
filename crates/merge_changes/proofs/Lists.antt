-- The change set of a merge, read from the rows. Assumes nothing.
use Rattle.std.specs.Prelude.{Option, None, Some, Ok}
use mathlib.Core.Path.{◌≡◌, refl, sym, ap, ◌∙◌}
use Prim.Native.Nat.{ℕ, suc, ◌+◌}
use native.Mathlib.Omega.{arith}
use mathlib.Core.Bool.{Bool, true, false, not, ◌&&◌, ◌||◌, cond, true≢false}
use mathlib.Core.List.{List, [], ◌∷◌, ◌++◌, map}
use lib.Dec.{eqb}
use Rattle.lists.specs.Every.{all}
use Rattle.lists.specs.Select.{keep, has, ascending, same_numbers}
use Rattle.lists.proofs.Select.{has-place, has-keep, keep-map, keep_all, ascending-keep, ascending-place, all_keep, on_found}
use Rattle.lists.proofs.Same.{ascending-same}
use Rattle.entities.specs.Types.{lane_entity}
use Rattle.entities.specs.Records.{Line, Lane, Boundary, Map, ChangeSet}
use Rattle.rules.specs.Names.{Neighbor, Tolerance, Side, Left, Right, EntityRef, LaneKind, BoundaryKind, BoundaryRef, AttributeConflict}
use Rattle.lists.proofs.Booleans.{and-fst}
use Rattle.lookup.proofs.Laws.{sorted-ascends}
use borrow.Author.Tests.{eq-eqb, eqb-true}
use Rattle.rules.specs.Map.{lane, boundary, boundary_on, oriented_boundary, oriented_in, lanes_using_boundary, beside}
use Rattle.rules.specs.Edit.{refs, up_from, lanes_where, boundaries_where, when, warning}
use Rattle.rules.specs.Lane.{mentions}
use Rattle.rules.specs.Merge as M
use Rattle.rules.specs.Merge.{SidePlan, kept, in_place, fresh, side_plan, joined_lines, plan_ids, plan_joins, plan_warning, merged}
use Rattle.tables.specs.View.{Tables, rows, view, lane_of}
use Rattle.laws.proofs.KeptRows.{keep-on, has-found}
use Rattle.laws.proofs.Links.{eqb_swap}
use Rattle.laws.proofs.MergePlans.{both_new, ids-made}
use Rattle.mentions.specs.declared.Rows.TheVariants.{Lanes}
use Rattle.mentions.specs.Naming.{naming}
use Rattle.mentions.proofs.Filters.{lanes_named, roads_named, junctions_named, rules-named}
use Rattle.merge_plan.specs.Deciding.{counted}
use Rattle.merge_plan.specs.Sides.{side_ids}
use Rattle.merge_plan.specs.declared.Joined.{Joined}
use Rattle.merge_plan.specs.declared.Plan.{Plan}
use Rattle.merge_decide.proofs.Whole.{conflict_lineless, slot_lineless}
use Rattle.merge_lists.specs.Changes.{with_joined, joined_ids, touched, leaving, unshared, warnings_of}
use Rattle.merge_laid.proofs.Lanes.{all_one}
use Rattle.merge_laid.proofs.Merging.{Merging, a, b, pl, pr, next, left-planned, right-planned, found, leads, lanes-up, boundary-keys, known}

-- ---- created

pub plan-ids : (p : SidePlan) → plan_ids p ≡ side_ids (counted p)
plan-ids kept = refl
plan-ids (in_place l) = refl
plan-ids (fresh l) = refl

one_more : (n : ℕ) → n + 1 ≡ suc n
one_more n = omega arith

no_more : (n : ℕ) → n + 0 ≡ n
no_more n = omega arith

-- new ids count up
new-up : (p q : SidePlan) (n : ℕ) → both_new p q n ≡ up_from n (side_ids (counted p) + side_ids (counted q))
unfolding up_from
new-up kept kept n = refl
new-up kept (in_place d) n = refl
new-up kept (fresh d) n = ap (λ k. k ∷ []) (no_more n)
new-up (in_place l) kept n = refl
new-up (in_place l) (in_place d) n = refl
new-up (in_place l) (fresh d) n = ap (λ k. k ∷ []) (no_more n)
new-up (fresh l) kept n = refl
new-up (fresh l) (in_place d) n = refl
new-up (fresh l) (fresh d) n = ap (λ k. n ∷ k ∷ []) (one_more n)

-- ---- boundaries joined in place

-- the first lane's boundary is there
there : (tol : Tolerance) (m : Map) (side : Side) (l k : Lane) (c : Line) → side_plan tol m side l k ≡ Ok (in_place c) → (x : Boundary) × (boundary m (boundary_on side l).boundary ≡ Some x)
unfolding side_plan oriented_boundary
there tol m side l k c h =
    go (eqb r.boundary s.boundary) (same_numbers (lanes_using_boundary m.lanes r.boundary) (l.id ∷ []) && same_numbers (lanes_using_boundary m.lanes s.boundary) (k.id ∷ []))
    (boundary m r.boundary) refl h
  where
    r : BoundaryRef
    r = boundary_on side l

    s : BoundaryRef
    s = boundary_on side k

    go : (e alone : Bool) (o : Option Boundary) → boundary m r.boundary ≡ o
        → cond e (Ok kept) (joined_lines tol.join alone r.boundary s.boundary (oriented_in r o) (oriented_in s (boundary m s.boundary))) ≡ Ok (in_place c)
        → (x : Boundary) × (boundary m r.boundary ≡ Some x)
    go true alone o u v = let y : ◌≡◌ {A = ℕ} 0 1 = cc in absurd (omega arith)
    go false alone None u v = let y : ◌≡◌ {A = ℕ} 0 1 = cc in absurd (omega arith)
    go false alone (Some x) u v = (x, u)

all_yes : {A : Type 0} (xs : List A) → all (λ x. true) xs ≡ true
unfolding all
all_yes [] = refl
all_yes (x ∷ xs) = all_yes xs

-- it has a key of the table
keyed : (m : Map) (i : ℕ) (x : Boundary) → ascending (map (λ b. b.id) m.boundaries) ≡ true → boundary m i ≡ Some x → has i (map (λ b. b.id) m.boundaries) ≡ true
unfolding boundary
keyed m i x up e =
    ap (λ z. has i (map (λ b. b.id) z)) (sym (keep_all (λ (b : Boundary). true) m.boundaries (all_yes m.boundaries)))
    ∙ (has-found (λ (b : Boundary). b.id) (λ b. true) i m.boundaries up ∙ ap (on_found (λ (b : Boundary). true)) e)

-- joined in place, by the plan and by its count
joins-has : (p : SidePlan) (r : BoundaryRef) (n : ℕ) (ids : List ℕ) → has n (with_joined (counted p) r.boundary ids) ≡ (plan_joins p r n || has n ids)
joins-has kept r n ids = refl
joins-has (in_place l) r n ids = has-place n r.boundary ids ∙ ap (λ z. z || has n ids) (eqb_swap n r.boundary)
joins-has (fresh l) r n ids = refl

joins-up : (p : SidePlan) (i : ℕ) (ids : List ℕ) → ascending ids ≡ true → ascending (with_joined (counted p) i ids) ≡ true
joins-up kept i ids up = up
joins-up (in_place l) i ids up = ascending-place i ids up
joins-up (fresh l) i ids up = up

none-up : ascending [] ≡ true
unfolding ascending
none-up = refl

no-has : (n : ℕ) → has n [] ≡ false
unfolding has
no-has n = refl

-- a plan that joins a boundary in place joins one of the table
abbrev Joins : List ℕ → SidePlan → BoundaryRef → Type 0
Joins ks p r = (n : ℕ) → plan_joins p r n ≡ true → has n ks ≡ true

module _ (ks : List ℕ) (up : ascending ks ≡ true) (p q : SidePlan) (r s : BoundaryRef) (hp : Joins ks p r) (hq : Joins ks q s) where
  joined-keys : keep (λ n. plan_joins p r n || plan_joins q s n) ks ≡ joined_ids (counted p) r.boundary (counted q) s.boundary
  joined-keys =
      ascending-same (keep (λ n. plan_joins p r n || plan_joins q s n) ks) (joined_ids (counted p) r.boundary (counted q) s.boundary) (ascending-keep (λ n. plan_joins p r n || plan_joins q s n) ks up)
      (joins-up q s.boundary (with_joined (counted p) r.boundary []) (joins-up p r.boundary [] none-up)) same
    where
      known : (x y k : Bool) → (x ≡ true → k ≡ true) → (y ≡ true → k ≡ true) → (k && (x || y)) ≡ (y || (x || false))
      known true true k f g = rw (f refl)
      known true false k f g = rw (f refl)
      known false true k f g = rw (g refl)
      known false false true f g = refl
      known false false false f g = refl

      same : (n : ℕ) → has n (keep (λ n. plan_joins p r n || plan_joins q s n) ks) ≡ has n (joined_ids (counted p) r.boundary (counted q) s.boundary)
      same n =
          has-keep n (λ n. plan_joins p r n || plan_joins q s n) ks
          ∙ (known (plan_joins p r n) (plan_joins q s n) (has n ks) (hp n) (hq n)
          ∙ sym (joins-has q s n (with_joined (counted p) r.boundary []) ∙ ap (λ z. plan_joins q s n || z) (joins-has p r n [] ∙ ap (λ z. plan_joins p r n || z) (no-has n))))

-- ---- warnings

plan-unshared : (p : SidePlan) (n : ℕ) → plan_warning p n ≡ unshared (counted p) n
plan-unshared kept n = refl
plan-unshared (in_place l) n = refl
plan-unshared (fresh l) n = refl

-- ---- the whole change set

one_has : (ids : List ℕ) (i : ℕ) → same_numbers ids (i ∷ []) ≡ true → has i ids ≡ true
unfolding same_numbers has
one_has [] i h = absurd (true≢false (sym h))
one_has (x ∷ xs) i h = rw (eq-eqb i x (sym (eqb-true x i (and-fst (eqb x i) (same_numbers xs []) h))))

module _ {tol : Tolerance} {counter : ℕ} {t : Tables} {one two i j : ℕ} {p : Plan} {reach : ℕ} {gone : List ℕ} (k : Merging tol counter t one two i j p reach gone) where
  abbrev cs : ChangeSet
  cs = (merged tol (next k) (view t) (a k) (b k) (pl k) (pr k)).changes

  left-told : p.left ≡ counted (pl k)
  left-told = ap (λ (q : Plan). q.left) k.plans.told

  right-told : p.right ≡ counted (pr k)
  right-told = ap (λ (q : Plan). q.right) k.plans.told

  pub created-read : cs.created ≡ refs BoundaryKind (up_from (next k) (side_ids p.left + side_ids p.right))
  unfolding merged
  created-read =
      ap (refs BoundaryKind)
      (ids-made (view t) (next k) (a k) (pl k) (pr k) (left-planned k) (right-planned k) ∙ (new-up (pl k) (pr k) (next k) ∙ ap (up_from (next k)) (told left-told right-told)))
    where
      told : {l m r s : Joined} → l ≡ m → r ≡ s → side_ids m + side_ids s ≡ side_ids l + side_ids r
      told e f = rw (e, f)

  -- the first lane names the second, its successor
  first-names : mentions (b k).id (a k) ≡ true
  first-names = go (has (b k).id (a k).predecessors) (has (b k).id (a k).successors) (beside (a k) (b k).id) (one_has (a k).successors (b k).id (leads k))
    where
      go : (x y z : Bool) → y ≡ true → (x || y || z) ≡ true
      go true y z e = refl
      go false true z e = refl
      go false false z e = absurd (true≢false (sym e))

  lanes-read : lanes_where (λ l. eqb l.id (a k).id || mentions (b k).id l) (keep (λ l. not (eqb l.id (b k).id)) (view t).lanes) ≡ refs LaneKind (naming Lanes (b k).id t.lanes)
  unfolding view lane
  lanes-read =
      let ls = rows 52 (lane_of t.coordinates) t.lanes in
      let rest = keep (λ l. not (eqb l.id (b k).id)) ls in
      let ok = all_keep (λ l. not (eqb l.id (a k).id) || mentions (b k).id l) (λ l. not (eqb l.id (b k).id)) ls (all_one (λ l. l.id) (a k).id (mentions (b k).id) ls (a k) (lanes-up k) (found k) first-names) in
      ap (λ z. refs LaneKind (map (λ l. l.id) z))
      (keep-on (λ l. not (eqb l.id (a k).id) || mentions (b k).id l) (λ l. eqb l.id (a k).id || mentions (b k).id l) (mentions (b k).id) rest ok (λ l h. either (eqb l.id (a k).id) (mentions (b k).id l) h))
      ∙ lanes_named (b k).id t.lanes t.coordinates
    where
      either : (x y : Bool) → (not x || y) ≡ true → (x || y) ≡ y
      either true true h = refl
      either true false h = absurd (true≢false (sym h))
      either false y h = refl

  bounds-up : ascending (map (λ (x : Boundary). x.id) (view t).boundaries) ≡ true
  bounds-up = ap ascending (boundary-keys k) ∙ sorted-ascends 4096 5 t.boundaries (known k).boundaries

  side-joins : (side : Side) (q : SidePlan) → side_plan tol (view t) side (a k) (b k) ≡ Ok q → Joins (map (λ x. x.id) (view t).boundaries) q (boundary_on side (a k))
  side-joins side kept e n h = absurd (true≢false (sym h))
  side-joins side (fresh l) e n h = absurd (true≢false (sym h))
  side-joins side (in_place l) e n h =
      let (x, u) = there tol (view t) side (a k) (b k) l e in
      ap (λ z. has z (map (λ x. x.id) (view t).boundaries)) (sym (eqb-true (boundary_on side (a k)).boundary n h)) ∙ keyed (view t) (boundary_on side (a k)).boundary x bounds-up u

  boundaries-read : boundaries_where (λ x. plan_joins (pl k) (a k).left x.id || plan_joins (pr k) (a k).right x.id) (view t).boundaries
      ≡ refs BoundaryKind (joined_ids p.left (a k).left.boundary p.right (a k).right.boundary)
  boundaries-read =
      ap (refs BoundaryKind)
      (sym (keep-map (λ n. plan_joins (pl k) (a k).left n || plan_joins (pr k) (a k).right n) (λ (x : Boundary). x.id) (view t).boundaries)
      ∙ (joined-keys (map (λ x. x.id) (view t).boundaries) bounds-up (pl k) (pr k) (a k).left (a k).right (side-joins Left (pl k) k.plans.left-plan) (side-joins Right (pr k) k.plans.right-plan)
      ∙ told left-told right-told))
    where
      told : {l m r s : Joined} → l ≡ m → r ≡ s → joined_ids m (a k).left.boundary s (a k).right.boundary ≡ joined_ids l (a k).left.boundary r (a k).right.boundary
      told e f = rw (e, f)

  pub modified-read : cs.modified ≡ touched (b k).id (joined_ids p.left (a k).left.boundary p.right (a k).right.boundary) t.lanes t.roads t.junctions t.rules
  unfolding merged touched view
  modified-read =
      five lanes-read boundaries-read (roads_named (b k).id t.roads) (junctions_named (b k).id t.junctions) (rules-named (b k).id t.rules)
    where
      five : {x y z u v x' y' z' u' v' : List EntityRef} → x ≡ x' → y ≡ y' → z ≡ z' → u ≡ u' → v ≡ v' → x ++ (y ++ (z ++ (u ++ v))) ≡ x' ++ (y' ++ (z' ++ (u' ++ v')))
      five e f g h i = rw (e, f, g, h, i)

  pub deleted-read : cs.deleted ≡ leaving (b k).id gone
  unfolding merged
  deleted-read = ap (λ z. refs LaneKind ((b k).id ∷ []) ++ refs BoundaryKind z) (sym k.goes)

  pub warnings-read : cs.warnings ≡ warnings_of t.lanes i j p.left p.right (next k)
  unfolding merged lane_of
  warnings-read =
      five (conflict_lineless t.coordinates t.lanes i j)
      (slot_lineless t.coordinates t.lanes Left j) (slot_lineless t.coordinates t.lanes Left i)
      (slot_lineless t.coordinates t.lanes Right j) (slot_lineless t.coordinates t.lanes Right i) left-told right-told
    where
      five : {c c' : Bool} → c ≡ c' → {u u' v v' x x' y y' : Option Neighbor} → u ≡ u' → v ≡ v' → x ≡ x' → y ≡ y' → {l r : Joined} → l ≡ counted (pl k) → r ≡ counted (pr k)
          → when c (warning AttributeConflict (lane_entity (a k).id) (lane_entity (b k).id ∷ []))
          ++ (M.dropped (a k).id u v ++ (M.dropped (a k).id x y ++ (plan_warning (pl k) (next k) ++ plan_warning (pr k) (next k + plan_ids (pl k)))))
          ≡ when c' (warning AttributeConflict (lane_entity (a k).id) (lane_entity (b k).id ∷ []))
          ++ (M.dropped (a k).id u' v' ++ (M.dropped (a k).id x' y' ++ (unshared l (next k) ++ unshared r (next k + side_ids l))))
      five c e f g h l r = rw (c, e, f, g, h, l, r, plan-unshared (pl k) (next k), plan-ids (pl k), plan-unshared (pr k) (next k + side_ids (counted (pl k))))
