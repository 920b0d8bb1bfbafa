-- What merge-lanes yields, written out, and the fields of a lane after a merge. Assumes nothing.
use Rattle.std.specs.Prelude.{Option, None, Some}
use mathlib.Core.Path.{◌≡◌, refl, ap, ◌∙◌, sym}
use mathlib.Core.Bool.{Bool, true, false, not, cond}
use mathlib.Core.List.{List, [], ◌∷◌, ◌++◌, map}
use Prim.Native.Nat.{ℕ, ◌+◌}
use lib.Dec.{eqb}
use borrow.Author.Tests.{eqb-true, eq-eqb}
use Rattle.lists.specs.Select.{keep, find, has, without, place, ascending}
use Rattle.lists.proofs.Select.{keys-map, keys-keep}
use Rattle.entities.specs.declared.Tolerance.{Tolerance}
use Rattle.entities.specs.Records.{Lane, Boundary, Map}
use Rattle.rules.specs.Map.{lane, lane_ids}
use Rattle.rules.specs.Lane.{freed, road_lanes, junction_lanes, rule_lanes, unused}
use Rattle.rules.specs.Merge.{SidePlan, plan_ids, plan_joins, plan_line, redrawn, joined_boundary, new_boundary, replace_lane, links_after, merged_lane, after_merge}
use Rattle.laws.proofs.Exact.{changed_by, found_map}
use Rattle.laws.proofs.RemoveLinks.{other}

-- ---- the result

abbrev pub merged_lanes : Tolerance → ℕ → Map → Lane → Lane → SidePlan → SidePlan → List Lane
merged_lanes tol next m a b pl pr = map (after_merge tol next a b pl pr) (keep (λ l. not (eqb l.id b.id)) m.lanes)

-- the boundaries that a merge makes
abbrev pub new_ones : ℕ → Map → Lane → SidePlan → SidePlan → List Boundary
new_ones next m a pl pr = new_boundary m pl next a.left ++ new_boundary m pr (next + plan_ids pl) a.right

-- a boundary that stays
abbrev pub still_used : Tolerance → ℕ → Map → Lane → Lane → SidePlan → SidePlan → Boundary → Bool
still_used tol next m a b pl pr x = not (unused (a ∷ b ∷ []) (merged_lanes tol next m a b pl pr) x)

abbrev pub merged_map : Tolerance → ℕ → Map → Lane → Lane → SidePlan → SidePlan → Map
merged_map tol next m a b pl pr =
    record {
      lanes = merged_lanes tol next m a b pl pr;
      boundaries = keep (still_used tol next m a b pl pr) (map (joined_boundary pl pr a) m.boundaries) ++ new_ones next m a pl pr;
      roads = map (road_lanes (without b.id)) m.roads;
      junctions = map (junction_lanes (without b.id)) m.junctions;
      rules = map (rule_lanes (replace_lane a.id b.id) (replace_lane a.id b.id)) m.rules;
      stop_lines = m.stop_lines;
      crosswalks = m.crosswalks;
    }

-- ---- general

-- a row that is found, where the rows with one key are left out
pub find-other : (i x : ℕ) (ls : List Lane) → find (λ l. eqb l.id x) (keep (other i) ls) ≡ cond (eqb x i) None (find (λ l. eqb l.id x) ls)
unfolding find keep
find-other i x [] = go (eqb x i)
  where
    go : (b : Bool) → ◌≡◌ {A = Option Lane} None (cond b None None)
    go true = refl
    go false = refl
find-other i x (l ∷ ls) = go (eqb l.id i) (eqb l.id x) refl refl (find-other i x ls)
  where
    go : (p q : Bool) → eqb l.id i ≡ p → eqb l.id x ≡ q → find (λ k. eqb k.id x) (keep (other i) ls) ≡ cond (eqb x i) None (find (λ k. eqb k.id x) ls)
        → find (λ k. eqb k.id x) (cond (not p) (l ∷ keep (other i) ls) (keep (other i) ls)) ≡ cond (eqb x i) None (cond q (Some l) (find (λ k. eqb k.id x) ls))
    go true true e f r =
        let u : x ≡ i = sym (eqb-true l.id x f) ∙ eqb-true l.id i e in
        r ∙ rw (eq-eqb x i u)
    go true false e f r = r
    go false true e f r =
        let u : eqb x i ≡ false = ap (λ k. eqb k i) (sym (eqb-true l.id x f)) ∙ e in
        rw (f, u)
    go false false e f r = rw f r

-- a boundary joined in place keeps its id
pub joined-id : (pl pr : SidePlan) (a : Lane) (x : Boundary) → (joined_boundary pl pr a x).id ≡ x.id
joined-id pl pr a x = go (plan_joins pr a.right x.id) (plan_joins pl a.left x.id)
  where
    go : (c d : Bool) → (cond c (redrawn (plan_line pr a.right) x) (cond d (redrawn (plan_line pl a.left) x) x)).id ≡ x.id
    go true d = refl
    go false true = refl
    go false false = refl

-- ---- the fields of a lane after a merge

module _ (tol : Tolerance) (next : ℕ) (a b : Lane) (pl pr : SidePlan) where
  -- a field that the lane that takes over has like every other
  pub after-field : {X : Type 0} (g : Lane → X) (v : Lane → X) → ((l : Lane) → g (merged_lane tol.join pl pr next a b (links_after a.id b l)) ≡ v l)
      → ((l : Lane) → g (links_after a.id b l) ≡ v l) → (l : Lane) → g (after_merge tol next a b pl pr l) ≡ v l
  after-field g v h k l = go (eqb l.id a.id)
    where
      go : (c : Bool) → g (cond c (merged_lane tol.join pl pr next a b (links_after a.id b l)) (links_after a.id b l)) ≡ v l
      go true = h l
      go false = k l

  pub after-id : (l : Lane) → (after_merge tol next a b pl pr l).id ≡ l.id
  after-id = after-field (λ k. k.id) (λ l. l.id) (λ l. refl) (λ l. refl)

  pub after-left_neighbor : (l : Lane) → (after_merge tol next a b pl pr l).left_neighbor ≡ freed b.id l.left_neighbor
  after-left_neighbor = after-field (λ k. k.left_neighbor) (λ l. freed b.id l.left_neighbor) (λ l. refl) (λ l. refl)

  pub after-right_neighbor : (l : Lane) → (after_merge tol next a b pl pr l).right_neighbor ≡ freed b.id l.right_neighbor
  after-right_neighbor = after-field (λ k. k.right_neighbor) (λ l. freed b.id l.right_neighbor) (λ l. refl) (λ l. refl)

  abbrev pub preds_after : Lane → List ℕ
  preds_after l = cond (has b.id l.predecessors) (place a.id (without b.id l.predecessors)) (without b.id l.predecessors)

  abbrev pub succs_after : Lane → List ℕ
  succs_after l = cond (eqb l.id a.id) b.successors (without b.id l.successors)

  pub after_preds : (l : Lane) → (after_merge tol next a b pl pr l).predecessors ≡ preds_after l
  after_preds = after-field (λ k. k.predecessors) preds_after (λ l. refl) (λ l. refl)

  pub after_succs : (l : Lane) → (after_merge tol next a b pl pr l).successors ≡ succs_after l
  after_succs = after-field (λ k. k.successors) succs_after (λ l. refl) (λ l. refl)

  -- the lane with an id, after a merge
  pub lane-after : (m : Map) (x : ℕ) → lane (merged_map tol next m a b pl pr) x ≡ cond (eqb x b.id) None (changed_by (after_merge tol next a b pl pr) (lane m x))
  unfolding lane
  lane-after m x =
      found_map (λ l. l.id) (after_merge tol next a b pl pr) after-id x (keep (other b.id) m.lanes)
      ∙ (ap (changed_by (after_merge tol next a b pl pr)) (find-other b.id x m.lanes) ∙ go (eqb x b.id))
    where
      go : (c : Bool) → changed_by (after_merge tol next a b pl pr) (cond c None (find (λ l. eqb l.id x) m.lanes))
          ≡ cond c None (changed_by (after_merge tol next a b pl pr) (find (λ l. eqb l.id x) m.lanes))
      go true = refl
      go false = refl

  -- the ids of the lanes that are left, in their order
  pub lanes-left : (m : Map) → lane_ids (merged_map tol next m a b pl pr) ≡ map (λ l. l.id) (keep (other b.id) m.lanes)
  lanes-left m = keys-map (λ l. l.id) (after_merge tol next a b pl pr) after-id (keep (other b.id) m.lanes)

  pub lanes-ascend : (m : Map) → ascending (lane_ids m) ≡ true → ascending (lane_ids (merged_map tol next m a b pl pr)) ≡ true
  lanes-ascend m up = ap ascending (lanes-left m) ∙ keys-keep (λ l. l.id) (other b.id) m.lanes up
