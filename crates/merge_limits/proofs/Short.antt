-- The lines of a merged map keep the limit of a line exactly where those that the code draws do. Assumes nothing.
use Rattle.std.specs.Prelude.{Option, None, Some, Ok}
use mathlib.Core.Path.{◌≡◌, refl, sym, ap, ◌∙◌, subst}
use Prim.Native.Nat.{ℕ, ◌+◌}
use mathlib.Core.Bool.{Bool, true, false, not, ◌&&◌, ◌||◌, cond, true≢false}
use mathlib.Core.List.{[], ◌∷◌, map}
use lib.Dec.{eqb, leb}
use lib.Ieee.{Float}
use lib.ListN.{length}
use borrow.Author.Tests.{eq-eqb, eqb-true}
use Rattle.lists.specs.Every.{all}
use Rattle.lists.specs.Select.{keep, find, same_numbers}
use Rattle.lists.proofs.Booleans.{and_both, and-fst, and-snd, or_left, or_right, same_test}
use Rattle.lists.proofs.Every.{all_append, all_cons, all_head, all_nil}
use Rattle.lists.proofs.Select.{all_keep, all_map, all-weaken}
use Rattle.entities.specs.declared.BoundaryRef.{BoundaryRef}
use Rattle.entities.specs.declared.Refusal.TheVariants as R
use Rattle.entities.specs.Records.{Line, Lane, Boundary, Map}
use Rattle.rules.specs.Names.{Side, Tolerance}
use Rattle.rules.specs.Map.{lane, boundary, boundary_on, oriented_in, oriented_boundary, lanes_using_boundary}
use Rattle.rules.specs.Sound.{lines, optional_line}
use Rattle.rules.specs.Merge.{SidePlan, kept, in_place, fresh, joined_lines, side_plan, plan_ids, plan_joins, plan_line, redrawn, joined_boundary, new_boundary, joined_center, links_after, merged_lane, after_merge}
use Rattle.soundness.proofs.Back.{five-of}
use Rattle.soundness.proofs.Whole.{all_lines}
use Rattle.laws.proofs.Connect.{found_all}
use Rattle.laws.proofs.Exact.{changed_by, found_map}
use Rattle.laws.proofs.KeptRows.{found-keep}
use Rattle.laws.proofs.Lawful.{yields, no-yield}
use Rattle.laws.proofs.Links.{found-passes}
use Rattle.laws.proofs.Merge.{merged_map, new_ones, still_used, joined-id, lane-after}
use Rattle.laws.proofs.MergePlans.{both_of, Planned, new-one}
use Rattle.laws.proofs.MergeStill.{joined-stays}
use Rattle.lookup.specs.Lookup.{count_of}
use Rattle.merge_plan.specs.Deciding.{counted}
use Rattle.merge_plan.specs.Sides.{side_points, center_points}
use Rattle.merge_gone.specs.declared.Sides.{Sides}
use Rattle.merge_gone.specs.Leaving.{joins, overdrawn, lines_fit}
use Rattle.merge_limits.proofs.Asked.{side-many}
use Rattle.merge_limits.proofs.Points.{joins-is}

-- ---- a side

-- the boundary that a side is joined in is there
abbrev pub There : Map → BoundaryRef → SidePlan → Type 0
There m r q = plan_joins q r r.boundary ≡ true → (x : Boundary) × (boundary m r.boundary ≡ Some x)

joined-there : (m : Map) (join : Float) (alone : Bool) (ra rb : BoundaryRef) (oa ob : Option Boundary) → boundary m ra.boundary ≡ oa
    → (q : SidePlan) → joined_lines join alone ra.boundary rb.boundary (oriented_in ra oa) (oriented_in rb ob) ≡ Ok q → There m ra q
joined-there m join alone ra rb None ob ea q h j = absurd (no-yield (R.BoundaryAbsent ra.boundary) q h)
joined-there m join alone ra rb (Some x) ob ea q h j = (x, ea)

pub side-there : (tol : Tolerance) (m : Map) (side : Side) (a b : Lane) (q : SidePlan) → side_plan tol m side a b ≡ Ok q → There m (boundary_on side a) q
unfolding side_plan oriented_boundary
side-there tol m side a b q h =
    let ra = boundary_on side a in
    let rb = boundary_on side b in
    go (eqb ra.boundary rb.boundary) (same_numbers (lanes_using_boundary m.lanes ra.boundary) (a.id ∷ []) && same_numbers (lanes_using_boundary m.lanes rb.boundary) (b.id ∷ [])) h
  where
    go : (same alone : Bool)
        → cond same (Ok kept) (joined_lines tol.join alone (boundary_on side a).boundary (boundary_on side b).boundary
        (oriented_in (boundary_on side a) (boundary m (boundary_on side a).boundary)) (oriented_in (boundary_on side b) (boundary m (boundary_on side b).boundary)))
        ≡ Ok q → There m (boundary_on side a) q
    go true alone h = subst (There m (boundary_on side a)) (yields h) (λ e. absurd (true≢false (sym e)))
    go false alone h = joined-there m tol.join alone (boundary_on side a) (boundary_on side b) (boundary m (boundary_on side a).boundary) (boundary m (boundary_on side b).boundary) refl q h

-- it is the side's own
joins-own : (q : SidePlan) (r : BoundaryRef) (n : ℕ) → plan_joins q r n ≡ true → r.boundary ≡ n
joins-own kept r n h = absurd (true≢false (sym h))
joins-own (in_place l) r n h = eqb-true r.boundary n h
joins-own (fresh l) r n h = absurd (true≢false (sym h))

-- at most 256 points
abbrev short : Line → Bool
short l = leb (length l) 256

-- a side that is not joined in place draws nothing, or a new boundary's line
new-short : (m : Map) (q : SidePlan) (id : ℕ) (r : BoundaryRef) → Planned m r.boundary q → plan_joins q r r.boundary ≡ false
    → all (λ x. short x.geometry) (new_boundary m q id r) ≡ true → short (plan_line q r) ≡ true
new-short m kept id r f n h = refl
new-short m (in_place l) id r f n h = absurd (true≢false (sym (eq-eqb r.boundary r.boundary refl) ∙ n))
new-short m (fresh l) id r f n h =
    all_head (λ (x : Boundary). short x.geometry) (record { id = id; kind = f.1.0.kind; geometry = l; attributes = f.1.0.attributes }) []
    (ap (all (λ (x : Boundary). short x.geometry)) (sym (new-one m id r l f.1.0 f.1.1)) ∙ h)

-- and the other way round
short-new : (m : Map) (q : SidePlan) (id : ℕ) (r : BoundaryRef) → Planned m r.boundary q → (plan_joins q r r.boundary ≡ false → short (plan_line q r) ≡ true)
    → all (λ x. short x.geometry) (new_boundary m q id r) ≡ true
short-new m kept id r f h = all_nil (λ (x : Boundary). short x.geometry)
short-new m (in_place l) id r f h = all_nil (λ (x : Boundary). short x.geometry)
short-new m (fresh l) id r f h =
    ap (all (λ (x : Boundary). short x.geometry)) (new-one m id r l f.1.0 f.1.1)
    ∙ all_cons (λ (x : Boundary). short x.geometry) (record { id = id; kind = f.1.0.kind; geometry = l; attributes = f.1.0.attributes }) [] (h refl) (all_nil (λ (x : Boundary). short x.geometry))

-- ---- the merged map

module _ (tol : Tolerance) (next : ℕ) (m : Map) (a b : Lane) (pl pr : SidePlan) (ea : lane m a.id ≡ Some a) (apart : eqb a.id b.id ≡ false)
    (fl : Planned m a.left.boundary pl) (fr : Planned m a.right.boundary pr) (tl : There m a.left pl) (tr : There m a.right pr) where
  abbrev after : Map
  after = merged_map tol next m a b pl pr

  abbrev joint : Option Line
  joint = joined_center tol.join a.centerline b.centerline

  abbrev pub sides : Sides
  sides = record { left = counted pl; left_id = a.left.boundary; right = counted pr; right_id = a.right.boundary }

  abbrev still : Boundary → Bool
  still = still_used tol next m a b pl pr

  abbrev joint-boundary : Boundary → Boundary
  joint-boundary = joined_boundary pl pr a

  abbrev ok : Boundary → Bool
  ok x = short x.geometry

  -- a joined boundary's line
  right-line : (x : Boundary) → plan_joins pr a.right x.id ≡ true → (joint-boundary x).geometry ≡ plan_line pr a.right
  right-line x e = ap (λ z. (cond z (redrawn (plan_line pr a.right) x) (cond (plan_joins pl a.left x.id) (redrawn (plan_line pl a.left) x) x)).geometry) e

  left-line : (x : Boundary) → plan_joins pr a.right x.id ≡ false → plan_joins pl a.left x.id ≡ true → (joint-boundary x).geometry ≡ plan_line pl a.left
  left-line x e f =
      ap (λ z. (cond z (redrawn (plan_line pr a.right) x) (cond (plan_joins pl a.left x.id) (redrawn (plan_line pl a.left) x) x)).geometry) e
      ∙ ap (λ z. (cond z (redrawn (plan_line pl a.left) x) x).geometry) f

  own_line : (x : Boundary) → plan_joins pr a.right x.id ≡ false → plan_joins pl a.left x.id ≡ false → (joint-boundary x).geometry ≡ x.geometry
  own_line x e f =
      ap (λ z. (cond z (redrawn (plan_line pr a.right) x) (cond (plan_joins pl a.left x.id) (redrawn (plan_line pl a.left) x) x)).geometry) e
      ∙ ap (λ z. (cond z (redrawn (plan_line pl a.left) x) x).geometry) f

  -- both sides are joined in one boundary
  both-over : (n : ℕ) → plan_joins pl a.left n ≡ true → plan_joins pr a.right n ≡ true → overdrawn sides ≡ true
  both-over n e f =
      let g : a.right.boundary ≡ n = joins-own pr a.right n f in
      and_both (joins (counted pl) a.left.boundary a.right.boundary) (joins (counted pr) a.right.boundary a.right.boundary)
      (joins-is pl a.left a.right.boundary ∙ (ap (plan_joins pl a.left) g ∙ e)) (joins-is pr a.right a.right.boundary ∙ (ap (plan_joins pr a.right) g ∙ f))

  over-both : overdrawn sides ≡ true → (n : ℕ) → plan_joins pl a.left n ≡ true → plan_joins pr a.right n ≡ true
  over-both o n e =
      let x = joins (counted pl) a.left.boundary a.right.boundary in
      let y = joins (counted pr) a.right.boundary a.right.boundary in
      let g : a.left.boundary ≡ a.right.boundary = joins-own pl a.left a.right.boundary (sym (joins-is pl a.left a.right.boundary) ∙ and-fst x y o) in
      let h : a.left.boundary ≡ n = joins-own pl a.left n e in
      ap (plan_joins pr a.right) (sym h ∙ g) ∙ (sym (joins-is pr a.right a.right.boundary) ∙ and-snd x y o)

  -- ---- the merged map keeps the limit: so do the lines that are drawn

  module _ (h : all ok after.boundaries ≡ true) where
    abbrev halves : (all ok (keep still (map joint-boundary m.boundaries)) ≡ true) × (all ok (new_ones next m a pl pr) ≡ true)
    halves = both_of ok (keep still (map joint-boundary m.boundaries)) (new_ones next m a pl pr) h

    -- a boundary that is joined in place stays
    stays-short : (n : ℕ) (x : Boundary) → boundary m n ≡ Some x → (plan_joins pl a.left x.id || plan_joins pr a.right x.id) ≡ true → short (joint-boundary x).geometry ≡ true
    unfolding boundary
    stays-short n x e j =
        let own : (joint-boundary x).id ≡ x.id = joined-id pl pr a x in
        let there : find (λ y. eqb y.id n) (map joint-boundary m.boundaries) ≡ Some (joint-boundary x) = found_map (λ y. y.id) joint-boundary (joined-id pl pr a) n m.boundaries ∙ ap (changed_by joint-boundary) e in
        let used : still (joint-boundary x) ≡ true = joined-stays tol next a b pl pr m ea apart (joint-boundary x) (ap (λ i. plan_joins pl a.left i || plan_joins pr a.right i) own ∙ j) in
        found_all (λ y. eqb y.id n) ok (keep still (map joint-boundary m.boundaries)) (joint-boundary x)
        (found-keep still (λ y. eqb y.id n) (joint-boundary x) (map joint-boundary m.boundaries) there used) halves.0

    -- its id
    id-there : (n : ℕ) (x : Boundary) → boundary m n ≡ Some x → n ≡ x.id
    unfolding boundary
    id-there n x e = sym (eqb-true x.id n (found-passes (λ y. eqb y.id n) m.boundaries x e))

    new-halves : (all ok (new_boundary m pl next a.left) ≡ true) × (all ok (new_boundary m pr (next + plan_ids pl) a.right) ≡ true)
    new-halves = both_of ok (new_boundary m pl next a.left) (new_boundary m pr (next + plan_ids pl) a.right) halves.1

    left-needs : (overdrawn sides || short (plan_line pl a.left)) ≡ true
    left-needs = go (plan_joins pl a.left a.left.boundary) refl
      where
        one : (x : Boundary) → boundary m a.left.boundary ≡ Some x → plan_joins pl a.left x.id ≡ true → (z : Bool) → plan_joins pr a.right x.id ≡ z
            → (overdrawn sides || short (plan_line pl a.left)) ≡ true
        one x e j true f = or_left (overdrawn sides) (short (plan_line pl a.left)) (both-over x.id j f)
        one x e j false f =
            or_right (overdrawn sides) (short (plan_line pl a.left))
            (ap short (sym (left-line x f j)) ∙ stays-short a.left.boundary x e (or_left (plan_joins pl a.left x.id) (plan_joins pr a.right x.id) j))

        go : (z : Bool) → plan_joins pl a.left a.left.boundary ≡ z → (overdrawn sides || short (plan_line pl a.left)) ≡ true
        go true e =
            let (x, f) = tl e in
            one x f (ap (plan_joins pl a.left) (sym (id-there a.left.boundary x f)) ∙ e) (plan_joins pr a.right x.id) refl
        go false e = or_right (overdrawn sides) (short (plan_line pl a.left)) (new-short m pl next a.left fl e new-halves.0)

    right-needs : short (plan_line pr a.right) ≡ true
    right-needs = go (plan_joins pr a.right a.right.boundary) refl
      where
        go : (z : Bool) → plan_joins pr a.right a.right.boundary ≡ z → short (plan_line pr a.right) ≡ true
        go true e =
            let (x, f) = tr e in
            let j : plan_joins pr a.right x.id ≡ true = ap (plan_joins pr a.right) (sym (id-there a.right.boundary x f)) ∙ e in
            ap short (sym (right-line x j)) ∙ stays-short a.right.boundary x f (or_right (plan_joins pl a.left x.id) (plan_joins pr a.right x.id) j)
        go false e = new-short m pr (next + plan_ids pl) a.right fr e new-halves.1

  -- a lane's explicit centreline
  abbrev center_ok : Lane → Bool
  center_ok l = all short (optional_line l.centerline)

  center_needs : all center_ok after.lanes ≡ true → all short (optional_line joint) ≡ true
  unfolding lane
  center_needs h =
      let here : lane after a.id ≡ Some (after_merge tol next a b pl pr a) =
      lane-after tol next a b pl pr m a.id ∙ (ap (λ z. cond z None (changed_by (after_merge tol next a b pl pr) (lane m a.id))) apart ∙ ap (changed_by (after_merge tol next a b pl pr)) ea) in
      ap (λ z. all short (optional_line (cond z (merged_lane tol.join pl pr next a b (links_after a.id b a)) (links_after a.id b a)).centerline)) (sym (eq-eqb a.id a.id refl))
      ∙ found_all (λ l. eqb l.id a.id) center_ok after.lanes (after_merge tol next a b pl pr a) here h

  -- ---- and the other way round

  module _ (left-ok : (overdrawn sides || short (plan_line pl a.left)) ≡ true) (right-ok : short (plan_line pr a.right) ≡ true) where
    joined-ok : (x : Boundary) → ok x ≡ true → ok (joint-boundary x) ≡ true
    joined-ok x h = go (plan_joins pr a.right x.id) (plan_joins pl a.left x.id) (overdrawn sides) refl refl refl left-ok
      where
        go : (y z o : Bool) → plan_joins pr a.right x.id ≡ y → plan_joins pl a.left x.id ≡ z → overdrawn sides ≡ o → (o || short (plan_line pl a.left)) ≡ true → ok (joint-boundary x) ≡ true
        go true z o e f g s = ap short (right-line x e) ∙ right-ok
        go false true true e f g s = absurd (true≢false (sym (over-both g x.id f) ∙ e))
        go false true false e f g s = ap short (left-line x e f) ∙ s
        go false false o e f g s = ap short (own_line x e f) ∙ h

    left-new : plan_joins pl a.left a.left.boundary ≡ false → short (plan_line pl a.left) ≡ true
    left-new n = go (overdrawn sides) refl left-ok
      where
        go : (o : Bool) → overdrawn sides ≡ o → (o || short (plan_line pl a.left)) ≡ true → short (plan_line pl a.left) ≡ true
        go true g s =
            let x = joins (counted pl) a.left.boundary a.right.boundary in
            let y = joins (counted pr) a.right.boundary a.right.boundary in
            let u : plan_joins pl a.left a.right.boundary ≡ true = sym (joins-is pl a.left a.right.boundary) ∙ and-fst x y g in
            absurd (true≢false (sym (ap (plan_joins pl a.left) (joins-own pl a.left a.right.boundary u) ∙ u) ∙ n))
        go false g s = s

    boundaries-ok : all ok m.boundaries ≡ true → all ok after.boundaries ≡ true
    boundaries-ok h =
        all_append ok (keep still (map joint-boundary m.boundaries)) (new_ones next m a pl pr)
        (all_keep ok still (map joint-boundary m.boundaries) (all_map ok joint-boundary m.boundaries ∙ all-weaken ok (λ x. ok (joint-boundary x)) m.boundaries joined-ok h))
        (all_append ok (new_boundary m pl next a.left) (new_boundary m pr (next + plan_ids pl) a.right) (short-new m pl next a.left fl left-new) (short-new m pr (next + plan_ids pl) a.right fr (λ e. right-ok)))

  centers-ok : all short (optional_line joint) ≡ true → all center_ok m.lanes ≡ true → all center_ok after.lanes ≡ true
  centers-ok j h =
      let ls = keep (λ (l : Lane). not (eqb l.id b.id)) m.lanes in
      all_map center_ok (after_merge tol next a b pl pr) ls
      ∙ all-weaken center_ok (λ l. center_ok (after_merge tol next a b pl pr l)) ls (λ l e. go l (eqb l.id a.id) e) (all_keep center_ok (λ l. not (eqb l.id b.id)) m.lanes h)
    where
      go : (l : Lane) (z : Bool) → center_ok l ≡ true → center_ok (cond z (merged_lane tol.join pl pr next a b (links_after a.id b l)) (links_after a.id b l)) ≡ true
      go l true e = j
      go l false e = e

  -- ---- THE LAW

  center_count : (o : Option Line) → all short (optional_line o) ≡ leb (center_points (count_of o)) 256
  unfolding all
  center_count None = refl
  center_count (Some l) = go (short l)
    where
      go : (z : Bool) → (z && true) ≡ z
      go true = refl
      go false = refl

  pub lines_fit_lem : all short (lines m) ≡ true → all short (lines after) ≡ lines_fit sides (count_of joint)
  lines_fit_lem h =
      let (mb, ml, ms, me, mr) = five-of (all ok m.boundaries) (all center_ok m.lanes) (all (λ s. short s.geometry) m.stop_lines) (all (λ c. short c.left_edge) m.crosswalks) (all (λ c. short c.right_edge) m.crosswalks)
      (sym (all_lines short m) ∙ h) in
      let u = all ok after.boundaries in
      let v = all center_ok after.lanes in
      let x = overdrawn sides || leb (side_points (counted pl)) 256 in
      let y = leb (side_points (counted pr)) 256 in
      let z = leb (center_points (count_of joint)) 256 in
      let el : x ≡ (overdrawn sides || short (plan_line pl a.left)) = ap (λ n. overdrawn sides || leb n 256) (side-many pl a.left) in
      let er : y ≡ short (plan_line pr a.right) = ap (λ n. leb n 256) (side-many pr a.right) in
      all_lines short after
      ∙ (ends u v ms me mr
      ∙ same_test (u && v) (x && y && z)
      (λ e. let p = and-fst u v e in let q = and-snd u v e in
      and_both (x && y) z (and_both x y (el ∙ left-needs p) (er ∙ right-needs p)) (sym (center_count joint) ∙ center_needs q))
      (λ e. let p = and-fst (x && y) z e in
      and_both u v (boundaries-ok (sym el ∙ and-fst x y p) (sym er ∙ and-snd x y p) mb) (centers-ok (center_count joint ∙ and-snd (x && y) z e) ml)))
    where
      ends : (u v : Bool) {x y z : Bool} → x ≡ true → y ≡ true → z ≡ true → (u && (v && (x && (y && z)))) ≡ (u && v)
      ends true true e f g = rw (e, f, g)
      ends true false e f g = refl
      ends false v e f g = refl
