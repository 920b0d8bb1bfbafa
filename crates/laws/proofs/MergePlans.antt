-- merge_lanes: what a planned side gives: a line in reach, and the ids of the boundaries that it makes. Assumes nothing.
use Rattle.std.specs.Prelude.{Option, None, Some, Ok}
use mathlib.Core.Path.{◌≡◌, refl, sym, ap, ◌∙◌, subst}
use mathlib.Core.Bool.{Bool, true, false, ◌&&◌, cond, true≢false}
use mathlib.Core.List.{List, [], ◌∷◌, ◌++◌, map, map-append, reverse}
use Prim.{Unit, tt}
use Prim.Native.Nat.{ℕ, ◌+◌, ◌<◌, ◌≤◌}
use native.Mathlib.Omega.{arith}
use lib.Dec.{eqb, ltb}
use lib.Ieee.{Float}
use borrow.Author.Tests.{lt-ltb}
use Rattle.lists.specs.Every.{all}
use Rattle.lists.specs.Select.{each, above, ascending, same_numbers}
use Rattle.lists.proofs.Every.{all_split, all_nil, all_cons, all_append, all-reverse}
use Rattle.lists.proofs.Booleans.{and-fst, and-snd}
use Rattle.lists.proofs.Select.{all_map, above_of}
use Rattle.geometry.specs.Point.{in_reach}
use Rattle.polyline.specs.Polyline.{concat}
use Rattle.polyline.proofs.Reach.{concat-reach}
use Rattle.entities.specs.declared.Tolerance.{Tolerance}
use Rattle.entities.specs.declared.Side.{Side}
use Rattle.entities.specs.declared.BoundaryRef.{BoundaryRef}
use Rattle.entities.specs.declared.Refusal.TheVariants as R
use Rattle.entities.specs.Records.{Line, Lane, Boundary, Map}
use Rattle.rules.specs.Map.{boundary, boundary_on, oriented, oriented_in, oriented_boundary, lanes_using_boundary}
use Rattle.rules.specs.Sound.{lines, optional_line, lines_in_reach}
use Rattle.rules.specs.Merge.{SidePlan, kept, in_place, fresh, joined, joined_lines, side_plan, plan_ids, plan_line, new_boundary}
use Rattle.laws.proofs.Connect.{found_all}
use Rattle.laws.proofs.Lawful.{yields, no-yield}
use Rattle.laws.proofs.Merge.{new_ones}

-- ---- general

pub both_of : {A : Type 0} (p : A → Bool) (xs ys : List A) → all p (xs ++ ys) ≡ true → (all p xs ≡ true) × (all p ys ≡ true)
both_of p xs ys t = let u = sym (all_split p xs ys) ∙ t in (and-fst (all p xs) (all p ys) u, and-snd (all p xs) (all p ys) u)

-- ---- what a plan holds

-- a joined line is in reach, and the first lane's boundary is there where a new one takes after it
abbrev pub Planned : Map → ℕ → SidePlan → Type 0
Planned m r kept = Unit
Planned m r (in_place c) = all in_reach c ≡ true
Planned m r (fresh c) = (all in_reach c ≡ true) × ((x : Boundary) × (boundary m r ≡ Some x))

abbrev other_lines : Map → List Line
other_lines m =
    each (λ l. optional_line l.centerline) m.lanes
    ++ (map (λ s. s.geometry) m.stop_lines ++ (map (λ c. c.left_edge) m.crosswalks ++ map (λ c. c.right_edge) m.crosswalks))

pub boundary_lines : (m : Map) → lines_in_reach m ≡ true → all (λ x. all in_reach x.geometry) m.boundaries ≡ true
unfolding lines_in_reach lines
boundary_lines m h = sym (all_map (all in_reach) (λ x. x.geometry) m.boundaries) ∙ (both_of (all in_reach) (map (λ x. x.geometry) m.boundaries) (other_lines m) h).0

module _ (m : Map) (reach : lines_in_reach m ≡ true) where
  line-found : (i : ℕ) (x : Boundary) → boundary m i ≡ Some x → (r : BoundaryRef) → all in_reach (oriented r x) ≡ true
  unfolding boundary oriented
  line-found i x e r = go r.reversed
    where
      own : all in_reach x.geometry ≡ true
      own = found_all (λ b. eqb b.id i) (λ b. all in_reach b.geometry) m.boundaries x e (boundary_lines m reach)

      go : (c : Bool) → all in_reach (cond c (reverse x.geometry) x.geometry) ≡ true
      go true = all-reverse in_reach x.geometry own
      go false = own

  joined-planned : (join : Float) (alone : Bool) (ra rb : BoundaryRef) (oa ob : Option Boundary) → boundary m ra.boundary ≡ oa → boundary m rb.boundary ≡ ob
      → (p : SidePlan) → joined_lines join alone ra.boundary rb.boundary (oriented_in ra oa) (oriented_in rb ob) ≡ Ok p → Planned m ra.boundary p
  joined-planned join alone ra rb None ob ea eb p h = absurd (no-yield (R.BoundaryAbsent ra.boundary) p h)
  joined-planned join alone ra rb (Some x) None ea eb p h = absurd (no-yield (R.BoundaryAbsent rb.boundary) p h)
  joined-planned join alone ra rb (Some x) (Some y) ea eb p h = subst (Planned m ra.boundary) (yields h) (go alone)
    where
      line : all in_reach (concat join (oriented ra x) (oriented rb y)) ≡ true
      line = concat-reach join (oriented ra x) (oriented rb y) (line-found ra.boundary x ea ra) (line-found rb.boundary y eb rb)

      go : (c : Bool) → Planned m ra.boundary (joined c (concat join (oriented ra x) (oriented rb y)))
      go true = line
      go false = (line, (x, ea))

  pub side-planned : (tol : Tolerance) (side : Side) (a b : Lane) (p : SidePlan) → side_plan tol m side a b ≡ Ok p → Planned m (boundary_on side a).boundary p
  unfolding side_plan oriented_boundary
  side-planned tol side a b p h =
      let ra = (boundary_on side a).boundary in
      let rb = (boundary_on side b).boundary in
      go (eqb ra rb) (same_numbers (lanes_using_boundary m.lanes ra) (a.id ∷ []) && same_numbers (lanes_using_boundary m.lanes rb) (b.id ∷ [])) h
    where
      go : (c alone : Bool)
          → cond c (Ok kept) (joined_lines tol.join alone (boundary_on side a).boundary (boundary_on side b).boundary
          (oriented_in (boundary_on side a) (boundary m (boundary_on side a).boundary)) (oriented_in (boundary_on side b) (boundary m (boundary_on side b).boundary)))
          ≡ Ok p → Planned m (boundary_on side a).boundary p
      go true alone h = subst (Planned m (boundary_on side a).boundary) (yields h) tt
      go false alone h =
          joined-planned tol.join alone (boundary_on side a) (boundary_on side b) (boundary m (boundary_on side a).boundary) (boundary m (boundary_on side b).boundary) refl refl p h

-- ---- a plan's line, and its new boundary

pub line-planned : (m : Map) (r : ℕ) (p : SidePlan) → Planned m r p → (ref : BoundaryRef) → all in_reach (plan_line p ref) ≡ true
line-planned m r kept h ref = all_nil in_reach
line-planned m r (in_place c) h ref = go ref.reversed
  where
    go : (b : Bool) → all in_reach (cond b (reverse c) c) ≡ true
    go true = all-reverse in_reach c h
    go false = h
line-planned m r (fresh c) h ref = h.0

-- a boundary with another id and line
abbrev pub drawn : ℕ → Line → Boundary → Boundary
drawn i c x = record { id = i; kind = x.kind; geometry = c; attributes = x.attributes }

pub new-one : (m : Map) (i : ℕ) (r : BoundaryRef) (c : Line) (x : Boundary) → boundary m r.boundary ≡ Some x → new_boundary m (fresh c) i r ≡ drawn i c x ∷ []
new-one m i r c x e = ap (λ o. elim o [ None ↦ [] | Some b ↦ record { id = i; kind = b.kind; geometry = c; attributes = b.attributes } ∷ [] ]) e

-- the ids that a plan gives
abbrev pub plan_new : SidePlan → ℕ → List ℕ
plan_new kept i = []
plan_new (in_place c) i = []
plan_new (fresh c) i = i ∷ []

pub new-ids : (m : Map) (p : SidePlan) (i : ℕ) (r : BoundaryRef) → Planned m r.boundary p → map (λ x. x.id) (new_boundary m p i r) ≡ plan_new p i
new-ids m kept i r h = refl
new-ids m (in_place c) i r h = refl
new-ids m (fresh c) i r h = ap (map (λ x. x.id)) (new-one m i r c h.1.0 h.1.1)

-- a test of the new boundary
pub new-passes : (m : Map) (p : SidePlan) (i : ℕ) (r : BoundaryRef) → Planned m r.boundary p → (t : Boundary → Bool)
    → ((c : Line) → all in_reach c ≡ true → (i : ℕ) (x : Boundary) → t x ≡ true → t (drawn i c x) ≡ true) → all t m.boundaries ≡ true → all t (new_boundary m p i r) ≡ true
unfolding boundary
new-passes m kept i r h t f a = all_nil t
new-passes m (in_place c) i r h t f a = all_nil t
new-passes m (fresh c) i r h t f a =
    let x = h.1.0 in
    let e : boundary m r.boundary ≡ Some x = h.1.1 in
    subst (λ xs. all t xs ≡ true) (sym (new-one m i r c x e))
    (all_cons t (drawn i c x) [] (f c h.0 i x (found_all (λ b. eqb b.id r.boundary) t m.boundaries x e a)) (all_nil t))

-- ---- the ids of both sides

abbrev pub both_new : SidePlan → SidePlan → ℕ → List ℕ
both_new pl pr next = plan_new pl next ++ plan_new pr (next + plan_ids pl)

-- where no id is wanted, none is given
pub none-new : (pl pr : SidePlan) (next : ℕ) → eqb (plan_ids pl + plan_ids pr) 0 ≡ true → both_new pl pr next ≡ []
none-new kept kept next h = refl
none-new kept (in_place d) next h = refl
none-new kept (fresh d) next h = absurd (true≢false (sym h))
none-new (in_place c) kept next h = refl
none-new (in_place c) (in_place d) next h = refl
none-new (in_place c) (fresh d) next h = absurd (true≢false (sym h))
none-new (fresh c) kept next h = absurd (true≢false (sym h))
none-new (fresh c) (in_place d) next h = absurd (true≢false (sym h))
none-new (fresh c) (fresh d) next h = absurd (true≢false (sym h))

-- a test that the ids to be given pass
plan-passes : (t : ℕ → Bool) (p : SidePlan) (i : ℕ) → (plan_ids p ≡ 1 → t i ≡ true) → all t (plan_new p i) ≡ true
plan-passes t kept i h = all_nil t
plan-passes t (in_place c) i h = all_nil t
plan-passes t (fresh c) i h = all_cons t i [] (h refl) (all_nil t)

pub both-pass : (t : ℕ → Bool) (pl pr : SidePlan) (next : ℕ) → ((i : ℕ) → next ≤ i → i < next + (plan_ids pl + plan_ids pr) → t i ≡ true) → all t (both_new pl pr next) ≡ true
both-pass t pl pr next h =
    all_append t (plan_new pl next) (plan_new pr (next + plan_ids pl)) (plan-passes t pl next (λ e. h next (omega arith) (omega arith)))
    (plan-passes t pr (next + plan_ids pl) (λ e. h (next + plan_ids pl) (omega arith) (omega arith)))

one_up : (p : SidePlan) (i : ℕ) → ascending (plan_new p i) ≡ true
unfolding ascending above
one_up kept i = refl
one_up (in_place c) i = refl
one_up (fresh c) i = refl

pub both-up : (pl pr : SidePlan) (next : ℕ) → ascending (both_new pl pr next) ≡ true
unfolding ascending
both-up kept pr next = one_up pr (next + 0)
both-up (in_place c) pr next = one_up pr (next + 0)
both-up (fresh c) pr next =
    above_of next (plan_new pr (next + 1)) (plan-passes (ltb next) pr (next + 1) (λ e. lt-ltb next (next + 1) (omega arith))) (one_up pr (next + 1))

-- the ids of the boundaries that a merge makes
pub ids-made : (m : Map) (next : ℕ) (a : Lane) (pl pr : SidePlan) → Planned m a.left.boundary pl → Planned m a.right.boundary pr
    → map (λ x. x.id) (new_ones next m a pl pr) ≡ both_new pl pr next
ids-made m next a pl pr fl fr =
    map-append (λ x. x.id) (new_boundary m pl next a.left) (new_boundary m pr (next + plan_ids pl) a.right)
    ∙ (ap (λ is. is ++ map (λ x. x.id) (new_boundary m pr (next + plan_ids pl) a.right)) (new-ids m pl next a.left fl)
    ∙ ap (λ is. plan_new pl next ++ is) (new-ids m pr (next + plan_ids pl) a.right fr))
