-- The centreline of a half in the map after the cut is what the old tables make of it, so an anchor lies past the same cuts. Assumes nothing.
use Rattle.std.specs.Prelude.{Option, None, Some, Ok}
use mathlib.Core.Path.{◌≡◌, refl, sym, ap, ◌∙◌}
use mathlib.Core.Bool.{true, false, cond}
use mathlib.Core.List.{List, [], ◌∷◌, map}
use Prim.Native.Nat.{ℕ}
use lib.Dec.{eqb}
use lib.Ieee.{Float}
use borrow.Author.Tests.{eq-eqb}
use Rattle.lists.specs.Select.{any}
use Rattle.lists.proofs.Booleans.{or_right}
use Rattle.polyline.specs.Polyline.{first_piece, second_piece}
use Rattle.entities.specs.declared.Tolerance.{Tolerance}
use Rattle.entities.specs.declared.Refusal.TheVariants as R
use Rattle.entities.specs.Records.{Line, Lane, Boundary, Map}
use Rattle.rules.specs.Names.{Point2, Side, Left, Right}
use Rattle.rules.specs.Map.{lane, boundary, boundary_on, centerline, oriented_boundary, derived, explicit_or, station, uses}
use Rattle.rules.specs.Edit.{Res, ◌>>=◌, Passed, check, require}
use Rattle.rules.specs.Split.{LanePlan, Piece, center_piece, cuttable, lane_plan, lane_plans, crosses, all_cross, halves, first_half, second_half, center_of, past_cut, on_second, cut_map}
use Rattle.laws.proofs.Lawful.{yields, no-yield}
use Rattle.laws.proofs.Find.{numbered, numbered-up}
use Rattle.laws.proofs.SplitPlans.{bound}
use Rattle.laws.proofs.SplitLanes.{first_id, second_id, Cutting, found_by_first, by_second, firsts-up, first_lane, second-new, lane_at}
use Rattle.laws.proofs.SplitLinks.{after-lane}
use Rattle.tables.specs.View.{rows, lane_of, boundary_of}
use Rattle.lookup.specs.Lookup.{row_at}
use Rattle.split_half.specs.Half.{half_side, half_center, row_past}
use Rattle.split_laws.proofs.Members.{In, here, there, in_found, in_any, in_map, in_numbered}
use Rattle.split_anchors.proofs.Sides.{parts, next, after, Lines, side_after}

-- ---- what an accepted call asks

-- the pieces of an explicit centreline
abbrev pub Centered : Point2 → LanePlan → Type 0
Centered p x = (x.first_center ≡ center_piece first_piece x.of.centerline p) × (x.second_center ≡ center_piece second_piece x.of.centerline p)

module _ (tol : Tolerance) (m : Map) (own : ℕ) (at : Float) (p : Point2) where
  abbrev plan_at : Lane → Float → LanePlan
  plan_at l s = record { of = l; station = s; first_center = center_piece first_piece l.centerline p; second_center = center_piece second_piece l.centerline p }

  abbrev checked_at : Lane → Line → Float → Res LanePlan
  checked_at l c s = check (cuttable tol.piece c s) (R.PositionOutside l.id) >>= (λ ok. Ok (plan_at l s))

  abbrev near_at : Lane → Line → Res LanePlan
  near_at l c = require (station c p) (R.NoUsableLine l.id) >>= (λ near. checked_at l c (cond (eqb l.id own) at near))

  plan-centered : (l : Lane) (x : LanePlan) → lane_plan tol m own at p l ≡ Ok x → Centered p x
  unfolding lane_plan
  plan-centered l x h =
      let (c, e1, h1) = bound (require (centerline m l) (R.NoUsableLine l.id)) (near_at l) x h in
      let (near, e2, h2) = bound (require (station c p) (R.NoUsableLine l.id)) (λ near. checked_at l c (cond (eqb l.id own) at near)) x h1 in
      let s = cond (eqb l.id own) at near in
      let (ok, e3, h3) = bound (check (cuttable tol.piece c s) (R.PositionOutside l.id)) (λ ok. Ok (plan_at l s)) x h2 in
      let z : plan_at l s ≡ x = yields h3 in
      rw (← z) (refl, refl)

  pub plans-centered : (ls : List Lane) (ps : List LanePlan) → lane_plans tol m own at p ls ≡ Ok ps → (x : LanePlan) → In x ps → Centered p x
  unfolding lane_plans
  plans-centered [] ps h x i = absurd (nothing (rw (sym (yields h)) at i))
    where
      nothing : In x [] → ⊥
      nothing = elim [ ]
  plans-centered (l ∷ ls) ps h x i =
      let (y, e1, h1) = bound (lane_plan tol m own at p l) (λ x. lane_plans tol m own at p ls >>= (λ xs. Ok (x ∷ xs))) ps h in
      let (ys, e2, h2) = bound (lane_plans tol m own at p ls) (λ xs. Ok (y ∷ xs)) ps h1 in
      go y ys x (rw (sym (yields h2)) at i) (plan-centered l y e1) (plans-centered ls ys e2)
    where
      go : (y : LanePlan) (ys : List LanePlan) (x : LanePlan) → In x (y ∷ ys) → Centered p y → ((x : LanePlan) → In x ys → Centered p x) → Centered p x
      go y ys x here a r = a
      go y ys x (there j) a r = r x j

-- every boundary of a cut lane is there
abbrev pub There : Map → Lane → Type 0
There m l = (side : Side) → (b : Boundary) × (boundary m (boundary_on side l).boundary ≡ Some b)

module _ (m : Map) (p : Point2) where
  crossed-there : (i : ℕ) (k : Passed) → crosses i p (boundary m i) ≡ Ok k → (b : Boundary) × (boundary m i ≡ Some b)
  crossed-there i k = go (boundary m i)
    where
      go : (o : Option Boundary) → crosses i p o ≡ Ok k → (b : Boundary) × (o ≡ Some b)
      go None h = absurd (no-yield (R.BoundaryAbsent i) k h)
      go (Some b) h = (b, refl)

  pub all_there : (ls : List Lane) (k : Passed) → all_cross m p ls ≡ Ok k → (l : Lane) → In l ls → There m l
  unfolding all_cross
  all_there [] k h l i = elim i [ ]
  all_there (n ∷ ls) k h l i =
      let (a, e1, h1) = bound (crosses n.left.boundary p (boundary m n.left.boundary)) (λ a. crosses n.right.boundary p (boundary m n.right.boundary) >>= (λ b. all_cross m p ls)) k h in
      let (b, e2, h2) = bound (crosses n.right.boundary p (boundary m n.right.boundary)) (λ b. all_cross m p ls) k h1 in
      go n l i (λ side. elim side as (λ k. (x : Boundary) × (boundary m (boundary_on k n).boundary ≡ Some x)) [ Left ↦ crossed-there n.left.boundary a e1 | Right ↦ crossed-there n.right.boundary b e2 ]) (all_there ls k h2)
    where
      go : (n l : Lane) → In l (n ∷ ls) → There m n → ((l : Lane) → In l ls → There m l) → There m l
      go n l here t r = t
      go n l (there j) t r = r l j

-- ---- a half

piece_wise : (a b c d e f : Option Line) → a ≡ b → c ≡ d → e ≡ f → explicit_or a (derived c e) ≡ explicit_or b (derived d f)
piece_wise a b c d e f x y z = rw (x, y, z)

module _ (m : Map) (ps : List LanePlan) (group : List ℕ) (ls : List Lane) (p : Point2) (start : ℕ) where
  abbrev xs : List Piece
  xs = parts m ps group ls p start

  abbrev new : ℕ
  new = next m ps group ls p start

  abbrev then : Map
  then = after m ps group ls p start

  pub record Cut : Type 0 where
    pub lines : Lines m ps group ls p start
    pub lanes : Cutting m ps new
    pub of-plans : map (λ x. x.of) ps ≡ ls
    pub centered : (x : LanePlan) → In x ps → Centered p x
    pub present : (l : Lane) → In l ls → There m l

  module _ (h : Cut) (c : List Float) (boundaries : List ℕ) (same : m.boundaries ≡ rows 5 (boundary_of c) boundaries) (j : ℕ) (x : LanePlan) (i : In (j, x) (numbered new ps)) where
    pub planned : In x ps
    planned = in_numbered new ps j x i

    its-lane : In x.of ls
    its-lane = rw h.of-plans at (in_map (λ x. x.of) ps x planned)

    by_first : found_by_first ps new x.of.id ≡ Some (j, x)
    by_first = in_found first_id (numbered new ps) (j, x) (firsts-up m ps new h.lanes.choice) i

    by-second : by_second ps new j ≡ Some (j, x)
    by-second = in_found second_id (numbered new ps) (j, x) (numbered-up new ps) i

    -- the lane in the old map
    pub lane-before : lane m x.of.id ≡ Some x.of
    lane-before = first_lane m ps new h.lanes.choice x.of.id (j, x) by_first

    first-after : lane then x.of.id ≡ Some (first_half xs (halves new ps) j x)
    unfolding cut_map
    first-after =
        after-lane m ps new h.lanes xs then refl x.of.id
        ∙ (ap (λ o. lane_at m ps new h.lanes.choice xs x.of.id o (found_by_first ps new x.of.id) (by_second ps new x.of.id)) lane-before
        ∙ ap (λ o. lane_at m ps new h.lanes.choice xs x.of.id (Some x.of) o (by_second ps new x.of.id)) by_first)

    second-after : lane then j ≡ Some (second_half xs (halves new ps) j x)
    unfolding cut_map
    second-after =
        after-lane m ps new h.lanes xs then refl j
        ∙ (ap (λ o. lane_at m ps new h.lanes.choice xs j o (found_by_first ps new j) (by_second ps new j)) (second-new m ps new h.lanes j (j, x) by-second)
        ∙ ap (λ o. lane_at m ps new h.lanes.choice xs j None (found_by_first ps new j) o) by-second)

    used : (side : Side) → any (uses (boundary_on side x.of).boundary) ls ≡ true
    used side = in_any (uses (boundary_on side x.of).boundary) ls x.of its-lane (go side)
      where
        go : (side : Side) → uses (boundary_on side x.of).boundary x.of ≡ true
        go Left = rw (eq-eqb x.of.left.boundary x.of.left.boundary refl)
        go Right = or_right (eqb x.of.left.boundary x.of.right.boundary) (eqb x.of.right.boundary x.of.right.boundary) (eq-eqb x.of.right.boundary x.of.right.boundary refl)

    -- a boundary along a half
    pub side-line : (side : Side) → (oriented_boundary then side (first_half xs (halves new ps) j x) ≡ half_side c boundaries p false (boundary_on side x.of))
        × (oriented_boundary then side (second_half xs (halves new ps) j x) ≡ half_side c boundaries p true (boundary_on side x.of))
    unfolding oriented_boundary
    side-line Left = let (b, e) = h.present x.of its-lane Left in side_after m ps group ls p start h.lines c boundaries same x.of.left b e (used Left)
    side-line Right = let (b, e) = h.present x.of its-lane Right in side_after m ps group ls p start h.lines c boundaries same x.of.right b e (used Right)

    -- THE LAW: the centreline of a half
    pub first_line : center_of then (lane then x.of.id) ≡ half_center c boundaries p false x.of
    unfolding centerline
    first_line = ap (center_of then) first-after ∙ piece_wise _ _ _ _ _ _ (h.centered x planned).0 (side-line Left).0 (side-line Right).0

    pub second_line : center_of then (lane then j) ≡ half_center c boundaries p true x.of
    unfolding centerline
    second_line = ap (center_of then) second-after ∙ piece_wise _ _ _ _ _ _ (h.centered x planned).1 (side-line Left).1 (side-line Right).1

    -- an anchor lies past the cut of the lane in row k
    pub past_is : (join : Float) (lanes : List ℕ) (k : ℕ) → lane_of c (row_at 52 lanes k) ≡ x.of → (a : Point2) → on_second join then x j a ≡ row_past join c lanes boundaries p k x.station a
    unfolding on_second row_past
    past_is join lanes k e a =
        ap (λ o. past_cut join o (center_of then (lane then j)) x.station a) first_line
        ∙ (ap (λ o. past_cut join (half_center c boundaries p false x.of) o x.station a) second_line
        ∙ sym (ap (λ l. past_cut join (half_center c boundaries p false l) (half_center c boundaries p true l) x.station a) e))
