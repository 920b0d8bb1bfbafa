-- What a merge decides by two rows is what merge-lanes decides on the whole map. Assumes nothing.
use Rattle.std.specs.Prelude.{Some, Err, Ok}
use mathlib.Core.Path.{◌≡◌, refl, sym, ◌∙◌}
use Prim.Native.Nat.{ℕ}
use native.Mathlib.Omega.{arith}
use mathlib.Core.Bool.{Bool, true, false, not, ◌&&◌}
use mathlib.Core.List.{List, [], ◌∷◌}
use lib.Dec.{eqb}
use lib.Ieee.{Float}
use Rattle.lists.specs.Select.{same_numbers}
use Rattle.entities.specs.Records.{Lane, Map}
use Rattle.rules.specs.Names.{Side, Left, Right, Tolerance, Refusal, NotMergeable}
use Rattle.rules.specs.Map.{lane, boundary, neighbor_on, oriented_boundary}
use Rattle.rules.specs.Edit.{Res, ◌>>=◌, check, Edited}
use Rattle.rules.specs.Merge.{SidePlan, side_plan, joined_center, conflict, merged, merge_lanes}
use Rattle.tables.specs.View.{Tables, word, rows, lane_of, boundary_of, view}
use Rattle.lookup.specs.Lookup.{place_of, count_of}
use Rattle.lookup.proofs.Laws.{find_at, place-id}
use Rattle.merge_plan.specs.Deciding.{lane_in, counted, follows, side_plan_in, center_plan, both_plans, plan_told, planned}
use Rattle.merge_plan.specs.declared.Plan.{Plan}

-- ---- one side

-- a side's plan looks at the lanes, the boundaries and the joining distance alone
module _ (tol : Tolerance) (m : Map) (c : List Float) (lanes boundaries : List ℕ) (el : m.lanes ≡ rows 52 (lane_of c) lanes) (eb : m.boundaries ≡ rows 5 (boundary_of c) boundaries) where
  pub whole-side : (side : Side) (i j : ℕ) → side_plan tol m side (lane_in c lanes i) (lane_in c lanes j) ≡ side_plan_in tol.join c lanes boundaries i j side
  unfolding side_plan oriented_boundary boundary
  whole-side side i j = rw (el, eb)

-- ---- what is warned of

-- warnings look at no line
module _ (c : List Float) (lanes : List ℕ) where
  pub conflict_lineless : (i j : ℕ) → conflict (lane_in c lanes i) (lane_in c lanes j) ≡ conflict (lane_in [] lanes i) (lane_in [] lanes j)
  unfolding lane_of
  conflict_lineless i j = refl

  pub slot_lineless : (side : Side) (i : ℕ) → neighbor_on side (lane_in c lanes i) ≡ neighbor_on side (lane_in [] lanes i)
  unfolding lane_of
  slot_lineless Left i = refl
  slot_lineless Right i = refl

-- ---- merge_lanes

-- both sides' plans, what is told of them, and the merge that they make
pub record Plans (tol : Tolerance) (next one two : ℕ) (m : Map) (a b : Lane) (p : Plan) : Type 0 where
  pub left : SidePlan
  pub right : SidePlan
  pub left-plan : side_plan tol m Left a b ≡ Ok left
  pub right-plan : side_plan tol m Right a b ≡ Ok right
  pub told : p ≡ record { left = counted left; right = counted right; center = count_of (joined_center tol.join a.centerline b.centerline) }
  pub made : merge_lanes tol next one two m ≡ Ok (merged tol next m a b left right)

lane-key : (c : List Float) (w : List ℕ) → (lane_of c w).id ≡ word 0 w
unfolding lane_of
lane-key c w = refl

-- "not mergeable: same lane, then successors of the first, then predecessors of the second", as one test
abbrev checked : {A : Type 0} → Bool → Bool → Bool → Refusal → Res A → Res A
checked x y z r done = do
  ok ← check x r
  ok2 ← check y r
  ok3 ← check z r
  done

checked-no : {A : Type 0} (x y z : Bool) (r : Refusal) (done : Res A) → (x && (y && z)) ≡ false → checked x y z r done ≡ Err r
checked-no false y z r done e = refl
checked-no true false z r done e = refl
checked-no true true false r done e = refl
checked-no true true true r done e = let z : ◌≡◌ {A = Bool} true false = e in let y : ◌≡◌ {A = ℕ} 0 1 = cc in absurd (omega arith)

checked-yes : {A : Type 0} (x y z : Bool) (r : Refusal) (done : Res A) → (x && (y && z)) ≡ true → checked x y z r done ≡ done
checked-yes true true true r done e = refl
checked-yes false y z r done e = let y : ◌≡◌ {A = ℕ} 0 1 = cc in absurd (omega arith)
checked-yes true false z r done e = let y : ◌≡◌ {A = ℕ} 0 1 = cc in absurd (omega arith)
checked-yes true true false r done e = let y : ◌≡◌ {A = ℕ} 0 1 = cc in absurd (omega arith)

module _ (tol : Tolerance) (next one two : ℕ) (t : Tables) (i j : ℕ) (ei : place_of 52 t.lanes one ≡ Some i) (ej : place_of 52 t.lanes two ≡ Some j) where
  abbrev a : Lane
  a = lane_in t.coordinates t.lanes i

  abbrev b : Lane
  b = lane_in t.coordinates t.lanes j

  abbrev fit : Bool
  fit = follows (lane_in [] t.lanes i) (lane_in [] t.lanes j)

  there : (n k : ℕ) → place_of 52 t.lanes n ≡ Some k → lane (view t) n ≡ Some (lane_in t.coordinates t.lanes k)
  unfolding lane view
  there n k e = find_at 52 (lane_of t.coordinates) (λ l. l.id) (lane-key t.coordinates) t.lanes n k e

  -- a side of the whole map
  pub view-side : (side : Side) → side_plan tol (view t) side a b ≡ side_plan_in tol.join t.coordinates t.lanes t.boundaries i j side
  unfolding view
  view-side side = whole-side tol (view t) t.coordinates t.lanes t.boundaries refl refl side i j

  abbrev rest : Res Edited
  rest = side_plan tol (view t) Left a b >>= λ pl. side_plan tol (view t) Right a b >>= λ pr. Ok (merged tol next (view t) a b pl pr)

  abbrev tests : Bool
  tests = not (eqb one two) && (same_numbers a.successors (two ∷ []) && same_numbers b.predecessors (one ∷ []))

  fits-tests : fit ≡ tests
  unfolding lane_of
  fits-tests = rw (place-id 52 t.lanes one i ei, place-id 52 t.lanes two j ej)

  steps : merge_lanes tol next one two (view t) ≡ checked (not (eqb one two)) (same_numbers a.successors (two ∷ [])) (same_numbers b.predecessors (one ∷ [])) (NotMergeable one) rest
  unfolding merge_lanes
  steps = rw (there one i ei, there two j ej)

  pub merge-unfit : fit ≡ false → merge_lanes tol next one two (view t) ≡ Err (NotMergeable one)
  merge-unfit f =
      steps ∙ checked-no (not (eqb one two)) (same_numbers a.successors (two ∷ [])) (same_numbers b.predecessors (one ∷ [])) (NotMergeable one) rest (sym fits-tests ∙ f)

  module _ (f : fit ≡ true) where
    goes_on : merge_lanes tol next one two (view t) ≡ rest
    goes_on =
        steps ∙ checked-yes (not (eqb one two)) (same_numbers a.successors (two ∷ [])) (same_numbers b.predecessors (one ∷ [])) (NotMergeable one) rest (sym fits-tests ∙ f)

    pub merge-refused : (r : Refusal) → planned tol.join t.coordinates t.lanes t.boundaries i j ≡ Err r → merge_lanes tol next one two (view t) ≡ Err r
    merge-refused r e = goes_on ∙ go (side_plan tol (view t) Left a b) (side_plan tol (view t) Right a b) (rw (view-side Left, view-side Right) e)
      where
        go : (l s : Res SidePlan) → plan_told (count_of (center_plan tol.join t.coordinates t.lanes i j)) (both_plans l s) ≡ Err r
            → (l >>= λ pl. s >>= λ pr. Ok (merged tol next (view t) a b pl pr)) ≡ Err r
        go (Err x) s q = let y : x ≡ r = cc in rw y
        go (Ok p) (Err x) q = let y : x ≡ r = cc in rw y
        go (Ok p) (Ok x) q = let y : ◌≡◌ {A = ℕ} 0 1 = cc in absurd (omega arith)

    pub merge-planned : (p : Plan) → planned tol.join t.coordinates t.lanes t.boundaries i j ≡ Ok p → Plans tol next one two (view t) a b p
    merge-planned p e = go (side_plan tol (view t) Left a b) (side_plan tol (view t) Right a b) refl refl (rw (view-side Left, view-side Right) e)
      where
        go : (l s : Res SidePlan) → side_plan tol (view t) Left a b ≡ l → side_plan tol (view t) Right a b ≡ s
            → plan_told (count_of (center_plan tol.join t.coordinates t.lanes i j)) (both_plans l s) ≡ Ok p → Plans tol next one two (view t) a b p
        go (Err x) s u v q = let y : ◌≡◌ {A = ℕ} 0 1 = cc in absurd (omega arith)
        go (Ok x) (Err s) u v q = let y : ◌≡◌ {A = ℕ} 0 1 = cc in absurd (omega arith)
        go (Ok x) (Ok s) u v q = record {
          left = x;
          right = s;
          left-plan = u;
          right-plan = v;
          told = cc;
          made = goes_on ∙ rw (u, v);
        }
