-- split_lane: the plans that an accepted call makes are of the group's lanes, and the pieces of their centrelines lie in reach. Assumes nothing.
use Rattle.std.specs.Prelude.{Option, None, Some, Err, Ok}
use mathlib.Core.Path.{◌≡◌, refl, sym, ap, ◌∙◌}
use mathlib.Core.Bool.{true, cond}
use mathlib.Core.List.{List, [], ◌∷◌, map}
use Prim.Native.Nat.{ℕ}
use lib.Dec.{eqb}
use lib.Ieee.{Float}
use Rattle.lists.specs.Every.{all}
use Rattle.lists.proofs.Booleans.{and_both, and-fst, and-snd}
use Rattle.geometry.specs.Point.{in_reach}
use Rattle.geometry.specs.declared.Point2.{Point2}
use Rattle.polyline.specs.Polyline.{first_piece, second_piece}
use Rattle.polyline.proofs.Reach.{first-piece-reach, second-piece-reach}
use Rattle.entities.specs.declared.Tolerance.{Tolerance}
use Rattle.entities.specs.declared.Refusal.TheVariants as R
use Rattle.entities.specs.Records.{Line, Lane, Map}
use Rattle.rules.specs.Map.{centerline, station}
use Rattle.rules.specs.Sound.{optional_line}
use Rattle.rules.specs.Edit.{Res, ◌>>=◌, check, require}
use Rattle.rules.specs.Split.{LanePlan, center_piece, cuttable, lane_plan, lane_plans}
use Rattle.laws.proofs.Lawful.{yields, no-yield}
use Rattle.laws.proofs.SplitClauses.{centers_reach}

-- ---- general

-- a step that yields, and what follows it
pub bound : {A B : Type 0} (r : Res A) (k : A → Res B) (e : B) → (r >>= k) ≡ Ok e → (a : A) × (r ≡ Ok a) × (k a ≡ Ok e)
bound (Err x) k e h = absurd (no-yield x e h)
bound (Ok a) k e h = (a, refl, h)

-- ---- pieces of a centreline

center_reach : (piece : Line → Float → Line) → ((c : Line) (s : Float) → all in_reach c ≡ true → all in_reach (piece c s) ≡ true) → (o : Option Line) (p : Point2)
    → all (all in_reach) (optional_line o) ≡ true → all (all in_reach) (optional_line (center_piece piece o p)) ≡ true
center_reach piece h None p t = t
center_reach piece h (Some c) p t = go (station c p)
  where
    one : (d : Line) → all in_reach d ≡ true → all (all in_reach) (d ∷ []) ≡ true
    one d u = unfold all in and_both (all in_reach d) true u refl

    own : all in_reach c ≡ true
    own = and-fst (all in_reach c) true (unfold all in t)

    go : (o : Option Float) → all (all in_reach) (optional_line (elim o [ None ↦ None | Some s ↦ Some (piece c s) ])) ≡ true
    go None = unfold all in refl
    go (Some s) = one (piece c s) (h c s own)

-- ---- plans

module _ (tol : Tolerance) (m : Map) (own : ℕ) (at : Float) (p : Point2) where
  abbrev plan_at : Lane → Float → LanePlan
  plan_at l s =
      record { of = l; station = s; first_center = center_piece first_piece l.centerline p; second_center = center_piece second_piece l.centerline p }

  abbrev checked_at : Lane → Line → Float → Res LanePlan
  checked_at l c s = check (cuttable tol.piece c s) (R.PositionOutside l.id) >>= (λ ok. Ok (plan_at l s))

  abbrev near_at : Lane → Line → Res LanePlan
  near_at l c = require (station c p) (R.NoUsableLine l.id) >>= (λ near. checked_at l c (cond (eqb l.id own) at near))

  plan-of : (l : Lane) (x : LanePlan) → lane_plan tol m own at p l ≡ Ok x → (s : Float) × (x ≡ plan_at l s)
  unfolding lane_plan
  plan-of l x h =
      let (c, e1, h1) = bound (require (centerline m l) (R.NoUsableLine l.id)) (near_at l) x h in
      let (near, e2, h2) = bound (require (station c p) (R.NoUsableLine l.id)) (λ near. checked_at l c (cond (eqb l.id own) at near)) x h1 in
      let s = cond (eqb l.id own) at near in
      let (ok, e3, h3) = bound (check (cuttable tol.piece c s) (R.PositionOutside l.id)) (λ ok. Ok (plan_at l s)) x h2 in
      (s, sym (yields h3))

  -- the plans are of the lanes, in their order
  pub plans-of : (ls : List Lane) (ps : List LanePlan) → lane_plans tol m own at p ls ≡ Ok ps → map (λ x. x.of) ps ≡ ls
  unfolding lane_plans
  plans-of [] ps h = ap (λ qs. map (λ x. x.of) qs) (sym (yields h))
  plans-of (l ∷ ls) ps h =
      let (x, e1, h1) = bound (lane_plan tol m own at p l) (λ x. lane_plans tol m own at p ls >>= (λ xs. Ok (x ∷ xs))) ps h in
      let (xs, e2, h2) = bound (lane_plans tol m own at p ls) (λ xs. Ok (x ∷ xs)) ps h1 in
      ap (λ qs. map (λ y. y.of) qs) (sym (yields h2)) ∙ (ap (λ k. k ∷ map (λ y. y.of) xs) (ap (λ y. y.of) (plan-of l x e1).1) ∙ ap (λ ks. l ∷ ks) (plans-of ls xs e2))

  plan-reach : (l : Lane) (s : Float) → all (all in_reach) (optional_line l.centerline) ≡ true → centers_reach (plan_at l s) ≡ true
  plan-reach l s h =
      and_both (all (all in_reach) (optional_line (center_piece first_piece l.centerline p))) (all (all in_reach) (optional_line (center_piece second_piece l.centerline p)))
      (center_reach first_piece first-piece-reach l.centerline p h) (center_reach second_piece second-piece-reach l.centerline p h)

  pub plans-reach : (ls : List Lane) (ps : List LanePlan) → lane_plans tol m own at p ls ≡ Ok ps → all (λ l. all (all in_reach) (optional_line l.centerline)) ls ≡ true
      → all centers_reach ps ≡ true
  unfolding lane_plans
  plans-reach [] ps h a = ap (all centers_reach) (sym (yields h)) ∙ (unfold all in refl)
  plans-reach (l ∷ ls) ps h a =
      let (x, e1, h1) = bound (lane_plan tol m own at p l) (λ x. lane_plans tol m own at p ls >>= (λ xs. Ok (x ∷ xs))) ps h in
      let (xs, e2, h2) = bound (lane_plans tol m own at p ls) (λ xs. Ok (x ∷ xs)) ps h1 in
      let (s, e3) = plan-of l x e1 in
      ap (all centers_reach) (sym (yields h2)) ∙ both x xs (ap centers_reach e3 ∙ plan-reach l s (own-lines a)) (plans-reach ls xs e2 (rest_lines a))
    where
      both : (x : LanePlan) (xs : List LanePlan) → centers_reach x ≡ true → all centers_reach xs ≡ true → all centers_reach (x ∷ xs) ≡ true
      both x xs t u = unfold all in and_both (centers_reach x) (all centers_reach xs) t u

      own-lines : all (λ l. all (all in_reach) (optional_line l.centerline)) (l ∷ ls) ≡ true → all (all in_reach) (optional_line l.centerline) ≡ true
      own-lines t = and-fst (all (all in_reach) (optional_line l.centerline)) (all (λ l. all (all in_reach) (optional_line l.centerline)) ls) (unfold all in t)

      rest_lines : all (λ l. all (all in_reach) (optional_line l.centerline)) (l ∷ ls) ≡ true → all (λ l. all (all in_reach) (optional_line l.centerline)) ls ≡ true
      rest_lines t = and-snd (all (all in_reach) (optional_line l.centerline)) (all (λ l. all (all in_reach) (optional_line l.centerline)) ls) (unfold all in t)
