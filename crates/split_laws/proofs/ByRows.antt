-- Document 01's plans of lanes and crossings of boundaries, by the rows of the lanes. Assumes nothing.
use Rattle.std.specs.Prelude.{Option, None, Some, Err, Ok}
use mathlib.Core.Path.{◌≡◌, refl, sym, ap}
use Prim.Native.Nat.{ℕ}
use mathlib.Core.Bool.{Bool, true, false, cond}
use mathlib.Core.List.{List, [], ◌∷◌, map}
use lib.Dec.{eqb}
use lib.Ieee.{Float}
use Rattle.entities.specs.Records.{Line, Lane, Map}
use Rattle.rules.specs.Names.{Tolerance, Refusal, NoUsableLine, PositionOutside, Point2}
use Rattle.rules.specs.Map.{boundary, centerline, station}
use Rattle.rules.specs.Edit.{Res, ◌>>=◌, check, require}
use Rattle.rules.specs.Split.{cuttable, lane_plan, lane_plans, crosses, all_cross}
use Rattle.tables.specs.View.{word, rows, lane_of, boundary_of}
use Rattle.lookup.specs.Lookup.{drawn}
use Rattle.lookup.proofs.Center.{center_drawn_lem}
use Rattle.split_plan.specs.Placing.{plan_of, plans_of, row_station, all_of, row_crosses, id_crosses, all_pass}
use Rattle.split_plan.specs.declared.Cut.{Cut}
use Rattle.split_plan.proofs.Marked.{Each}
use Rattle.split_plan.proofs.Marked as M

-- ---- steps one after another

pub then-then : {A B C : Type 0} (x : Res A) (f : A → Res B) (g : B → Res C) → ((x >>= f) >>= g) ≡ (x >>= λ a. f a >>= g)
then-then (Err r) f g = refl
then-then (Ok a) f g = refl

-- a value made of the last one
last_made : {B : Type 0} (o : Option Line) (near : Line → Option Float) (pick : Float → Float) (fits : Line → Float → Bool) (r q : Refusal) (f : Float → B)
    → (require o r >>= λ c. require (near c) r >>= λ x. check (fits c (pick x)) q >>= λ _. Ok (f (pick x)))
    ≡ ((require o r >>= λ c. require (near c) r >>= λ x. check (fits c (pick x)) q >>= λ _. Ok (pick x)) >>= λ s. Ok (f s))
last_made None near pick fits r q f = refl
last_made (Some c) near pick fits r q f = go (near c)
  where
    go : (o : Option Float) → (require o r >>= λ x. check (fits c (pick x)) q >>= λ _. Ok (f (pick x))) ≡ ((require o r >>= λ x. check (fits c (pick x)) q >>= λ _. Ok (pick x)) >>= λ s. Ok (f s))
    go None = refl
    go (Some x) = on (fits c (pick x))
      where
        on : (b : Bool) → (check b q >>= λ _. Ok (f (pick x))) ≡ ((check b q >>= λ _. Ok (pick x)) >>= λ s. Ok (f s))
        on true = refl
        on false = refl

-- ---- plans

module _ (tol : Tolerance) (c : List Float) (b : List ℕ) (m : Map) (e : m.boundaries ≡ rows 5 (boundary_of c) b) (own : ℕ) (k : Cut) where
  abbrev station_of : List ℕ → Res Float
  station_of w = row_station tol.piece c b own k w

  row-plan : (w : List ℕ) → lane_plan tol m own k.station k.point (lane_of c w) ≡ (station_of w >>= λ s. Ok (plan_of k.point (lane_of c w) s))
  unfolding lane_plan lane_of
  row-plan w =
      rw (center_drawn_lem c b m (lane_of c w) e)
      (last_made (centerline (drawn c b) (lane_of c w)) (λ x. station x k.point) (λ near. cond (eqb (word 0 w) own) k.station near) (cuttable tol.piece)
      (NoUsableLine (word 0 w)) (PositionOutside (word 0 w)) (plan_of k.point (lane_of c w)))

  pub row-plans : (ws : List (List ℕ)) → lane_plans tol m own k.station k.point (map (lane_of c) ws) ≡ (all_of station_of ws >>= λ ss. Ok (plans_of c k.point ws ss))
  unfolding lane_plans all_of plans_of
  row-plans [] = refl
  row-plans (w ∷ ws) = rw (row-plan w, row-plans ws) (go (station_of w) (all_of station_of ws))
    where
      go : (x : Res Float) (y : Res (List Float))
          → ((x >>= λ s. Ok (plan_of k.point (lane_of c w) s)) >>= λ a. (y >>= λ ss. Ok (plans_of c k.point ws ss)) >>= λ xs. Ok (a ∷ xs))
          ≡ ((x >>= λ s. y >>= λ ss. Ok (s ∷ ss)) >>= λ ss. Ok (plans_of c k.point (w ∷ ws) ss))
      go (Err r) y = refl
      go (Ok s) (Err r) = refl
      go (Ok s) (Ok ss) = refl

  -- their lanes, ids and stations
  pub plans-of : {ws : List (List ℕ)} {ss : List Float} → Each station_of ws ss → map (λ x. x.of) (plans_of c k.point ws ss) ≡ map (lane_of c) ws
  unfolding plans_of
  plans-of M.none = refl
  plans-of (M.one {x = w} g r) = ap (λ (ls : List Lane). lane_of c w ∷ ls) (plans-of r)

  pub plans-ids : {ws : List (List ℕ)} {ss : List Float} → Each station_of ws ss → map (λ x. x.of.id) (plans_of c k.point ws ss) ≡ map (word 0) ws
  unfolding plans_of lane_of
  plans-ids M.none = refl
  plans-ids (M.one {x = w} g r) = ap (λ (is : List ℕ). word 0 w ∷ is) (plans-ids r)

  pub plans_stations : {ws : List (List ℕ)} {ss : List Float} → Each station_of ws ss → map (λ x. x.station) (plans_of c k.point ws ss) ≡ ss
  unfolding plans_of
  plans_stations M.none = refl
  plans_stations (M.one {y = s} g r) = ap (λ (ss : List Float). s ∷ ss) (plans_stations r)

  -- ---- crossings

  id-crosses : (p : Point2) (i : ℕ) → crosses i p (boundary m i) ≡ id_crosses c b p i
  unfolding boundary
  id-crosses p i = rw e

  pub row-crossings : (p : Point2) (ws : List (List ℕ)) → all_cross m p (map (lane_of c) ws) ≡ all_pass (row_crosses c b p) ws
  unfolding all_cross all_pass lane_of
  row-crossings p [] = refl
  row-crossings p (w ∷ ws) =
      rw (id-crosses p (word 2 w), id-crosses p (word 4 w), row-crossings p ws)
      (sym (then-then (id_crosses c b p (word 2 w)) (λ _. id_crosses c b p (word 4 w)) (λ _. all_pass (row_crosses c b p) ws)))
