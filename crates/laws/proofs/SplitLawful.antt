-- split_lane obeys the law of one accepted call. Assumes nothing.
use Rattle.std.specs.Prelude.{Some, Ok}
use mathlib.Core.Path.{◌≡◌, refl, sym, ◌∙◌, subst}
use mathlib.Core.Bool.{Bool, true}
use mathlib.Core.List.{List}
use Prim.Native.Nat.{ℕ, ◌+◌}
use lib.Dec.{leb, ltb}
use lib.Ieee.{Float}
use lib.ListN.{length}
use Rattle.lists.specs.Every.{all}
use Rattle.geometry.specs.declared.Point2.{Point2}
use Rattle.polyline.specs.Polyline.{line_length, point_at}
use Rattle.entities.specs.declared.Tolerance.{Tolerance}
use Rattle.entities.specs.declared.SplitAt.{SplitAt}
use Rattle.entities.specs.declared.Refusal.TheVariants as R
use Rattle.entities.specs.Records.{Line, Lane, Map}
use Rattle.rules.specs.Map.{lane, centerline, flat_point}
use Rattle.rules.specs.Sound.{sound, ids_named, next_id, last_counter}
use Rattle.rules.specs.Edit.{Res, ◌>>=◌, check, require, Edited}
use Rattle.rules.specs.Split.{LanePlan, pieces_ids, cut_station, cuttable, lane_plans, all_cross, cut, group_of, split_lane}
use Rattle.rules.specs.Ops.{SplitLane, State, edit, counter_after}
use Rattle.rules.proofs.Facts.{sound-facts}
use Rattle.laws.proofs.Law.{Law, Lawful}
use Rattle.laws.proofs.Lawful.{yields, required}
use Rattle.laws.proofs.Still.{ids_up}
use Rattle.laws.proofs.SoundParts.{names-below}
use Rattle.laws.proofs.SplitPlans.{bound}
use Rattle.laws.proofs.SplitYield.{cut_of, pieces_of, ids_are_left, cut-yields, split_books}
use Rattle.laws.proofs.SplitLaw.{split-told, split-sound}

module _ (tol : Tolerance) (i : ℕ) (at : SplitAt) (neighbors : Bool) where
  -- the steps of the definition, from the last back
  abbrev crossing : ℕ → Map → Point2 → List LanePlan → Res Edited
  crossing next m p ps =
      all_cross m p (cut_of m (group_of m i neighbors)) >>= (λ ok. Ok (cut tol next m i (group_of m i neighbors) ps (pieces_of m (group_of m i neighbors) p next)))

  abbrev planning : ℕ → Map → Float → Point2 → Res Edited
  planning next m s p = lane_plans tol m i s p (cut_of m (group_of m i neighbors)) >>= crossing next m p

  abbrev placing : ℕ → Map → Line → Float → Res Edited
  placing next m c s = require (flat_point (point_at c s)) (R.NoUsableLine i) >>= planning next m s

  abbrev measuring : ℕ → Map → Line → Float → Res Edited
  measuring next m c s = check (cuttable tol.piece c s) (R.PositionOutside i) >>= (λ ok. placing next m c s)

  abbrev drawing : ℕ → Map → Line → Res Edited
  drawing next m c = cut_station at (line_length c) >>= measuring next m c

  abbrev lining : ℕ → Map → Lane → Res Edited
  lining next m l = require (centerline m l) (R.NoUsableLine i) >>= drawing next m

  -- the law of what is yielded
  law-of : (s : State) → sound s.counter s.map ≡ true → (l : Lane) → lane s.map i ≡ Some l → (f : Float) (p : Point2) (ps : List LanePlan)
      → lane_plans tol s.map i f p (cut_of s.map (group_of s.map i neighbors)) ≡ Ok ps → (e : Edited)
      → cut tol (next_id s.counter) s.map i (group_of s.map i neighbors) ps (pieces_of s.map (group_of s.map i neighbors) p (next_id s.counter)) ≡ e
      → Law (SplitLane i at neighbors) s e
  law-of s sane l found f p ps plans e is =
      let m = s.map in
      let group = group_of m i neighbors in
      let start = next_id s.counter in
      let xs = pieces_of m group p start in
      let up = ids_up s.counter m sane in
      let below : leb (counter_after s.counter (pieces_ids xs + length ps)) last_counter ≡ true → all (λ j. ltb j (next_id s.counter)) (ids_named m) ≡ true =
      λ within. names-below s.counter m last_counter refl (ids_are_left tol s.counter m up i l found neighbors f p ps plans (pieces_ids xs) last_counter refl within)
      (sound-facts s.counter m sane).counter-above in
      subst (λ x. Law (SplitLane i at neighbors) s x) (sym (cut-yields tol start m i group ps xs) ∙ is)
      (record {
        stays_sound = λ within limits. split-sound tol s.counter m sane (below within) i l found neighbors f p ps plans limits;
        books = split_books tol s.counter m up i l found neighbors f p ps plans start xs;
        lists-exact = λ within. split-told tol s.counter m sane (below within) i l found neighbors f p ps plans;
      })

  pub split-lawful : Lawful tol (SplitLane i at neighbors)
  unfolding edit split_lane
  split-lawful s sane e h =
      let m = s.map in
      let next = next_id s.counter in
      let (l, found, h1) = required m i (lining next m) e h in
      let (c, e2, h2) = bound (require (centerline m l) (R.NoUsableLine i)) (drawing next m) e h1 in
      let (f, e3, h3) = bound (cut_station at (line_length c)) (measuring next m c) e h2 in
      let (ok, e4, h4) = bound (check (cuttable tol.piece c f) (R.PositionOutside i)) (λ ok. placing next m c f) e h3 in
      let (p, e5, h5) = bound (require (flat_point (point_at c f)) (R.NoUsableLine i)) (planning next m f) e h4 in
      let (ps, e6, h6) = bound (lane_plans tol m i f p (cut_of m (group_of m i neighbors))) (crossing next m p) e h5 in
      let (ok2, e7, h7) =
      bound (all_cross m p (cut_of m (group_of m i neighbors))) (λ ok. Ok (cut tol next m i (group_of m i neighbors) ps (pieces_of m (group_of m i neighbors) p next))) e h6 in
      law-of s sane l found f p ps e6 e (yields h7)
