-- split_lane leaves the lists of roads, junctions and rules free of repeats, where every id named is below the next. Assumes nothing.
use Rattle.std.specs.Prelude.{Some, Ok}
use mathlib.Core.Path.{◌≡◌, refl, sym, ap, ◌∙◌}
use mathlib.Core.Bool.{Bool, true}
use mathlib.Core.List.{List, map}
use Prim.Native.Nat.{ℕ, ◌+◌}
use native.Mathlib.Omega.{arith}
use lib.Dec.{ltb}
use lib.Ieee.{Float}
use borrow.Author.Tests.{ltb-true, lt-ltb}
use Rattle.lists.specs.Every.{all}
use Rattle.lists.specs.Select.{has, ascending, distinct, insert_after}
use Rattle.lists.proofs.Select.{all_map, all_keep, all-weaken, keys-keep}
use Rattle.geometry.specs.declared.Point2.{Point2}
use Rattle.entities.specs.declared.Tolerance.{Tolerance}
use Rattle.entities.specs.Records.{Lane, Map}
use Rattle.rules.specs.Map.{lane, lane_ids, rule_anchor}
use Rattle.rules.specs.Sound.{sound, ids_named, next_id, repeat_free}
use Rattle.rules.specs.Split.{LanePlan, Piece, pieces_ids, halves, lane_plans, cut_map, group_of}
use Rattle.laws.proofs.Still.{ids_up}
use Rattle.laws.proofs.SoundParts.{names-own}
use Rattle.laws.proofs.SplitLanes.{map-map}
use Rattle.laws.proofs.SplitPlans.{plans-of}
use Rattle.laws.proofs.SplitYield.{cut_of, pieces_of, following, yielded}
use Rattle.laws.proofs.Once.{Fine, below-clear, under, cut_ids, distinct-after}
use Rattle.laws.proofs.Turns.{distinct-follow}
use Rattle.laws.proofs.OnceRows.{lists-free}

module _ (tol : Tolerance) (counter : ℕ) (m : Map) (sane : sound counter m ≡ true) (below : all (λ j. ltb j (next_id counter)) (ids_named m) ≡ true) (i : ℕ) (l : Lane) (found : lane m i ≡ Some l) (neighbors : Bool) (at : Float) (p : Point2)
    (ps : List LanePlan) (plans : lane_plans tol m i at p (cut_of m (group_of m i neighbors)) ≡ Ok ps) where
  abbrev xs : List Piece
  xs = pieces_of m (group_of m i neighbors) p (next_id counter)

  abbrev next : ℕ
  next = next_id counter + pieces_ids xs

  abbrev cuts : List Lane
  cuts = cut_of m (group_of m i neighbors)

  cut-ids : cut_ids ps ≡ map (λ k. k.id) cuts
  cut-ids = sym (map-map (λ k. k.id) (λ x. x.of) ps) ∙ ap (λ ks. map (λ k. k.id) ks) (plans-of tol m i at p cuts ps plans)

  pub split-once : repeat_free m ≡ true → repeat_free (yielded tol (next_id counter) m i (group_of m i neighbors) ps xs).result ≡ true
  split-once =
      lists-free (λ j. ltb j start) (insert_after (halves next ps)) (insert_after (halves next ps)) (following tol m ps xs next)
      (λ ids a d. distinct-after next ps ids up low (fine ids a d)) (λ ids a d. distinct-after next ps ids up low (fine ids a d))
      (λ r ids a d. distinct-follow tol.join (cut_map m ps xs (halves next ps) next) (rule_anchor (cut_map m ps xs (halves next ps) next) r) next ps ids up low (fine ids a d))
      m (yielded tol start m i (group_of m i neighbors) ps xs).result refl refl refl below
    where
      start : ℕ
      start = next_id counter

      ascends : ascending (lane_ids m) ≡ true
      ascends = ids_up counter m sane

      up : ascending (cut_ids ps) ≡ true
      up = ap ascending cut-ids ∙ keys-keep (λ k. k.id) (λ x. has x.id (group_of m i neighbors)) m.lanes ascends

      raised : (a b : ℕ) (j : ℕ) → ltb j a ≡ true → ltb j (a + b) ≡ true
      raised a b j t = let u = ltb-true j a t in lt-ltb j (a + b) (omega arith)

      low : under next ps ≡ true
      low =
          sym (all_map (λ j. ltb j next) (λ x. x.of.id) ps)
          ∙ (ap (all (λ j. ltb j next)) cut-ids
          ∙ (all_map (λ j. ltb j next) (λ k. k.id) cuts
          ∙ all-weaken (λ k. ltb k.id start) (λ k. ltb k.id next) cuts (λ k. raised start (pieces_ids xs) k.id)
          (all_keep (λ k. ltb k.id start) (λ x. has x.id (group_of m i neighbors)) m.lanes (names-own (λ j. ltb j start) m below))))

      fine : (ids : List ℕ) → all (λ j. ltb j start) ids ≡ true → distinct ids ≡ true → Fine next ids
      fine ids a d = record { once = d; clear = below-clear next ids (all-weaken (λ j. ltb j start) (λ j. ltb j next) ids (raised start (pieces_ids xs)) a) }
