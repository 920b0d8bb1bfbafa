-- remove_lane keeps soundness and limits, books its links, and leaves no more of anything. Assumes nothing.
use Rattle.std.specs.Prelude.{Some}
use mathlib.Core.Path.{◌≡◌, refl}
use mathlib.Core.Bool.{Bool, true, not, ◌&&◌}
use mathlib.Core.List.{[], ◌∷◌, map}
use Prim.Native.Nat.{ℕ, ◌≤◌}
use lib.Dec.{eqb}
use lib.ListN.{length}
use Rattle.lists.specs.Select.{keep, without}
use Rattle.entities.specs.Records.{Lane, Boundary, Map}
use Rattle.rules.specs.Map.{lane, leads_to}
use Rattle.rules.specs.Sound.{point_count, within_limits, sound}
use Rattle.rules.specs.Lane.{forgetting, road_lanes, junction_lanes, rule_lanes, unused}
use Rattle.rules.proofs.Facts.{sound-facts, facts-sound}
use Rattle.laws.proofs.Leaving.{thinned-fewer, thinned-limits, thinned-ids, thinned-counter, thinned-reach, thinned-kinds, thinned_handles, thinned-ascend}
use Rattle.laws.proofs.RemoveLinks.{other, thinned-leads, thinned-links, thinned-neighbors}
use Rattle.laws.proofs.Once.{distinct_without}
use Rattle.laws.proofs.OnceRows.{plain-free}

-- the map that remove-lane yields
abbrev pub removed : ℕ → Lane → Map → Map
removed a gone m =
    record {
      lanes = map (forgetting a) (keep (λ l. not (eqb l.id a)) m.lanes);
      boundaries = keep (λ b. not (unused (gone ∷ []) (keep (λ l. not (eqb l.id a)) m.lanes) b)) m.boundaries;
      roads = map (road_lanes (without a)) m.roads;
      junctions = map (junction_lanes (without a)) m.junctions;
      rules = map (rule_lanes (without a) (without a)) m.rules;
      stop_lines = m.stop_lines;
      crosswalks = m.crosswalks;
    }

-- a boundary that stays
abbrev pub in_use : ℕ → Lane → Map → Boundary → Bool
in_use a gone m b = not (unused (gone ∷ []) (keep (λ l. not (eqb l.id a)) m.lanes) b)

-- A removal keeps soundness, whatever the limits: it only makes things fewer.
pub remove-sound : (counter : ℕ) (m : Map) (a : ℕ) (gone : Lane) → lane m a ≡ Some gone → sound counter m ≡ true → sound counter (removed a gone m) ≡ true
remove-sound counter m a gone e h =
    let s = sound-facts counter m h in
    let q = in_use a gone m in
    facts-sound counter (removed a gone m)
    (record {
      limits = (thinned-limits a (other a) q m).so s.limits;
      ids = (thinned-ids a (other a) q m).so s.ids;
      counter-above = (thinned-counter a (other a) q m counter).so s.counter-above;
      reach = (thinned-reach a (other a) q m).so s.reach;
      kinds = (thinned-kinds a (other a) q m).so s.kinds;
      handles = (thinned_handles a (other a) q m).so s.handles;
      links-ascend = (thinned-ascend a (other a) q m).so s.links-ascend;
      links = thinned-links a q m s.links;
      neighbors = thinned-neighbors a q m s.neighbors;
      once = plain-free (without a) (without a) (distinct_without a) (distinct_without a) m (removed a gone m) refl refl refl s.once;
    })

-- The link book's entry: every pair that names the lane goes.
pub remove-leads : (m : Map) (a : ℕ) (gone : Lane) (x y : ℕ) → leads_to (removed a gone m) x y ≡ (leads_to m x y && not (eqb x a) && not (eqb y a))
remove-leads m a gone x y = thinned-leads a (in_use a gone m) m x y

pub remove-limits : (m : Map) (a : ℕ) (gone : Lane) → within_limits m ≡ true → within_limits (removed a gone m) ≡ true
remove-limits m a gone h = (thinned-limits a (other a) (in_use a gone m) m).so h

pub remove-fewer : (m : Map) (a : ℕ) (gone : Lane)
    → (length (removed a gone m).lanes ≤ length m.lanes) × (length (removed a gone m).boundaries ≤ length m.boundaries)
    × (point_count (removed a gone m) ≤ point_count m)
remove-fewer m a gone = thinned-fewer a (other a) (in_use a gone m) m
