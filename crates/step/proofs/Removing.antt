-- remove_lane keeps lent memory. Assumes nothing.
use Rattle.std.specs.Prelude.{Ok}
use mathlib.Core.Path.{◌≡◌, refl, subst}
use mathlib.Core.Bool.{Bool, true, not, ◌&&◌}
use mathlib.Core.List.{[], ◌∷◌}
use Prim.Native.Nat.{ℕ}
use lib.Dec.{eqb}
use Rattle.lists.specs.Select.{keep, any, without}
use Rattle.entities.specs.Records.{Lane, Map}
use Rattle.rules.specs.Names.{Tolerance}
use Rattle.rules.specs.Map.{uses}
use Rattle.rules.specs.Sound.{sound}
use Rattle.rules.specs.Lane.{forgetting, road_lanes, junction_lanes, rule_lanes, remove_lane}
use Rattle.rules.specs.Ops as O
use Rattle.laws.proofs.Lawful.{yields, required}
use Rattle.laws.proofs.Remove.{removed}
use Rattle.laws.proofs.RemoveLawful.{removing, remove-lawful}
use Rattle.tables.specs.View.{Tables, view}
use Rattle.tables.specs.Formed.{sound_tables}
use Rattle.store.specs.Store.{store}
use Rattle.sound_facts.proofs.Thinned.{Keeping, view-thinned, kept-thinned, lengths-thinned}
use Rattle.step.proofs.Keeping.{Keeps, Holds, Writable, Writes, writes-keep}

-- the ids that stay: of lanes, and of boundaries
abbrev stays : ℕ → ℕ → Bool
stays a i = not (eqb i a)

abbrev still_used : ℕ → Lane → Map → ℕ → Bool
still_used a gone m i = not (any (uses i) (gone ∷ []) && not (any (uses i) (keep (λ l. stays a l.id) m.lanes)))

-- what names the lane forgets it, and keeps its id and its line
forgets : (a : ℕ) → Keeping (forgetting a) (road_lanes (without a)) (junction_lanes (without a)) (rule_lanes (without a) (without a))
forgets a = record { lanes = λ l. refl; centers = λ l. refl; roads = λ r. refl; junctions = λ j. refl; rules = λ r. refl }

removed-held : (counter : ℕ) (t : Tables) → sound_tables counter t ≡ true → (a : ℕ) (gone : Lane) → sound counter (removed a gone (view t)) ≡ true
    → Holds store counter t (removed a gone (view t))
removed-held counter t s a gone sane =
    let q = stays a in
    let p = still_used a gone (view t) in
    let f = forgetting a in
    let g = road_lanes (without a) in
    let k = junction_lanes (without a) in
    let u = rule_lanes (without a) (without a) in
    record {
      stays_sound = kept-thinned counter t s q p f g k u (forgets a) sane;
      map-held = view-thinned counter t s q p f g k u (forgets a) sane;
      lengths_left = lengths-thinned counter t s q p f g k u (forgets a) sane;
    }

remove-writes : (tol : Tolerance) (a : ℕ) → Writes tol (O.RemoveLane a)
unfolding O.edit remove_lane
remove-writes tol a counter t s e h =
    let (gone, found, h1) = required (view t) a (λ gone. Ok (removing a gone (view t))) e h in
    subst (Writable store counter t) (yields h1) (λ sane room. removed-held counter t s a gone sane)

pub remove-keeps : (tol : Tolerance) (a : ℕ) → Keeps tol (O.RemoveLane a)
remove-keeps tol a = writes-keep tol (O.RemoveLane a) (remove-lawful tol a) (remove-writes tol a)
