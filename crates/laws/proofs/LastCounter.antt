-- Why the law's exact lists want the counter to have the ids: at the largest counter a map may hold that very id, and a merge's new boundary would bear it.
-- The call is refused then (11). Assumes nothing.
use Rattle.std.specs.Prelude.{None, Ok}
use mathlib.Core.Path.{◌≡◌, refl, sym, ◌∙◌}
use mathlib.Core.Bool.{true, false}
use mathlib.Core.List.{List, [], ◌∷◌}
use Prim.Native.Nat.{ℕ}
use native.Mathlib.Omega.{arith}
use lib.Dec.{leb}
use Rattle.entities.specs.Types.{forward, preset, boundary_entity}
use Rattle.entities.specs.declared.EntityRef.{EntityRef}
use Rattle.entities.specs.Records.{Lane, Boundary}
use Rattle.rules.specs.Sound.{sound, last_counter}
use Rattle.rules.specs.Edit.{Edited}
use Rattle.rules.specs.Ops.{MergeLanes, State, edit, counter_after}
use Rattle.rules.specs.Merge.{kept, fresh, merged}
use Rattle.rules.specs.Demand.{appeared, Exact}
use Rattle.rules.proofs.Opened.{opened}

abbrev lane_with : ℕ → ℕ → List ℕ → List ℕ → Lane
lane_with i left ps ss =
    record {
      id = i;
      kind = 0;
      left = forward left;
      right = forward 1;
      centerline = None;
      speed_limit = None;
      one_way = true;
      turn_direction = 0;
      attributes = 0;
      left_neighbor = None;
      right_neighbor = None;
      predecessors = ps;
      successors = ss;
    }

abbrev bare : ℕ → Boundary
bare i = record { id = i; kind = 0; geometry = []; attributes = 0 }

abbrev first : Lane
first = lane_with 1 last_counter [] (2 ∷ [])

abbrev second : Lane
second = lane_with 2 1 (1 ∷ []) []

-- lane 1 leads to lane 2; lane 1's left boundary has the largest id, every other side is boundary 1
abbrev pub crowded : State
crowded =
    record {
      map = record { lanes = first ∷ second ∷ []; boundaries = bare 1 ∷ bare last_counter ∷ []; roads = []; junctions = []; rules = []; stop_lines = []; crosswalks = [] };
      counter = last_counter;
    }

pub crowded-sound : sound last_counter crowded.map ≡ true
unfolding opened
crowded-sound = refl

-- the left side is planned afresh, since lane 1 uses boundary 1 too
abbrev pub outcome : Edited
outcome = merged preset last_counter crowded.map first second (fresh []) kept

pub crowded-yields : edit preset (MergeLanes 1 2) crowded ≡ Ok outcome
unfolding opened
crowded-yields = refl

-- what it would create was there
created-there : outcome.changes.created ≡ boundary_entity last_counter ∷ []
unfolding opened
created-there = refl

none-appeared : appeared crowded.map outcome.result ≡ []
unfolding opened
none-appeared = refl

pub not-exact : Exact crowded.map outcome.changes outcome.result → ⊥
not-exact x = full (sym created-there ∙ (x.created_is ∙ none-appeared))
  where
    full : {e : EntityRef} → e ∷ [] ≡ [] → ⊥
    full h = let z : ◌≡◌ {A = ℕ} 0 1 = cc in nothing z
      where
        nothing : ◌≡◌ {A = ℕ} 0 1 → ⊥
        nothing z = omega arith

-- The counter has no id left, so the call is refused.
pub no-ids : leb (counter_after last_counter outcome.ids) last_counter ≡ false
unfolding opened
no-ids = refl
