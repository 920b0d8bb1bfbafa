-- Why the law's exact lists want the counter to have the ids, for a split too: at the largest counter a map may hold that very id, and a new boundary would bear it.
-- The call is refused then (11). Assumes nothing.
use Rattle.std.specs.Prelude.{None, Err, Ok}
use mathlib.Core.Path.{◌≡◌, refl, sym, ap, ◌∙◌}
use mathlib.Core.Bool.{true, false}
use mathlib.Core.List.{[], ◌∷◌}
use Prim.Native.Nat.{ℕ}
use native.Mathlib.Omega.{arith}
use lib.Dec.{leb}
use lib.Ieee.{binary64, of_bits}
use lib.ListN.{length}
use Rattle.geometry.specs.declared.Point3.{Point3}
use Rattle.entities.specs.Types.{forward, preset}
use Rattle.entities.specs.declared.SplitAt.TheVariants as A
use Rattle.rules.specs.Sound.{sound, last_counter}
use Rattle.rules.specs.Edit.{Res, Edited}
use Rattle.rules.specs.Ops.{SplitLane, State, edit, counter_after}
use Rattle.rules.specs.Demand.{appeared, Exact}
use Rattle.rules.proofs.Opened.{opened}

abbrev along : ℕ → Point3
along bits = record { x = of_bits binary64 bits; y = of_bits binary64 0; z = of_bits binary64 0 }

-- one lane, ten metres long, with one boundary on both sides, whose id is the largest
abbrev pub crowded : State
crowded =
    record {
      map =
          record {
            lanes =
                record {
                  id = 1;
                  kind = 0;
                  left = forward last_counter;
                  right = forward last_counter;
                  centerline = None;
                  speed_limit = None;
                  one_way = true;
                  turn_direction = 0;
                  attributes = 0;
                  left_neighbor = None;
                  right_neighbor = None;
                  predecessors = [];
                  successors = [];
                }
                ∷ [];
            boundaries = record { id = last_counter; kind = 0; geometry = along 0 ∷ along 0x4024000000000000 ∷ []; attributes = 0 } ∷ [];
            roads = [];
            junctions = [];
            rules = [];
            stop_lines = [];
            crosswalks = [];
          };
      counter = last_counter;
    }

pub crowded-sound : sound last_counter crowded.map ≡ true
unfolding opened
crowded-sound = refl

-- the cut in its middle
abbrev pub cutting : Res Edited
cutting = edit preset (SplitLane 1 (A.Fraction (of_bits binary64 0x3FE0000000000000)) false) crowded

abbrev count_created : Res Edited → ℕ
count_created (Err r) = 0
count_created (Ok e) = length e.changes.created

abbrev count_appeared : Res Edited → ℕ
count_appeared (Err r) = 0
count_appeared (Ok e) = length (appeared crowded.map e.result)

abbrev ids_of : Res Edited → ℕ
ids_of (Err r) = 0
ids_of (Ok e) = e.ids

-- a lane and a boundary are called created, and only the lane appeared
created-two : count_created cutting ≡ 2
unfolding opened
created-two = refl

appeared-one : count_appeared cutting ≡ 1
unfolding opened
appeared-one = refl

pub not-exact : (e : Edited) → cutting ≡ Ok e → Exact crowded.map e.changes e.result → ⊥
not-exact e h x = differ (sym created-two ∙ (ap count_created h ∙ (ap length x.created_is ∙ (sym (ap count_appeared h) ∙ appeared-one))))
  where
    differ : ◌≡◌ {A = ℕ} 2 1 → ⊥
    differ z = omega arith

-- The counter has no id left, so the call is refused.
pub no-ids : leb (counter_after last_counter (ids_of cutting)) last_counter ≡ false
unfolding opened
no-ids = refl
