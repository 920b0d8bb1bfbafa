-- Calls on two lanes, computed: what the claim asks of them, document 01's case 6, and two editors that the claim turns down. Assumes nothing.
use Rattle.std.specs.Prelude.{Err}
use mathlib.Core.Path.{◌≡◌, refl, sym, ap, ◌∙◌}
use mathlib.Core.Bool.{Bool, true, false, true≢false}
use mathlib.Core.List.{List, [], ◌∷◌, ◌++◌, map}
use Prim.Native.Nat.{ℕ}
use lib.Ieee.{Float, binary64, of_bits}
use lib.ListN.{replicate}
use Rattle.lists.specs.Rows.{reads, over}
use Rattle.entities.specs.Types.{preset}
use Rattle.rules.specs.Names.{LaneAbsent, OwnPartner}
use Rattle.rules.specs.Map.{leads_to}
use Rattle.rules.specs.Ops as O
use Rattle.rules.proofs.Opened.{opened}
use Rattle.tables.specs.View.{part, rows, view, lane_of, boundary_of, road_of, junction_of, rule_of, stop_line_of, crosswalk_of}
use Rattle.tables.specs.Formed.{all_clear, spans, lane_formed, rule_formed, formed, sound_tables}
use Rattle.store.specs.Store.{lane_onto, boundary_onto, road_onto, junction_onto, rule_onto, writes, packed, store_rows, store}
use Rattle.report.specs.Report.{listed, warned, Answer, changed}
use Rattle.store.specs.Store.{room_of}
use Rattle.step.specs.Step.{Ended, ended, step}
use Rattle.step.specs.Run.{Held, Lending, lend, held_in, map_in, call_on, run_tables, closings}
use Rattle.step.proofs.Claim.{demand_3_tables}

-- the definitions of lent memory, opened
unfoldable opened-tables : ℕ
unfolding all_clear spans lane_formed rule_formed formed sound_tables part rows view reads over lane_of boundary_of road_of junction_of rule_of stop_line_of crosswalk_of lane_onto boundary_onto road_onto junction_onto rule_onto writes packed store_rows store listed warned step run_tables closings
opened-tables = 0

-- ---- two lanes

-- a lane whose boundaries are missing, with nothing beside it and no links
abbrev lane : ℕ → List ℕ
lane i = i ∷ 0 ∷ 101 ∷ 0 ∷ 102 ∷ 0 ∷ replicate 46 0

abbrev pub two : Held
two =
    record {
      counter = 200;
      tables =
          record {
            lanes = 2 ∷ lane 1 ++ lane 2;
            boundaries = 0 ∷ [];
            roads = 0 ∷ [];
            junctions = 0 ∷ [];
            rules = 0 ∷ [];
            stop_lines = 0 ∷ [];
            crosswalks = 0 ∷ [];
            coordinates = [];
          };
    }

pub two-sound : sound_tables two.counter two.tables ≡ true
unfolding opened-tables opened
two-sound = refl

-- places for two lanes
abbrev lending : O.Command → Lending
lending c = record { command = c; created = []; modified = replicate 4 0; deleted = []; warnings = [] }

abbrev pub connects : Lending
connects = lending (O.ConnectLanes 1 2)

abbrev pub disconnects : Lending
disconnects = lending (O.DisconnectLanes 1 2)

-- "Connect 1 to 1: 4."
abbrev pub refuses : Lending
refuses = lending (O.ConnectLanes 1 1)

-- ---- what the claim asks of these calls

-- the right side of `calls_closed`: it knows the rules of maps alone
abbrev pub asked : List Lending → List Ended
asked cs = closings cs (O.run preset (room_of two.tables) (map (call_on two) cs) (map_in two)) two

-- the editor gives it
pub asked-given : (cs : List Lending) → run_tables preset cs two ≡ asked cs
asked-given cs = (demand_3_tables preset two two-sound cs).calls_closed

-- whether a call has left lane 2 as a successor of lane 1
abbrev pub linked : Ended → Bool
linked e = leads_to (view e.lent.tables) 1 2

pub links-first : leads_to (view two.tables) 1 2 ≡ false
unfolding opened-tables opened
links-first = refl

pub links-asked : map linked (asked (connects ∷ refuses ∷ disconnects ∷ [])) ≡ true ∷ true ∷ false ∷ []
unfolding opened-tables opened
links-asked = refl

-- two lanes modified; refusal 4 of lane 1
pub answers-asked :
    let two-modified : Answer = changed (record { created = 0; modified = 2; deleted = 0; warnings = 0 }) in
    map (λ e. e.answer) (asked (connects ∷ refuses ∷ disconnects ∷ [])) ≡ two-modified ∷ Err (OwnPartner 1) ∷ two-modified ∷ []
unfolding opened-tables opened
answers-asked = refl

-- ---- case 6: lane 2, between 102 and 103, is right of lane 1

-- a lane with its boundaries and the words of its two slots
abbrev lane_beside : ℕ → ℕ → ℕ → List ℕ → List ℕ
lane_beside i l r slots = i ∷ 0 ∷ l ∷ 0 ∷ r ∷ 0 ∷ replicate 8 0 ++ (slots ++ replicate 34 0)

-- two points from 0 to 10 along
abbrev across : Float → List Float
across y =
    let nought = of_bits binary64 0 in
    let ten = of_bits binary64 0x4024000000000000 in
    nought ∷ y ∷ nought ∷ ten ∷ y ∷ nought ∷ []

-- "Case 5's map before the split", with this lane table and so many boundaries
abbrev right_of : List ℕ → ℕ → Held
right_of lanes n =
    record {
      counter = 104;
      tables =
          record {
            lanes = lanes;
            boundaries = n ∷ (101 ∷ 1 ∷ 0 ∷ 2 ∷ 0 ∷ []) ++ ((102 ∷ 1 ∷ 2 ∷ 2 ∷ 0 ∷ []) ++ (103 ∷ 1 ∷ 4 ∷ 2 ∷ 0 ∷ []));
            roads = 0 ∷ [];
            junctions = 0 ∷ [];
            rules = 0 ∷ [];
            stop_lines = 0 ∷ [];
            crosswalks = 0 ∷ [];
            coordinates = across (of_bits binary64 0x4000000000000000) ++ (across (of_bits binary64 0xC000000000000000) ++ across (of_bits binary64 0xC018000000000000));
          };
    }

abbrev pub pair : Held
pair = right_of (2 ∷ lane_beside 1 101 102 (0 ∷ 0 ∷ 1 ∷ 2 ∷ []) ++ lane_beside 2 102 103 (1 ∷ 1 ∷ 0 ∷ 0 ∷ [])) 3

-- one lane and two boundaries are left; the words that are not used stay
abbrev pub single : Held
single = right_of (1 ∷ lane_beside 1 101 102 (0 ∷ 0 ∷ 0 ∷ 2 ∷ []) ++ lane_beside 2 102 103 (1 ∷ 1 ∷ 0 ∷ 0 ∷ [])) 2

pub pair-sound : sound_tables pair.counter pair.tables ≡ true
unfolding opened-tables opened
pair-sound = refl

abbrev pub removes : Lending
removes = record { command = O.RemoveLane 2; created = []; modified = replicate 2 0; deleted = replicate 4 0; warnings = [] }

-- "remove 2: deleted lane 2, boundary 103; modified lane 1"; then connect 1 to 2: refusal 1 of lane 2. All that the two calls leave and answer.
pub case_6 :
    run_tables preset (removes ∷ connects ∷ []) pair
    ≡ ended (lend single (record { command = O.RemoveLane 2; created = []; modified = 0 ∷ 1 ∷ []; deleted = 0 ∷ 2 ∷ 1 ∷ 103 ∷ []; warnings = [] }))
    (changed (record { created = 0; modified = 1; deleted = 2; warnings = 0 }))
    ∷ ended (lend single connects) (Err (LaneAbsent 2))
    ∷ []
unfolding opened-tables opened
case_6 = refl

-- ---- editors that the claim turns down

links-one : map linked (asked (connects ∷ [])) ≡ true ∷ []
unfolding opened-tables opened
links-one = refl

links-two : map linked (asked (connects ∷ disconnects ∷ [])) ≡ true ∷ false ∷ []
unfolding opened-tables opened
links-two = refl

-- "one that accepts and edits nothing", whatever it answers
pub idle-refuted : (a : Answer) → ended (lend two connects) a ∷ [] ≡ asked (connects ∷ []) → ⊥
idle-refuted a e = one (ap (λ b. b ∷ []) (sym links-first) ∙ (ap (map linked) e ∙ links-one))
  where
    one : false ∷ [] ≡ true ∷ [] → ⊥
    one q = true≢false (sym cc)

-- "one that performs a run's first edit and acts out the rest"
pub acted_refuted : (first : Ended) (a : Answer) → first ∷ ended (lend (held_in first.lent) disconnects) a ∷ [] ≡ asked (connects ∷ disconnects ∷ []) → ⊥
acted_refuted first a e = both (linked first) (ap (map linked) e ∙ links-two)
  where
    both : (b : Bool) → b ∷ b ∷ [] ≡ true ∷ false ∷ [] → ⊥
    both b q = true≢false cc
