-- Cases 1 and 2 on lent memory, computed. Assumes nothing.
use mathlib.Core.Path.{◌≡◌, refl}
use mathlib.Core.Bool.{true}
use mathlib.Core.List.{List, [], ◌∷◌, ◌++◌}
use Prim.Native.Nat.{ℕ}
use lib.Ieee.{Float, binary64, of_bits}
use lib.ListN.{replicate}
use Rattle.lists.specs.Rows.{reads, over}
use Rattle.entities.specs.Types.{preset}
use Rattle.rules.specs.Names.{Fraction}
use Rattle.rules.specs.Ops as O
use Rattle.rules.proofs.Opened.{opened}
use Rattle.tables.specs.View.{part, rows, view, lane_of, boundary_of, road_of, junction_of, rule_of, stop_line_of, crosswalk_of}
use Rattle.tables.specs.Formed.{all_clear, spans, lane_formed, rule_formed, formed, sound_tables}
use Rattle.store.specs.Store.{lane_onto, boundary_onto, road_onto, junction_onto, rule_onto, writes, packed, store_rows, store}
use Rattle.store.specs.Laid.{placed, lane_laid, boundary_laid, stop_laid, crosswalk_laid, laid}
use Rattle.report.specs.Report.{listed, warned, changed, divided}
use Rattle.step.specs.Step.{ended, step}
use Rattle.step.specs.Run.{Held, Lending, lend, run_tables, closings}

unfoldable opened-tables : ℕ
unfolding all_clear spans lane_formed rule_formed formed sound_tables part rows view reads over lane_of boundary_of road_of junction_of rule_of stop_line_of crosswalk_of lane_onto boundary_onto road_onto junction_onto rule_onto writes packed store_rows store placed lane_laid boundary_laid stop_laid crosswalk_laid laid listed warned step run_tables closings
opened-tables = 0

abbrev n0 : Float
n0 = of_bits binary64 0

abbrev n5 : Float
n5 = of_bits binary64 0x4014000000000000

abbrev n10 : Float
n10 = of_bits binary64 0x4024000000000000

abbrev n2 : Float
n2 = of_bits binary64 0x4000000000000000

abbrev -n2 : Float
-n2 = of_bits binary64 0xC000000000000000

abbrev at : Float → Float → List Float
at x y = x ∷ y ∷ n0 ∷ []

-- a lane with its boundaries and the words of its lists of links
abbrev row : ℕ → ℕ → ℕ → List ℕ → List ℕ → List ℕ
row i l r before after = i ∷ 0 ∷ l ∷ 0 ∷ r ∷ 0 ∷ replicate 12 0 ++ (before ++ (replicate 15 0 ++ (after ++ replicate 15 0)))

abbrev held : ℕ → List ℕ → List ℕ → List Float → Held
held counter lanes boundaries coordinates =
    record {
      counter = counter;
      tables =
          record {
            lanes = lanes;
            boundaries = boundaries;
            roads = 0 ∷ [];
            junctions = 0 ∷ [];
            rules = 0 ∷ [];
            stop_lines = 0 ∷ [];
            crosswalks = 0 ∷ [];
            coordinates = coordinates;
          };
    }

abbrev none-linked : List ℕ
none-linked = 0 ∷ 0 ∷ []

-- boundary 102's points lie first
abbrev pub whole : Held
whole =
    held 103 (1 ∷ row 1 101 102 none-linked none-linked ++ replicate 52 0) (2 ∷ (101 ∷ 1 ∷ 2 ∷ 2 ∷ 0 ∷ []) ++ ((102 ∷ 1 ∷ 0 ∷ 2 ∷ 0 ∷ []) ++ replicate 10 0))
    (at n0 -n2 ++ (at n10 -n2 ++ (at n0 n2 ++ (at n10 n2 ++ replicate 12 n0))))

abbrev pub halved : Held
halved =
    held 106 (2 ∷ row 1 101 102 none-linked (1 ∷ 105 ∷ []) ++ row 105 103 104 (1 ∷ 1 ∷ []) none-linked)
    (4 ∷ (101 ∷ 1 ∷ 0 ∷ 2 ∷ 0 ∷ []) ++ ((102 ∷ 1 ∷ 2 ∷ 2 ∷ 0 ∷ []) ++ ((103 ∷ 1 ∷ 4 ∷ 2 ∷ 0 ∷ []) ++ (104 ∷ 1 ∷ 6 ∷ 2 ∷ 0 ∷ []))))
    (at n0 n2 ++ (at n5 n2 ++ (at n0 -n2 ++ (at n5 -n2 ++ (at n5 n2 ++ (at n10 n2 ++ (at n5 -n2 ++ at n10 -n2)))))))

-- what is not used stays
abbrev pub rejoined : Held
rejoined =
    held 106 (1 ∷ row 1 101 102 none-linked (0 ∷ 105 ∷ []) ++ row 105 103 104 (1 ∷ 1 ∷ []) none-linked)
    (2 ∷ (101 ∷ 1 ∷ 0 ∷ 3 ∷ 0 ∷ []) ++ ((102 ∷ 1 ∷ 3 ∷ 3 ∷ 0 ∷ []) ++ ((103 ∷ 1 ∷ 4 ∷ 2 ∷ 0 ∷ []) ++ (104 ∷ 1 ∷ 6 ∷ 2 ∷ 0 ∷ []))))
    (at n0 n2 ++ (at n5 n2 ++ (at n10 n2 ++ (at n0 -n2 ++ (at n5 -n2 ++ (at n10 -n2 ++ (at n5 -n2 ++ at n10 -n2)))))))

abbrev lending : O.Command → List ℕ → List ℕ → List ℕ → Lending
lending c created modified deleted = record { command = c; created = created; modified = modified; deleted = deleted; warnings = [] }

abbrev splits : O.Command
splits = O.SplitLane 1 (Fraction (of_bits binary64 0x3FE0000000000000)) true

abbrev merges : O.Command
merges = O.MergeLanes 1 105

pub whole-sound : sound_tables whole.counter whole.tables ≡ true
unfolding opened-tables opened
whole-sound = refl

pub split-and-merged :
    run_tables preset (lending splits (replicate 6 0) (replicate 6 0) [] ∷ lending merges [] (replicate 6 0) (replicate 6 0) ∷ []) whole
    ≡ ended (lend halved (lending splits (0 ∷ 105 ∷ 1 ∷ 103 ∷ 1 ∷ 104 ∷ []) (0 ∷ 1 ∷ 1 ∷ 101 ∷ 1 ∷ 102 ∷ []) []))
    (divided (record { created = 3; modified = 3; deleted = 0; warnings = 0 }) 105)
    ∷ ended (lend rejoined (lending merges [] (0 ∷ 1 ∷ 1 ∷ 101 ∷ 1 ∷ 102 ∷ []) (0 ∷ 105 ∷ 1 ∷ 103 ∷ 1 ∷ 104 ∷ [])))
    (changed (record { created = 0; modified = 3; deleted = 3; warnings = 0 }))
    ∷ []
unfolding opened-tables opened
split-and-merged = refl
