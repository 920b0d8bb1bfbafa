-- The types that go by value (id.rs, entities.rs, topology.rs, diagnostics.rs), with the numbers of document 01.
use Rattle.std.specs.Prelude.{◌≡◌, refl, false, ℕ, Float, Option, None, Some}
use Rattle.std.specs.Float.{binary64}
use Rattle.std.specs.Float.Ieee.{of_bits, round}
use Rattle.entities.specs.declared.Side.{Side}
use Rattle.entities.specs.declared.Side.TheVariants.{Left, Right}
pub use Rattle.entities.specs.declared.BoundaryRef.{BoundaryRef}
use Rattle.entities.specs.declared.NeighborDirection.{NeighborDirection}
use Rattle.entities.specs.declared.NeighborDirection.TheVariants.{Same, Opposite}
pub use Rattle.entities.specs.declared.Neighbor.{Neighbor}
use Rattle.entities.specs.declared.Tolerance.{Tolerance}
use Rattle.entities.specs.declared.EntityKind.{EntityKind}
use Rattle.entities.specs.declared.EntityKind.TheVariants.{Lane as LaneKind, Boundary as BoundaryKind, Road as RoadKind, Junction as JunctionKind, StopLine as StopLineKind, TrafficSignal as SignalKind, Crosswalk as CrosswalkKind, RegulatoryElement as RuleKind}
pub use Rattle.entities.specs.declared.EntityRef.{EntityRef}
pub use Rattle.entities.specs.declared.Severity.{Severity}
use Rattle.entities.specs.declared.Severity.TheVariants.{Info, Warning, Error}
pub use Rattle.entities.specs.declared.IssueCode.{IssueCode}
use Rattle.entities.specs.declared.IssueCode.TheVariants.{NoOp, GeometricGap, BoundaryUnshared, NeighborDropped, OrphanRule, AttributeConflict}
use Rattle.entities.specs.declared.Refusal.{Refusal}
use Rattle.entities.specs.declared.Refusal.TheVariants.{LaneAbsent, FractionOutside, PositionOutside, OwnPartner, NotMergeable, BoundaryAbsent, NoUsableLine, NotCrossing, Unsound, NoRoom, NoIds}

-- ---- sides, neighbours, boundary references

abbrev pub opposite : Side → Side
opposite Left = Right
opposite Right = Left

abbrev pub forward : ℕ → BoundaryRef
forward b = record { boundary = b; reversed = false }

abbrev pub same : ℕ → Neighbor
same l = record { lane = l; direction = Same }

abbrev pub opposing : ℕ → Neighbor
opposing l = record { lane = l; direction = Opposite }

-- Document 01: "Same-direction neighbours sit on opposite sides, opposite-direction neighbours on the same side."
abbrev pub reciprocal_side : Side → NeighborDirection → Side
reciprocal_side side Same = opposite side
reciprocal_side side Opposite = side

-- ---- the tolerances: each the double nearest its decimal

abbrev pub min_piece_length : Float
min_piece_length = of_bits binary64 0x3FB999999999999A

abbrev pub gap_tolerance : Float
gap_tolerance = of_bits binary64 0x3FB999999999999A

abbrev pub joining_distance : Float
joining_distance = of_bits binary64 0x3EB0C6F7A0B5ED8D

abbrev pub crossing_margin : Float
crossing_margin = of_bits binary64 0x3EB0C6F7A0B5ED8D

tenth_is : min_piece_length ≡ round binary64 false 1 10
unfolding of_bits round
tenth_is = refl

millionth_is : joining_distance ≡ round binary64 false 1 1000000
unfolding of_bits round
millionth_is = refl

abbrev pub preset : Tolerance
preset = record { piece = min_piece_length; gap = gap_tolerance; join = joining_distance }

-- ---- entities and warnings

-- Document 01: "An entity is a kind (lane, boundary, road, junction, stop line, signal, crosswalk, rule, in that order) and an id".
abbrev pub kind_number : EntityKind → ℕ
kind_number LaneKind = 0
kind_number BoundaryKind = 1
kind_number RoadKind = 2
kind_number JunctionKind = 3
kind_number StopLineKind = 4
kind_number SignalKind = 5
kind_number CrosswalkKind = 6
kind_number RuleKind = 7

abbrev pub severity_number : Severity → ℕ
severity_number Info = 0
severity_number Warning = 1
severity_number Error = 2

-- the places of the codes in the module `codes` of diagnostics.rs
abbrev pub code_number : IssueCode → ℕ
code_number NoOp = 1
code_number GeometricGap = 2
code_number BoundaryUnshared = 3
code_number NeighborDropped = 4
code_number OrphanRule = 5
code_number AttributeConflict = 8

-- ---- refusals: document 01, "Who can cause a refusal"

abbrev pub refusal_number : Refusal → ℕ
refusal_number (LaneAbsent l) = 1
refusal_number FractionOutside = 2
refusal_number (PositionOutside l) = 3
refusal_number (OwnPartner l) = 4
refusal_number (NotMergeable l) = 5
refusal_number (BoundaryAbsent b) = 6
refusal_number (NoUsableLine l) = 7
refusal_number (NotCrossing b) = 8
refusal_number Unsound = 9
refusal_number NoRoom = 10
refusal_number NoIds = 11

abbrev pub lane_entity : ℕ → EntityRef
lane_entity l = record { kind = LaneKind; id = l }

abbrev pub boundary_entity : ℕ → EntityRef
boundary_entity b = record { kind = BoundaryKind; id = b }

-- an entity that is named, as it goes by value
abbrev pub a_lane : ℕ → Option EntityRef
a_lane l = Some (lane_entity l)

abbrev pub a_boundary : ℕ → Option EntityRef
a_boundary b = Some (boundary_entity b)

-- "The entity is the absent one for 1 and 6, the lane that fails for 3 and 7, the first lane named for 4 and 5, the boundary for 8", "none for 2, 9, 10, 11".
abbrev pub refusal_entity : Refusal → Option EntityRef
refusal_entity (LaneAbsent l) = a_lane l
refusal_entity FractionOutside = None
refusal_entity (PositionOutside l) = a_lane l
refusal_entity (OwnPartner l) = a_lane l
refusal_entity (NotMergeable l) = a_lane l
refusal_entity (BoundaryAbsent b) = a_boundary b
refusal_entity (NoUsableLine l) = a_lane l
refusal_entity (NotCrossing b) = a_boundary b
refusal_entity Unsound = None
refusal_entity NoRoom = None
refusal_entity NoIds = None
