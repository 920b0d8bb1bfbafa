-- The declared types of the crates below, under one roof.
pub use Rattle.entities.specs.declared.Side.{Side}
pub use Rattle.entities.specs.declared.Side.TheVariants.{Left, Right}
pub use Rattle.entities.specs.declared.BoundaryRef.{BoundaryRef}
pub use Rattle.entities.specs.declared.NeighborDirection.{NeighborDirection}
pub use Rattle.entities.specs.declared.NeighborDirection.TheVariants.{Same, Opposite}
pub use Rattle.entities.specs.declared.Neighbor.{Neighbor}
pub use Rattle.entities.specs.declared.SplitAt.{SplitAt}
pub use Rattle.entities.specs.declared.SplitAt.TheVariants.{Fraction, Station}
pub use Rattle.entities.specs.declared.Tolerance.{Tolerance}
pub use Rattle.entities.specs.declared.EntityKind.{EntityKind}
pub use Rattle.entities.specs.declared.EntityKind.TheVariants.{Lane as LaneKind, Boundary as BoundaryKind, Road as RoadKind, Junction as JunctionKind, StopLine as StopLineKind, TrafficSignal as SignalKind, Crosswalk as CrosswalkKind, RegulatoryElement as RuleKind}
pub use Rattle.entities.specs.declared.EntityRef.{EntityRef}
pub use Rattle.entities.specs.declared.Severity.{Severity}
pub use Rattle.entities.specs.declared.Severity.TheVariants.{Info, Warning, Error}
pub use Rattle.entities.specs.declared.IssueCode.{IssueCode}
pub use Rattle.entities.specs.declared.IssueCode.TheVariants.{NoOp, GeometricGap, BoundaryUnshared, NeighborDropped, OrphanRule, AttributeConflict}
pub use Rattle.entities.specs.declared.Refusal.{Refusal}
pub use Rattle.entities.specs.declared.Refusal.TheVariants.{LaneAbsent, FractionOutside, PositionOutside, OwnPartner, NotMergeable, BoundaryAbsent, NoUsableLine, NotCrossing, Unsound, NoRoom, NoIds}
pub use Rattle.geometry.specs.declared.Point2.{Point2}
pub use Rattle.geometry.specs.declared.Point3.{Point3}
