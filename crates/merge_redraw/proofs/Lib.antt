pub mod Lines
pub mod Sides
pub mod BoundaryRows
pub mod LaneRows
pub mod Whole
