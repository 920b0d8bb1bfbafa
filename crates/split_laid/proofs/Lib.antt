pub mod Boundaries
pub mod Rows
pub mod Lanes
pub mod Lies
