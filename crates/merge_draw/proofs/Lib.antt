pub mod Laws
pub mod Turns
pub mod Boundaries
pub mod Lanes
pub mod Drawn
