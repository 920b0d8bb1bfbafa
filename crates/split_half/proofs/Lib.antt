pub mod Halves
pub mod Centers
