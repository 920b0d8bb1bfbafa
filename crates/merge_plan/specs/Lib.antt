pub mod Deciding
pub mod Sides
