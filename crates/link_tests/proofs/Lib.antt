pub mod Tallies
pub mod Followed
pub mod Steps
