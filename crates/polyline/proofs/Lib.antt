pub mod Points
pub mod Walk
pub mod Lines
pub mod Counts
pub mod Reach
pub mod Split
pub mod Far
