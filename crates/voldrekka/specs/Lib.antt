pub mod Nearest
pub mod Split
pub mod Edits
pub mod Jobs
