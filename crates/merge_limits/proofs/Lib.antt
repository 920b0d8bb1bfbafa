pub mod Gone
pub mod Asked
pub mod Points
pub mod Short
pub mod Limits
pub mod Whole
