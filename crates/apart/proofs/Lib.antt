pub mod Clear
pub mod Marks
pub mod Stored
pub mod Walk
