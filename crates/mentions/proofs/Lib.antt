pub mod Tests
pub mod Turns
pub mod Going
pub mod Whole
pub mod Records
pub mod Filters
