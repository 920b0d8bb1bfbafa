pub mod Good
pub mod Returned
