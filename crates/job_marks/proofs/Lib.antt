pub mod Sorted
pub mod Turns
pub mod Pairs
pub mod Marked
