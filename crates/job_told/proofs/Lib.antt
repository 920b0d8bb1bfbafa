pub mod Sorted
pub mod Ends
