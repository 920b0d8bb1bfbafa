pub mod Counts
pub mod Few
pub mod Relinks
pub mod Leaves
pub mod Splits
pub mod Fits
