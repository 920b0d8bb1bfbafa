pub mod Shifts
pub mod Moves
pub mod Settled
pub mod Walks
pub mod Starts
pub mod Columns
pub mod Whole
pub mod Laying
