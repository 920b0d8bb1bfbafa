pub mod Pieces
pub mod Slots
pub mod Rows
pub mod Coming
pub mod Written
