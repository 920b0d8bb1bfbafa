pub mod Chosen
pub mod ByRows
pub mod Whole
pub mod Pieces
pub mod Few
pub mod Members
