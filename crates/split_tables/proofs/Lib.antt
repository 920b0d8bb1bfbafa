pub mod Behind
pub mod Pieces
pub mod Adding
pub mod Halving
