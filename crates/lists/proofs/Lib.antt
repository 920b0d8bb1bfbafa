pub mod Booleans
pub mod Every
pub mod Rows
pub mod Select
pub mod Turns
pub mod Place
pub mod Same
