pub mod Begun
pub mod Nearest
pub mod Root
pub mod Steps
pub mod Guess
