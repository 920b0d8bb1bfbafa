pub mod Same
pub mod Short
pub mod Along
pub mod Running
