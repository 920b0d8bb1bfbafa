pub mod Relaying
pub mod Given
