pub mod Entities
pub mod Noted
pub mod Dropped
