pub mod Laws
pub mod Closed
pub mod Slots
pub mod Steps
pub mod Choose
