pub mod Table
pub mod Links
pub mod Linked
pub mod Neighbors
