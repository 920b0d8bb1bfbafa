pub mod Leaves
pub mod Lines
pub mod Marked
pub mod Marks
pub mod Turns
