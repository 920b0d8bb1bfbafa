pub mod Beyond
pub mod Marks
pub mod Listed
