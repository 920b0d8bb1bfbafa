pub mod Columns
pub mod View
pub mod Formed
