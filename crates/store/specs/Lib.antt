pub mod Store
pub mod Rows
pub mod Laid
