pub mod Laws
pub mod Center
pub mod Good
