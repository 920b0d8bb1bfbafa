pub mod Going
pub mod Points
