pub mod Standing
pub mod Listed
