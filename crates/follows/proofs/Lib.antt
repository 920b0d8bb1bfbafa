pub mod Places
pub mod Rows
pub mod Rules
pub mod Differs
