pub mod Grown
pub mod Words
pub mod Differs
pub mod Rules
