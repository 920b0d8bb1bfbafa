pub mod Clauses
pub mod First
pub mod Passes
