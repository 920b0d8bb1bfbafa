pub mod Listed
pub mod Warned
