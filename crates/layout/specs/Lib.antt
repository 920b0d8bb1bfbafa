pub mod Layout
pub mod Pointed
