pub mod Boundaries
pub mod Staying
pub mod Tables
pub mod Lists
