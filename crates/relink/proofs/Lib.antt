pub mod Gap
pub mod Linking
pub mod Reported
