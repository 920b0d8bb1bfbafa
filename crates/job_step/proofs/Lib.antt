pub mod Prefix
pub mod Turn
pub mod Edits
pub mod Area
pub mod Claim
pub mod Ends
