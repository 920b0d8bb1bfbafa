pub mod Ends
pub mod Claim
