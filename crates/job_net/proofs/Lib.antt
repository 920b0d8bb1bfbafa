pub mod Below
pub mod Listing
pub mod Seven
pub mod Lists
