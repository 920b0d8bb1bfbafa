pub mod Keeping
pub mod Lists
pub mod Net
pub mod Ends
