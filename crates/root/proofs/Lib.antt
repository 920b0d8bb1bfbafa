-- Laws that the proofs of the functions share, and the theorems on the root.
pub mod Numbers
pub mod Rounding
pub mod Places
pub mod Units
pub mod Whole
pub mod Doubles
pub mod Signs
pub mod Nearest
pub mod Ordinary
mod Examples
