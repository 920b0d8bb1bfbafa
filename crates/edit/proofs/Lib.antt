pub mod Steps
pub mod Named
pub mod Connects
pub mod Fitting
pub mod Beside
pub mod Ready
pub mod Ends
