pub mod Created
pub mod Warned
pub mod Touched
pub mod Differing
pub mod Kept
pub mod Led
pub mod Modified
