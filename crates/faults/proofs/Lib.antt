pub mod Laws
pub mod Sound
pub mod Whole
pub mod Cases
