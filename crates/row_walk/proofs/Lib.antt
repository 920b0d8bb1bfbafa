pub mod Turning
pub mod Behind
