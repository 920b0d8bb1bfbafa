pub mod Opened
pub mod Facts
pub mod Reciprocal
pub mod Relations
pub mod Cases
pub mod Turned
