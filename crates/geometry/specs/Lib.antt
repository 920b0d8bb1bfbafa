pub mod Float
pub mod Bounds
pub mod Point
