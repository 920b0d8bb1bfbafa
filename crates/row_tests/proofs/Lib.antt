pub mod Tables
pub mod Formed
pub mod Lanes
pub mod Relations
pub mod Reach
