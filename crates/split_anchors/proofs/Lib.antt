pub mod Sides
pub mod Centers
pub mod Places
pub mod Told
pub mod Followed
pub mod Accepted
