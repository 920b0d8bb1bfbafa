pub mod Laws
pub mod Counter
pub mod Warnings
