pub mod Facts
pub mod Asks
pub mod Words
pub mod Room
pub mod Lists
pub mod Named
pub mod LaidRows
pub mod Laid
