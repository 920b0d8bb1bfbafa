pub mod Relinks
