pub mod Numbers
pub mod Digest
pub mod File
pub mod Text
