pub mod Numbers
pub mod Tables
pub mod Digests
pub mod Texts
