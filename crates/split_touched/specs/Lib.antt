pub mod Modified
