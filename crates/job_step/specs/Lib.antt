pub mod Job
pub mod Run
