pub mod JobWords
