pub mod Once
pub mod Edits
pub mod Among
pub mod Fresh
pub mod Past
pub mod Net
pub mod Claim
