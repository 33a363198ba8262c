pub mod Pieces
pub mod Back
pub mod Once
