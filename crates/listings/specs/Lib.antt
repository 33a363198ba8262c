pub mod Faults
pub mod Lines
pub mod Counts
pub mod Tasks
pub mod Printing
pub mod Sessions
pub mod Tools
pub mod Back
