pub mod Rows
pub mod Stars
pub mod Spreads
pub mod ByLeft
pub mod Line
pub mod Workings
pub mod Founds
pub mod Outcomes
