pub mod Cuts
pub mod Digits
pub mod Front
pub mod Keeping
pub mod Takes
pub mod Told
pub mod Written
