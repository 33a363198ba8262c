pub mod Writings
pub mod Readings
pub mod Texts
