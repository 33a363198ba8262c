pub mod Words
pub mod Tags
pub mod Text
pub mod Faults
pub mod Reading
pub mod Law
