pub mod Range
pub mod Text
pub mod Faults
pub mod Making
