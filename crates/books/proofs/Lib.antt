pub mod Bulks
pub mod Decodings
pub mod Meanings
pub mod Replaced
pub mod Lents
pub mod WordRuns
