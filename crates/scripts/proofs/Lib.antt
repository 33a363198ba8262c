pub mod Hundredths
mod Remaining
pub mod Numbers
pub mod Widths
pub mod Putting
mod Progress
mod Beginning
pub mod Lines
pub mod Counting
pub mod Cursors
pub mod FieldReads
pub mod Saying
mod Readings
mod Trying
mod Once
mod Printing
