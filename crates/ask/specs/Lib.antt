pub mod Sheets
pub mod Answer
pub mod Waiting
pub mod Unfinished
