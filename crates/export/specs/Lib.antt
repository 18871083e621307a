pub mod Call
pub mod Sheets
