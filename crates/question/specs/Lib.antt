pub mod Taken
pub mod Names
pub mod Codes
pub mod Number
