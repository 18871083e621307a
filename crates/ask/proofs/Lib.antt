pub mod Running
pub mod Checking
pub mod Sheeting
pub mod Storing
pub mod Ending
