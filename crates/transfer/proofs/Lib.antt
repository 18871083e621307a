pub mod Keys
pub mod Numbered
pub mod Owned
pub mod Claims
