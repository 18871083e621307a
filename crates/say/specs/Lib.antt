pub mod Said
pub mod Names
pub mod Texts
