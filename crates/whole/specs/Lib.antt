pub mod Choice
pub mod Test
pub mod Whole
pub mod Range
pub mod Divides
pub mod Exact
pub mod Sized
