pub mod Check
pub mod Promise
pub mod Five
pub mod Answer
pub mod Kept
pub mod Plain
pub mod Fourteen
