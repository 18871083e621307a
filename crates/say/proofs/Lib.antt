pub mod Saying
pub mod Spaced
pub mod Numbered
pub mod Sizes
pub mod Claims
