pub mod Calls
pub mod Divided
pub mod Shapes
pub mod Ranges
pub mod Gave
pub mod SignHas
pub mod SpacingHas
pub mod Claims
