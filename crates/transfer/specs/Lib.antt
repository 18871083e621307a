pub mod Operator
pub mod Order
pub mod Ranges
pub mod Spacings
pub mod Refuses
