pub mod Put
pub mod Claims
