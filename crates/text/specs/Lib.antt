pub mod Ascii
pub mod Room
pub mod Decimal
pub mod Number
pub mod End
pub mod Word
pub mod Hex
