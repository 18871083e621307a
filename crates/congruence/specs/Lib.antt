pub mod Set
pub mod Answer
pub mod Numbers
pub mod Mended
pub mod Ported
pub mod Meaning
