pub mod Set
pub mod Ends
pub mod Mended
pub mod Full
pub mod Ported
pub mod Results
pub mod Promise
pub mod PortedPromise
