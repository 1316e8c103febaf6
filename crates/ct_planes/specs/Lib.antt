pub mod Fills
pub mod Bits
pub mod Bytes
pub mod Lent
pub mod View
pub mod Scan
