pub mod Told
pub mod Bytes
pub mod Reads
pub mod Writes
pub mod Forms
