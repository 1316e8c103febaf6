-- What an event may change, and by what.
pub mod Acting
pub mod Touched
pub mod Threads
pub mod Devices
pub mod HeapRows
pub mod Integrity
pub mod Homes
