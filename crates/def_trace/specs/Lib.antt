pub mod Trace
pub mod Quiet
