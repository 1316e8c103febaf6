pub mod Threads
pub mod Parts
pub mod Starts
