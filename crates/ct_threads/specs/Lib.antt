pub mod Kept
pub mod Rows
pub mod Handling
pub mod Steps
pub mod Starts
pub mod Windows
