pub mod Showing
pub mod Rising
pub mod Rows
pub mod Heads
pub mod Calls
