pub mod Starts
pub mod Slots
pub mod Launching
pub mod Placed
