pub mod Carrying
pub mod Fetching
pub mod Windows
pub mod Onward
pub mod Moves
pub mod Turns
pub mod Past
pub mod Loads
