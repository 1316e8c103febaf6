pub mod Writes
pub mod Frames
pub mod Changes
