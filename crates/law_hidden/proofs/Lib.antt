pub mod Live
pub mod Granules
pub mod Steps
pub mod Seen
pub mod Shown
pub mod Slices
pub mod Objects
pub mod Areas
