pub mod Counts
pub mod Fits
pub mod Made
pub mod Ranges
pub mod Standing
pub mod Placing
pub mod Launched
