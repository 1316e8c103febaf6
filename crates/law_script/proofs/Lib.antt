pub mod Runs
pub mod Lines
pub mod Scripts
pub mod Coming
pub mod Fits
