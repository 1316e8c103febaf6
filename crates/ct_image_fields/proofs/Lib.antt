pub mod Loop
pub mod Exact
pub mod Turns
pub mod Parts
pub mod Whole
pub mod Readings
pub mod Unbroken
