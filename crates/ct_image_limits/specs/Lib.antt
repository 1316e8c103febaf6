pub mod Owners
pub mod Whole
