pub mod Areas
pub mod Versions
