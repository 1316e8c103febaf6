pub mod Areas
pub mod Touches
