pub mod Own
pub mod Plain
pub mod Numbered
pub mod Ranges
pub mod Entering
