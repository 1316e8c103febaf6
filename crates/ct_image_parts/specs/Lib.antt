pub mod Converted
pub mod Written
pub mod Back
pub mod Places
