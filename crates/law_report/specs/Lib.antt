pub mod Written
pub mod Sharing
