pub mod Script
pub mod Bytes
pub mod Coming
