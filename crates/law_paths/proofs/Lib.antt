pub mod Searching
pub mod Falling
pub mod There
pub mod Once
