pub mod AnyBoot
pub mod Rows
pub mod Booted
pub mod Actors
pub mod Turns
pub mod Sounds
