pub mod Owners
pub mod Slots
pub mod Linked
pub mod Code
pub mod Places
pub mod Links
