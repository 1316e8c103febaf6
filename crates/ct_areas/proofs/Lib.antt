pub mod Places
pub mod Same
pub mod Rows
pub mod Stopped
pub mod Registers
