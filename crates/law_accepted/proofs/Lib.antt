pub mod Running
pub mod Once
pub mod Named
pub mod Imports
pub mod Accesses
pub mod Runs
pub mod Lines
pub mod Staying
