pub mod Emitting
pub mod Labels
