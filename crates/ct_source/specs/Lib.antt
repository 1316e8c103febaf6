pub mod Compact
pub mod Runs
pub mod Views
