pub mod Rights
pub mod Labels
pub mod Edges
pub mod Lines
pub mod Report
pub mod Listing
pub mod Parts
