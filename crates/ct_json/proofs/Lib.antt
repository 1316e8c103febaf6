pub mod Converted
pub mod Naturals
pub mod Nodes
pub mod Pairs
pub mod Reading
pub mod Standing
pub mod Turns
