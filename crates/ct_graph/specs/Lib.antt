pub mod Cells
pub mod Links
pub mod Nodes
