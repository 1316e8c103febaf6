pub mod Faults
pub mod Lengths
pub mod Labelled
mod Forms
mod Loading
mod Operands
mod Pieces
pub mod Ranges
pub mod Saying
