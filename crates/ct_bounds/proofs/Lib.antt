pub mod Corners
pub mod Candidates
