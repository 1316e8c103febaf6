pub mod Tiny
pub mod Board
pub mod Whole
