pub mod Chosen
pub mod Plain
pub mod Pieces
