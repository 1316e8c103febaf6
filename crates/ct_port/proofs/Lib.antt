pub mod Added
mod Files
mod Parts
mod Writers
pub mod Pieces
