pub mod Spelled
pub mod Standing
pub mod Named
pub mod Few
mod Numbered
