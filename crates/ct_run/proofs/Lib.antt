pub mod Pieces
pub mod Coming
pub mod Text
pub mod Ticking
pub mod Going
pub mod Onward
