pub mod Multiples
pub mod Walks
pub mod Cuts
pub mod Painting
pub mod Absorbing
