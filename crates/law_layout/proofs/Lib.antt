pub mod Multiples
pub mod Placing
pub mod Rounding
