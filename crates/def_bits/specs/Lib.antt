-- Fields, signed numbers and least multiples.
pub mod Bits
