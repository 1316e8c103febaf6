-- What the steps do to heads, and what they ask.
pub mod Writes
pub mod Multiples
pub mod Cuts
pub mod Joins
