-- What a list of granules is, what is read from it and what changes leave of it.
pub mod Granules
pub mod Accesses
pub mod Ranges
