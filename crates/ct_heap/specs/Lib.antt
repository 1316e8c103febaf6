-- What the calls of a heap do to its rows of objects, and to memory.
pub mod Table
pub mod Told
pub mod Lookups
pub mod Effects
pub mod Steps
