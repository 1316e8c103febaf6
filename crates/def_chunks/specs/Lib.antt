-- Chunks in memory, the table of used ones, and the rows of objects that they stand for.
pub mod Chunks
pub mod Tiles
pub mod Changes
pub mod Gaps
pub mod Heaps
pub mod Kept
pub mod LiveObjects
pub mod Hides
