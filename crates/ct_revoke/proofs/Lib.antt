pub mod Filters
pub mod Passing
pub mod Heaps
