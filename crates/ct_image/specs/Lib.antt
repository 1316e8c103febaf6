pub mod Handed
pub mod Answers
pub mod Spans
pub mod Lain
pub mod Named
pub mod Packed
