pub mod Addresses
pub mod Integers
pub mod Parts
pub mod Inside
pub mod Turned
