pub mod Sums
pub mod Decoding
pub mod Loading
pub mod Written
pub mod Faults
