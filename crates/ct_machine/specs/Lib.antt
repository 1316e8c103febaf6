pub mod Parts
pub mod Going
pub mod Starting
pub mod Onward
pub mod Quiet
