pub mod Roots
pub mod Sharing
pub mod Reach
pub mod Route
pub mod There
pub mod Laws
