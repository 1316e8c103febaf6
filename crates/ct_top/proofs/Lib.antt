pub mod Booted
pub mod Named
pub mod Generated
pub mod Linkable
pub mod Turning
