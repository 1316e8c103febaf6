pub mod Told
pub mod Masks
pub mod Tests
