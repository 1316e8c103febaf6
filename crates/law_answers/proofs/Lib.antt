pub mod Tests
pub mod Facts
pub mod Ends
