pub mod Answers
pub mod Switching
pub mod Held
pub mod Serving
pub mod Granted
pub mod Sealed
pub mod Rests
