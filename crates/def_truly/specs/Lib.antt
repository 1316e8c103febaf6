-- What is told is what was done, and what is done is told.
pub mod Deeds
pub mod Changes
pub mod FailedChecks
pub mod Orders
pub mod DeviceAccesses
pub mod Exactly
pub mod Instructions
pub mod ThreadEnds
pub mod Turns
pub mod Postures
pub mod Answers
pub mod Rows
