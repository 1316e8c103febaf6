pub mod Back
pub mod Complete
