pub mod FreshNames
pub mod LabelSteps
pub mod LabelTables
pub mod Objects
pub mod Reach
pub mod Walks
