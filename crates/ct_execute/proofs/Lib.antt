pub mod Executed
pub mod Opens
pub mod Quiet
pub mod Statuses
