pub mod Exports
pub mod Ready
pub mod Calls
