pub mod Answering
pub mod Arguments
pub mod Serves
pub mod Conditions
