pub mod Fillings
pub mod Spelling
pub mod Runs
pub mod Nexts
pub mod Zeros
pub mod Holding
pub mod Planed
