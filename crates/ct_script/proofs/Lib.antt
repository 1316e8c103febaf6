pub mod Accounts
pub mod Parts
pub mod Windows
