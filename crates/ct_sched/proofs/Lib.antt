pub mod Picked
pub mod Ready
pub mod Woken
