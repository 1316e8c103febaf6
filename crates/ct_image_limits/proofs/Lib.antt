pub mod Heads
pub mod At
