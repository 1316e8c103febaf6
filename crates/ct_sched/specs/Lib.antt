pub mod Choosing
pub mod Sched
