pub mod Forms
pub mod Whole
pub mod Closing
pub mod Settled
pub mod Stopped
pub mod Ended
pub mod Found
