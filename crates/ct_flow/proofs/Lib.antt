pub mod Links
pub mod Through
