pub mod Words
pub mod Forms
pub mod Gates
pub mod Links
pub mod Keys
pub mod Going
pub mod Kept
