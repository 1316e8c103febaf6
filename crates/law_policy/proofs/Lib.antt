pub mod Texts
pub mod There
pub mod Denials
pub mod Kept
