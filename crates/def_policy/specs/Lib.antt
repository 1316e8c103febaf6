pub mod Resources
pub mod Rules
pub mod Names
pub mod Rulings
pub mod Texts
pub mod Breaking
pub mod Denials
pub mod Denied
