pub mod Once
pub mod Places
pub mod Sets
pub mod Steps
