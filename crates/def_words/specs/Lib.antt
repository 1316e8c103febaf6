-- The written definitions over the words of a capability machine, by subject.
pub mod Authority
pub mod Permissions
pub mod LeastBounds
pub mod Seals
pub mod Traps
pub mod Capability
pub mod Loaded
pub mod Jumped
pub mod Derive
pub mod Narrows
pub mod Facts
