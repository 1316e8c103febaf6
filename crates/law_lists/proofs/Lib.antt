pub mod Sets
pub mod Maps
pub mod Tests
pub mod Finds
pub mod Alls
pub mod Places
