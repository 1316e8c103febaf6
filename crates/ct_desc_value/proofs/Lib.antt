pub mod Lists
pub mod NamedRows
pub mod Walks
