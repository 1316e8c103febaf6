pub mod Numbers
pub mod Words
pub mod Bytes
pub mod Lists
pub mod Apart
