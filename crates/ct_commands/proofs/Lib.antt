pub mod Named
pub mod Lists
pub mod Given
pub mod Texts
pub mod Endings
pub mod Due
pub mod Answered
pub mod Told
