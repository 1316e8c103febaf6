pub mod OnOks
pub mod Told
pub mod NameTexts
pub mod Rows
pub mod Backs
pub mod Sized
pub mod Walked
pub mod Ones
