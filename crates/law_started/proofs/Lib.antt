pub mod Tags
pub mod Threads
pub mod Granules
pub mod Whole
pub mod Shutting
pub mod Settling
pub mod Blanking
pub mod Tokening
pub mod Grants
pub mod Starting
mod Deriving
mod Entries
mod BootPlacesTags
mod Fixing
pub mod Globality
