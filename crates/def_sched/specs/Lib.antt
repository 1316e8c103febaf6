pub mod Statuses
pub mod Picks
pub mod Records
