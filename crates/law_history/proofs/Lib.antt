mod Strips
mod Alikes
mod Allocations
mod Services
mod Tokens
mod Statuses
mod Waking
pub mod HandlesOnce
pub mod Same
pub mod Sweeping
pub mod Waiting
pub mod Gone
pub mod ReuseCharging
pub mod Given
pub mod Values
pub mod Changes
pub mod Numbered
pub mod Routines
pub mod Events
pub mod Listing
pub mod Moving
pub mod TokensEvents
pub mod Everywheres
pub mod Keying
pub mod Passing
pub mod Made
pub mod Fitting
pub mod Shutting
pub mod Naming
pub mod Sweeps
pub mod Whole
pub mod Openings
pub mod Lasting
pub mod Deriving
pub mod Holdings
pub mod Unopened
pub mod Standing
pub mod Steps
pub mod Telling
pub mod Ending
pub mod Returning
pub mod Cleaning
pub mod Handing
pub mod Charging
pub mod Trapping
pub mod Reaching
pub mod Attenuating
pub mod Locals
pub mod Within
pub mod Safety
pub mod Reusing
pub mod Running
pub mod Devices
