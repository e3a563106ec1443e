mod SameSide
mod Programs
mod Rows
mod HostRows
pub mod OnTraffic
pub mod OnLaws
pub mod OnPlayed
pub mod OnPlaces
