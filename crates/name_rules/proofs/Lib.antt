pub mod Once
pub mod Told
pub mod Judging
pub mod Distinct
pub mod NewNames
pub mod Levels
pub mod Cycles
pub mod Walks
pub mod Ordered
pub mod Within
pub mod Fine
pub mod Below
mod Identifiers
mod WorkedRows
mod Modules
pub mod OnReading
pub mod OnPlaces
