pub mod Standings
pub mod Spots
pub mod Told
pub mod Entry
pub mod Values
pub mod Host
pub mod Shapes
pub mod Types
