pub mod Formats
pub mod OnEnds
