pub mod Constructors
pub mod Readings
