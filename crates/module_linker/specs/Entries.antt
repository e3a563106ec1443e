pub mod Room
pub mod Step
pub mod Definitions
