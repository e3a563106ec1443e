pub mod Faults
pub mod Head
pub mod Stages
pub mod Parts
pub mod Ground
pub mod Entries
pub mod Ids
pub mod Filling
