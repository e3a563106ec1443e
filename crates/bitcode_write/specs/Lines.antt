pub mod Ids
pub mod Lines
pub mod Parts
