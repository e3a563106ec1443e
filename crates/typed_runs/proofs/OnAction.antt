pub mod Scalars
pub mod Values
pub mod Memory
pub mod Steps
pub mod Parts
pub mod Calls
pub mod Operations
