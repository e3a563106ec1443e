pub mod Marking
pub mod Sweeping
pub mod Naming
