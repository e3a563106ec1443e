pub mod Naming
pub mod Filling
