pub mod Counted
pub mod Naming
pub mod Gathering
