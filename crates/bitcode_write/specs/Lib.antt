pub mod Put
pub mod Entries
pub mod Lines
