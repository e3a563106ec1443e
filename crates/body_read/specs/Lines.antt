pub mod Operations
pub mod Kept
