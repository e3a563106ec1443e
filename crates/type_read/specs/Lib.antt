pub mod Fields
pub mod Listed
pub mod Pending
pub mod Arena
