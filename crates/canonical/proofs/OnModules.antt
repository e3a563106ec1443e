pub mod Places
pub mod Back
pub mod Modules
pub mod ReadsOnly
