pub mod Scopes
pub mod Places
pub mod Leaves
pub mod Ways
