pub mod Meanings
pub mod Extents
pub mod Places
