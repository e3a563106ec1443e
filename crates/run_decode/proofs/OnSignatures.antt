pub mod Kept
pub mod Numbered
pub mod Once
pub mod Same
pub mod Told
