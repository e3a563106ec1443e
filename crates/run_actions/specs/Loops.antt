pub mod Halts
pub mod Stretches
