pub mod Shaped
pub mod Walking
