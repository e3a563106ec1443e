pub mod Clamped
pub mod Counted
pub mod Elements
pub mod FirstPast
pub mod Sizes
