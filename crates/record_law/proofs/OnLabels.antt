pub mod Lasting
pub mod Kept
pub mod Named
pub mod Ahead
pub mod Sound
