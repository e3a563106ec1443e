pub mod Order
pub mod Dependency
pub mod Mentions
pub mod Measuring
