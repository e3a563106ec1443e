pub mod Spans
pub mod Flat
pub mod Grown
