pub mod Outlines
pub mod Counted
