pub mod Seen
pub mod Counting
pub mod Locals
