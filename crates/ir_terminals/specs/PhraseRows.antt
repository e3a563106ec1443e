pub mod Row
pub mod Reads
pub mod Answer
