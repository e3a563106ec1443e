pub mod Looked
pub mod Wider
